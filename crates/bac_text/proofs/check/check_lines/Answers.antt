use Rattle.std.proofs.Common.{refl, arith}
use Rattle.bac_text.proofs.SoFar.{none_so_far, one_more_at, all_counted_at}
use Rattle.bac_text.proofs.check.check_lines.Goals as goal

pub loop-datagram-init : goal.loop-datagram-init
loop-datagram-init g c = (
  omega arith,
  none_so_far c.args.style.in_words c.args.style.notes (g.R.Read.remaining c.args.input.now) (g.W.Write.contents c.args.out.now)
      (record { lines = 0; good = 0; bad = 0; latest = 0 }) refl refl refl refl,
)

pub loop-datagram-preserved : goal.loop-datagram-preserved
loop-datagram-preserved g c = (
  c.in-Some.next.counted,
  one_more_at c.args.style.in_words c.args.style.notes (g.R.Read.remaining c.args.input.now) (g.R.Read.remaining c.loop-datagram.input) (g.R.Read.remaining c.check_next.new.input)
      (g.W.Write.contents c.args.out.now) (g.W.Write.contents c.loop-datagram.out) (g.W.Write.contents c.check_next.new.out)
      (record { lines = c.loop-datagram.tally.0; good = c.loop-datagram.tally.1.0; bad = c.loop-datagram.tally.1.1.0; latest = c.loop-datagram.tally.1.1.1.0 })
      c.in_ok-next.field-0 c.in-Some.next c.loop-datagram.invariant.1 c.in_ok-next.ensures.step c.in-Some.is,
)

pub returns : goal.returns
returns g c =
    all_counted_at c.args.style.in_words c.args.style.notes (g.R.Read.remaining c.args.input.now) (g.R.Read.remaining c.loop-datagram.input) (g.R.Read.remaining c.check_next.new.input)
    (g.W.Write.contents c.args.out.now) (g.W.Write.contents c.loop-datagram.out) (g.W.Write.contents c.check_next.new.out)
    (record { lines = c.loop-datagram.tally.0; good = c.loop-datagram.tally.1.0; bad = c.loop-datagram.tally.1.1.0; latest = c.loop-datagram.tally.1.1.1.0 })
    c.in_ok-next.field-0 c.loop-datagram.invariant.1 c.in_ok-next.ensures.step c.in_default.is
