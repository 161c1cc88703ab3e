use Rattle.std.proofs.Common.{arith}
use Rattle.bac_capture.proofs.Runs.{same_so_far, more_so_far, some_within, run_ended}
use Rattle.bac_capture.proofs.run.read_run.Goals.{in-None, in-Some}
use Rattle.bac_capture.proofs.run.read_run.Goals as goal

pub returns-in-Some-eq0 : goal.returns-in-Some-eq0
returns-in-Some-eq0 g c =
    run_ended (g.R.Read.remaining c.args.input.now) (g.R.Read.remaining c.loop.input) (g.R.Read.remaining c.take_part.new.input) _ c.args.count c.loop.left _
    c.loop.kept.items c.take_part.new.kept.items c.in_ok-take_part.field-0 c.loop.invariant.2 (omega (arith, c.if-left-eq0.false))
    (omega (arith, c.loop.invariant.1)) c.in_ok-take_part.ensures.taken c.in-Some-eq0.is c.in-Some-eq0.field-0-test

pub loop-preserved : goal.loop-preserved
loop-preserved g c = elim c.match-branch-2.branch [
  | in-None w ↦ (
    c.in_ok-take_part.ensures.short,
    omega (arith, c.loop.invariant.1, w.left-is),
    same_so_far (g.R.Read.remaining c.args.input.now) (g.R.Read.remaining c.loop.input) (g.R.Read.remaining c.take_part.new.input) _ _ c.loop.left
        c.loop.kept.items c.take_part.new.kept.items c.in_ok-take_part.field-0 c.loop.invariant.2 c.in_ok-take_part.ensures.taken w.in-None.is
        (omega (arith, w.left-is)),
  )
  | in-Some w ↦
      let within = some_within c.in_ok-take_part.field-0 w.in-Some.taken c.loop.left c.in_ok-take_part.ensures.within w.in-Some.is in (
        c.in_ok-take_part.ensures.short,
        omega (arith, c.loop.invariant.1, w.left-is),
        more_so_far (g.R.Read.remaining c.args.input.now) (g.R.Read.remaining c.loop.input) (g.R.Read.remaining c.take_part.new.input) _ c.loop.left
            w.in-Some.taken _ c.loop.kept.items c.take_part.new.kept.items c.in_ok-take_part.field-0 c.loop.invariant.2
            (omega (arith, c.if-left-eq0.false)) (omega (arith, within, c.loop.invariant.1, w.left-is)) c.in_ok-take_part.ensures.taken w.in-Some.is,
      )
]
