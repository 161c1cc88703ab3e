use Rattle.bac_text.specs.Checking.{count_of}
use Rattle.bac_text.proofs.SoFar.{line_counted_at}
use Rattle.bac_text.proofs.check.check_next.Goals as goal

pub returns-in-Ok-clause-step : goal.returns-in-Ok-clause-step
returns-in-Ok-clause-step g c =
    line_counted_at c.args.style.in_words c.args.style.notes (g.R.Read.remaining c.args.input.now) (g.R.Read.remaining c.next_line.new.input) (g.W.Write.contents c.args.out.now)
    (g.W.Write.contents c.check_line.new.out) c.next_line.new.line.items c.deref.result.now (count_of c.args.tally) (count_of c.in-Ok.counted) _
    c.deref.ensures.value c.in-Ok-true.field-0-test c.in-Ok-true.ensures c.in-Ok.ensures.is
