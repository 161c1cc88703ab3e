use Rattle.bac_moment.proofs.Times.{time_told}
use Rattle.bac_moment.proofs.time.text_at.Goals as goal

pub returns-in-Some : goal.returns-in-Some
returns-in-Some c =
    time_told c.args.milliseconds c.new.result c.precision-printer.result c.in-Some.timestamp _ c.new.ensures c.precision-printer.ensures
    c.in-Some.ensures.some c.timestamp_text.ensures
