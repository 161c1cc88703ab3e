-- The record was printed, and then flushed.
use Rattle.bac_driver.specs.Views.{question_view}
use Rattle.bac_asking.proofs.Recorded.{record_printed}
use Rattle.bac_environment.specs.QuestionLines.{asker_view}
use Rattle.bac_asking.proofs.recording.print_record.Goals as goal

pub returns : goal.returns
returns g c =
    record_printed c.args.form _ (asker_view c.args.asker) _ _ (question_view c.args.question.now) c.args.end.now _ _ _ _ _ _ _ _ c.in_ok-told.ensures c.as_request.ensures
    c.outcome_of.ensures c.deref.ensures.value c.in_ok-print_in.ensures c.in_ok-flush.ensures.bytes
