use Rattle.bac_commands.proofs.PrintedAnswers.{all_printed}
use Rattle.bac_commands.proofs.answering.printing.print_answers.Goals as goal

pub returns : goal.returns
returns g c =
    all_printed _ _ _ _ _ _ _ _ c.in-Ok.ensures c.deref.ensures.value c.in_ok-print_sent.ensures c.flush.ensures.bytes
