-- Where a command failed, its status says nothing more.
use Rattle.bac_text.specs.Statuses.{IsFailure}
use Rattle.bac_text.specs.declared.status.Status.{Status}
use Rattle.bac_text.specs.declared.status.Status.TheVariants as status
use Rattle.bac_commands.specs.Statuses.{ByStatus}

pub failed : (s : Status) (done faulty refused : Type 0) → IsFailure s → ByStatus s done faulty refused
failed status.Done done faulty refused f = absurd f
failed status.Faulty done faulty refused f = absurd f
failed status.CommandLine done faulty refused f = absurd f
failed status.Output done faulty refused f = tt
failed status.Memory done faulty refused f = tt
