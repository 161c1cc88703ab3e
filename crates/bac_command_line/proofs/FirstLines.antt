-- An output that fails is no fault of what is told.
use Rattle.bac_text.specs.Statuses.{IsFailure}
use Rattle.bac_text.specs.declared.status.Status.{Status}
use Rattle.bac_text.specs.declared.status.Status.TheVariants as status
use Rattle.bac_command_line.specs.Tasks.{IsTold}

pub failed_told : (s : Status) → IsFailure s → IsTold s
failed_told status.Done f = tt
failed_told status.Faulty f = f
failed_told status.CommandLine f = tt
failed_told status.Output f = tt
failed_told status.Memory f = tt
