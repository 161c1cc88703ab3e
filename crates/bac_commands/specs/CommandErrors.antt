-- Why a command stopped, of why a run did.
use Rattle.bac_driver.specs.declared.fault.TurnFault.{TurnFault}
use Rattle.bac_driver.specs.declared.fault.TurnFault.TheVariants as fault
use Rattle.bac_driver.specs.declared.fault.RoundFault.{RoundFault}
use Rattle.bac_driver.specs.declared.fault.RoundFault.TheVariants as round_fault
use Rattle.bac_commands.specs.declared.online.command_error.CommandError.{CommandError}
use Rattle.bac_commands.specs.declared.online.command_error.CommandError.TheVariants as command_error
use Rattle.bac_text.specs.Statuses.{IsFailure}
use Rattle.bac_text.specs.declared.status.Status.{Status}
use Rattle.bac_text.specs.declared.status.Status.TheVariants as status
use Rattle.std.specs.Prelude.{◌≡◌}

abbrev pub trouble_of : TurnFault → CommandError
trouble_of fault.Link = command_error.Link
trouble_of fault.ClockBack = command_error.Clock

abbrev pub trouble_of_round : RoundFault → CommandError
trouble_of_round round_fault.Link = command_error.Link
trouble_of_round round_fault.ClockBack = command_error.Clock
trouble_of_round (round_fault.Keep why) = command_error.Keep why

-- the status that says it; of a failed output it may also be that memory was refused
abbrev pub IsPrintedBy : CommandError → Status → Type 0
IsPrintedBy command_error.Link s = s ≡ status.Output
IsPrintedBy command_error.Clock s = s ≡ status.Output
IsPrintedBy (command_error.Keep why) s = s ≡ status.Output
IsPrintedBy command_error.Memory s = s ≡ status.Memory
IsPrintedBy (command_error.Output error) s = IsFailure s
