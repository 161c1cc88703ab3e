-- Why a turn is not taken, by numbers.
use Rattle.std.specs.Prelude.{ℕ}
use Rattle.bac_driver.specs.declared.fault.TurnFault.{TurnFault}
use Rattle.bac_driver.specs.declared.fault.TurnFault.TheVariants as fault
use Rattle.bac_driver.specs.declared.fault.RoundFault.{RoundFault}
use Rattle.bac_driver.specs.declared.fault.RoundFault.TheVariants as round

abbrev pub fault_number : TurnFault → ℕ
fault_number fault.Link = 1
fault_number fault.ClockBack = 2

-- a round stops where a turn is not taken
abbrev pub round_fault : TurnFault → RoundFault
round_fault fault.Link = round.Link
round_fault fault.ClockBack = round.ClockBack
