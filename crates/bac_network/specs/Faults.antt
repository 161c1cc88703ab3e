-- The numbers of faults.
use Rattle.std.specs.Prelude.{ℕ}
use Rattle.bac_network.specs.declared.fault.NewWorldFault.{NewWorldFault}
use Rattle.bac_network.specs.declared.fault.NewWorldFault.TheVariants as new_fault
use Rattle.bac_network.specs.declared.fault.WorldFault.{WorldFault}
use Rattle.bac_network.specs.declared.fault.WorldFault.TheVariants as fault

abbrev pub fault_number : WorldFault → ℕ
fault_number fault.NoSuchNode = 1
fault_number fault.NoSuchDatagram = 2
fault_number fault.NodeLink = 10
fault_number fault.ClockEnd = 3
fault_number (fault.BadChange why) = 9
fault_number fault.TooSoon = 11
fault_number fault.NoMemory = 4

abbrev pub new_fault_number : NewWorldFault → ℕ
new_fault_number new_fault.SameLink = 5
new_fault_number new_fault.BadSlots = 6
new_fault_number new_fault.BadWindow = 7
new_fault_number new_fault.BadBound = 8
new_fault_number new_fault.NoMemory = 4
