-- The numbers of faults and causes.
use Rattle.std.specs.Prelude.{ℕ}
use Rattle.bac_node.specs.declared.cause.Cause.{Cause}
use Rattle.bac_node.specs.declared.cause.Cause.TheVariants as cause
use Rattle.bac_node.specs.declared.fault.NewNodeFault.{NewNodeFault}
use Rattle.bac_node.specs.declared.fault.NewNodeFault.TheVariants as new_fault
use Rattle.bac_node.specs.declared.fault.NodeFault.{NodeFault}
use Rattle.bac_node.specs.declared.fault.NodeFault.TheVariants as fault

abbrev pub new_fault_number : NewNodeFault → ℕ
new_fault_number new_fault.BadSlots = 1
new_fault_number new_fault.NoMemory = 2
new_fault_number new_fault.BadWindow = 3

abbrev pub fault_number : NodeFault → ℕ
fault_number fault.ClockBack = 1
fault_number fault.NoMemory = 2

abbrev pub cause_number : Cause → ℕ
cause_number (cause.Bvll fault) = 1
cause_number (cause.Npdu fault) = 2
cause_number cause.Routed = 3
cause_number cause.NetworkMessage = 4
cause_number cause.Apdu = 5
cause_number cause.OwnLink = 6
