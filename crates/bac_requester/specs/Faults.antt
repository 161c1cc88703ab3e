-- The numbers of the faults of an ask (own numbers of this profile).
use Rattle.std.specs.Prelude.{ℕ}
use Rattle.bac_requester.specs.declared.ask_fault.AskFault.{AskFault}
use Rattle.bac_requester.specs.declared.ask_fault.AskFault.TheVariants as fault

abbrev pub ask_fault_number : AskFault → ℕ
ask_fault_number fault.NoSlot = 1
ask_fault_number fault.NoInvokeId = 2
ask_fault_number fault.NeedsSegments = 3
ask_fault_number fault.TooLong = 4
ask_fault_number fault.SelfPeer = 5
ask_fault_number fault.ClockBack = 6
ask_fault_number fault.NoMemory = 7
