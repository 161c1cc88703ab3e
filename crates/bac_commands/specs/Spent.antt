-- When a node has nothing left for an ask.
use Rattle.std.specs.Prelude.{Bool, true, false}
use Rattle.bac_requester.specs.declared.ask_fault.AskFault.{AskFault}
use Rattle.bac_requester.specs.declared.ask_fault.AskFault.TheVariants as fault

-- it has no invoke ID left for the peer, or no slot
abbrev pub is_spent : AskFault → Bool
is_spent fault.NoSlot = true
is_spent fault.NoInvokeId = true
is_spent fault.NeedsSegments = false
is_spent fault.TooLong = false
is_spent fault.SelfPeer = false
is_spent fault.ClockBack = false
is_spent fault.NoMemory = false
