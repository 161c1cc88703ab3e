-- Why an ask was refused, in words.
use Rattle.std.specs.Prelude.{ℕ, List, ◌++◌, codes, decimal}
use Rattle.bac_requester.specs.Faults.{ask_fault_number}
use Rattle.bac_requester.specs.declared.ask_fault.AskFault.{AskFault}
use Rattle.bac_requester.specs.declared.ask_fault.AskFault.TheVariants as fault

abbrev pub ask_fault_words : AskFault → List ℕ
ask_fault_words fault.NoSlot = codes "no slot is free"
ask_fault_words fault.NoInvokeId = codes "no invoke ID is free for the peer"
ask_fault_words fault.NeedsSegments = codes "the peer accepts no segments, or fewer than the request needs"
ask_fault_words fault.TooLong = codes "the data exceed 65,535 octets"
ask_fault_words fault.SelfPeer = codes "the peer is at the node's own link"
ask_fault_words fault.ClockBack = codes "the clock went back"
ask_fault_words fault.NoMemory = codes "no memory"

-- the number of a fault, and why in words
abbrev pub numbered_words : (fault : ℕ) → (words : List ℕ) → List ℕ
numbered_words fault words = decimal fault ++ (codes ": " ++ words)

abbrev pub refused_words : AskFault → List ℕ
refused_words why = codes "refused " ++ numbered_words (ask_fault_number why) (ask_fault_words why)
