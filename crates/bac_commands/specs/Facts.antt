-- The lines by which asks, what is performed and sent, and endings are printed.
use Rattle.std.specs.Prelude.{ℕ, List, ◌++◌, codes, decimal}
use Rattle.hex.specs.Hex.{encode_upper}
use Rattle.bac_service_text.specs.Answers.{reply_text}
use Rattle.bac_service_text.specs.Members.{line_end}
use Rattle.bac_transaction.specs.Meanings.{Ending}
use Rattle.bac_transaction.specs.Meanings.Ending.{Answered, Rejected, Aborted, TimedOut, Expired}

-- ---- how an ask ended

abbrev pub ending_text : Ending → List ℕ
ending_text (Answered r) = reply_text r
ending_text (Rejected reason) = codes "rejected " ++ decimal reason
ending_text (Aborted reason) = codes "aborted " ++ decimal reason
ending_text TimedOut = codes "timed-out"
ending_text Expired = codes "expired"

-- ---- lines

abbrev pub ending_line : Ending → List ℕ
ending_line how = ending_text how ++ line_end

-- an ask was accepted, with that number and invoke ID
abbrev pub asked_line : (number invoke_id : ℕ) → List ℕ
asked_line number invoke_id = codes "asked " ++ decimal number ++ codes " id " ++ decimal invoke_id ++ line_end

-- or refused, by the number of the fault
abbrev pub refused_line : (fault : ℕ) → List ℕ
refused_line fault = codes "refused " ++ decimal fault ++ line_end

-- the request of an ask was performed
abbrev pub performed_line : (number : ℕ) → List ℕ
performed_line number = codes "performed " ++ decimal number ++ line_end

-- a node changed its own store
abbrev pub changed_line : (node : ℕ) → List ℕ
changed_line node = codes "changed " ++ decimal node ++ line_end

-- an ask has ended
abbrev pub ended_line : (number : ℕ) → Ending → List ℕ
ended_line number how = codes "ended " ++ decimal number ++ codes " " ++ ending_line how

-- a copy was sent, from a node to another
abbrev pub sent_line : (copy from to : ℕ) → (octets : List ℕ) → List ℕ
sent_line copy from to octets =
    codes "sent " ++ decimal copy ++ codes " " ++ decimal from ++ codes ">" ++ decimal to ++ codes " " ++ encode_upper octets ++ line_end

abbrev pub nothing_line : List ℕ
nothing_line = codes "nothing" ++ line_end

-- a fault of the world ended a script at that line
abbrev pub fault_line : (line fault : ℕ) → List ℕ
fault_line line fault = codes "line " ++ decimal line ++ codes ": fault " ++ decimal fault ++ line_end
