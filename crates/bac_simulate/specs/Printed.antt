-- What is printed of an event in a network of nodes.
use Rattle.std.specs.Prelude.{ℕ, codes, decimal, ◌+◌, ◌-◌, Bool, true, false, ◌&&◌, nat_eq, nat_le, if◌then◌else◌, List, [], ◌∷◌, ◌++◌, length, drop}
use Rattle.std.specs.Prelude.{reverse, Option, Some, None, slice_get}
use Rattle.bac_npdu.specs.Peers.{PeerView}
use Rattle.bac_requester.specs.Faults.{ask_fault_number}
use Rattle.bac_requester.specs.declared.ask_fault.AskFault.{AskFault}
use Rattle.bac_world.specs.Once.{Fact}
use Rattle.bac_world.specs.Once.Fact.{Asked, Performed, Ended, Changed, Restarted, Served, AskedAway, EndedAway}
use Rattle.bac_world.specs.World.{Copy, Note}
use Rattle.bac_network.specs.Histories.{WorldView}
use Rattle.bac_commands.specs.Facts.{asked_line, changed_line, ended_line, nothing_line, performed_line, refused_line, sent_line}
use Rattle.bac_service.specs.Replies.{Reply}
use Rattle.bac_service_text.specs.Answers.{reply_text}
use Rattle.bac_text.specs.Peers.{peer_text}
use Rattle.bac_text.specs.Texts.{line_end}

-- a node restarted
abbrev pub restarted_line : (node : ℕ) → List ℕ
restarted_line node = codes "restarted " ++ decimal node ++ line_end

-- an accepted ask, by what is noted of it
abbrev pub asked_text : (ask : ℕ) → Option Note → List ℕ
asked_text ask None = []
asked_text ask (Some note) = asked_line ask note.key.invoke_id

-- a request of a stranger was performed at a node, with that reply
abbrev pub served_head : (node : ℕ) → PeerView → List ℕ
served_head node peer = codes "served " ++ (decimal node ++ (codes " " ++ (peer_text peer ++ codes ": ")))

abbrev pub served_line : (node : ℕ) → PeerView → Reply → List ℕ
served_line node peer reply = served_head node peer ++ (reply_text reply ++ line_end)

-- an ask of a stranger was accepted
abbrev pub asked_away_line : (ask : ℕ) → PeerView → List ℕ
asked_away_line ask peer = codes "asked " ++ (decimal ask ++ (codes " " ++ (peer_text peer ++ line_end)))

-- a fact, where these notes are of the accepted asks, oldest first
abbrev pub fact_text : List Note → Fact → List ℕ
fact_text notes (Asked ask client server request) = asked_text ask (slice_get notes ask)
fact_text notes (Performed ask request reply) = performed_line ask
fact_text notes (Ended ask how) = ended_line ask how
fact_text notes (Changed node change) = changed_line node
fact_text notes (Restarted node store) = restarted_line node
fact_text notes (Served peer node invoke_id begin request reply) = served_line node peer reply
fact_text notes (AskedAway ask client peer request) = asked_away_line ask peer
fact_text notes (EndedAway ask how) = ended_line ask how

abbrev pub facts_text : List Note → List Fact → List ℕ
facts_text notes [] = []
facts_text notes (f ∷ facts) = fact_text notes f ++ facts_text notes facts

-- copies that were sent, numbered from this number on
abbrev pub copies_text : (number : ℕ) → List Copy → List ℕ
copies_text number [] = []
copies_text number (c ∷ copies) = sent_line number c.from c.to c.octets ++ copies_text (number + 1) copies

-- nothing is new
abbrev pub is_as_before : (facts copies : ℕ) → WorldView → Bool
is_as_before facts copies w = nat_eq (length w.log) facts && nat_eq (length w.copies) copies

-- the facts after so many, oldest first, and then the copies after so many
abbrev pub news_text : (as_before : Bool) → (facts copies : ℕ) → WorldView → List ℕ
news_text true facts copies w = nothing_line
news_text false facts copies w = facts_text (reverse w.notes) (drop facts (reverse w.log)) ++ copies_text copies (drop copies w.copies)

-- a copy that counts as lost
abbrev pub lost_line : (copy : ℕ) → List ℕ
lost_line copy = (codes "lost " ++ decimal copy) ++ line_end

-- by how many parts in a million a clock is fast, or slow after a minus, which goes on by so many while a million of real time pass
abbrev pub pace_text : (rate : ℕ) → List ℕ
pace_text rate = if nat_le 1000000 rate then decimal (rate - 1000000) else codes "-" ++ decimal (1000000 - rate)

-- from now on a node's clock goes so fast
abbrev pub paced_line : (node rate : ℕ) → List ℕ
paced_line node rate = (codes "paced " ++ (decimal node ++ codes " ")) ++ (pace_text rate ++ line_end)

-- a refused ask, by the number of its fault; or what is new in a world that had so many facts and copies
abbrev pub outcome_text : Option AskFault → (facts copies : ℕ) → WorldView → List ℕ
outcome_text (Some fault) facts copies w = refused_line (ask_fault_number fault)
outcome_text None facts copies w = news_text (is_as_before facts copies w) facts copies w
