-- What is drawn of what comes of a script's lines.
use Rattle.std.specs.Prelude.{◌≡◌, ℕ, codes, decimal, ◌+◌, ◌/◌, Bool, true, false, List, [], ◌∷◌, ◌++◌, length, map, drop, reverse, Option, Some, None}
use Rattle.std.specs.Prelude.{slice_get}
use Rattle.std.specs.Option.{option_map}
use Rattle.bac_chart.specs.Labels.{datagram_words}
use Rattle.bac_chart.specs.Marks as marks
use Rattle.bac_chart.specs.Marks.{Mark}
use Rattle.bac_chart.specs.Views.{mark_view}
use Rattle.bac_chart.specs.declared.mark.Mark as code
use Rattle.bac_commands.specs.Facts.{ending_text}
use Rattle.bac_transaction.specs.Meanings.{Ending}
use Rattle.bac_journal.specs.Clocks.{pace_of}
use Rattle.bac_npdu.specs.Peers.{PeerView}
use Rattle.bac_network.specs.Histories.{WorldView}
use Rattle.bac_requester.specs.Faults.{ask_fault_number}
use Rattle.bac_requester.specs.declared.ask_fault.AskFault.{AskFault}
use Rattle.bac_store.specs.AtNode.{change_fault_number}
use Rattle.bac_store.specs.declared.change_fault.ChangeFault.{ChangeFault}
use Rattle.bac_world.specs.Once.{Fact}
use Rattle.bac_world.specs.Once.Fact.{Asked, Performed, Ended, Changed, Restarted, Served, AskedAway, EndedAway}
use Rattle.bac_world.specs.World.{Copy, Note, is_deliverable}
use Rattle.bac_simulate.specs.Happenings.{Happening}
use Rattle.bac_simulate.specs.Happenings.Happening.{Ask, Deliver, Noise, Tick, Advance, Change, Restart, Begin, BeginAgain, Stranger, AskStranger}
use Rattle.bac_simulate.specs.Moments.{ms_now, parts_in}
use Rattle.bac_simulate.specs.Printed.{pace_text}
use Rattle.bac_text.specs.Peers.{link_text, peer_text}

-- ---- copies

-- where so many parts of a moment are a millisecond
abbrev pub arrow_of : (parts number : ℕ) → Copy → marks.Arrow
arrow_of parts number c = record { number = number; sent = c.moment / parts; from = c.from; to = c.to; words = datagram_words c.octets }

-- copies that were sent, numbered from this number on
abbrev pub sent_marks : (parts number : ℕ) → List Copy → List Mark
sent_marks parts number [] = []
sent_marks parts number (c ∷ copies) = marks.Sent (arrow_of parts number c) ∷ sent_marks parts (number + 1) copies

abbrev pub late_words : (number : ℕ) → List ℕ
late_words number = decimal number ++ codes " comes too late"

-- a copy comes to its node, or is too late for that
abbrev pub coming_mark : (is_deliverable : Bool) → (parts now number : ℕ) → Copy → Mark
coming_mark true parts now number c = marks.Came now (arrow_of parts number c)
coming_mark false parts now number c = marks.Note now c.to (late_words number)

-- how long a copy may be under way, as moments are counted
abbrev pub life_in : WorldView → ℕ
life_in w = (pace_of w.time.own).life

abbrev pub delivered_mark : WorldView → (number : ℕ) → Option Copy → Option Mark
delivered_mark w number None = None
delivered_mark w number (Some c) =
    Some (coming_mark (is_deliverable w.overtake (life_in w) w.time.moment number w.copies c) (parts_in w) (ms_now w) number c)

-- octets of a stranger: from which link, and what they are
abbrev pub stranger_words : (from octets : List ℕ) → List ℕ
stranger_words from octets = (codes "from " ++ (link_text from ++ codes " ")) ++ datagram_words octets

-- what comes to a node in an event
abbrev pub coming_in : WorldView → Happening → Option Mark
coming_in w (Ask client server limits request) = None
coming_in w (Deliver number) = delivered_mark w number (slice_get w.copies number)
coming_in w (Noise node from octets) = Some (marks.Note (ms_now w) node (codes "noise"))
coming_in w (Tick node) = None
coming_in w (Advance by) = None
coming_in w (Change node change) = None
coming_in w (Restart node store) = None
coming_in w (Begin node) = None
coming_in w (BeginAgain node first_id store) = None
coming_in w (Stranger node from octets) = Some (marks.Note (ms_now w) node (stranger_words from octets))
coming_in w (AskStranger client peer limits request) = None

-- ---- facts

-- of an ask, by what is noted of it: at its server, and at its client
abbrev pub performed_mark : (now ask : ℕ) → Option Note → Option Mark
performed_mark now ask None = None
performed_mark now ask (Some note) = Some (marks.Note now note.key.server (codes "performed " ++ decimal ask))

abbrev pub ended_words : (ask : ℕ) → Ending → List ℕ
ended_words ask how = (codes "ended " ++ (decimal ask ++ codes " ")) ++ ending_text how

abbrev pub client_in : List Note → (ask : ℕ) → Option ℕ
client_in notes ask = option_map (λ (n : Note). n.key.client) (slice_get notes ask)

abbrev pub ended_mark : (now ask : ℕ) → Ending → (client : Option ℕ) → Option Mark
ended_mark now ask how None = None
ended_mark now ask how (Some client) = Some (marks.Note now client (ended_words ask how))

-- a request of a stranger was performed, and a stranger was asked
abbrev pub served_words : PeerView → List ℕ
served_words peer = codes "served " ++ peer_text peer

abbrev pub asked_away_words : (ask : ℕ) → PeerView → List ℕ
asked_away_words ask peer = codes "asked " ++ (decimal ask ++ (codes " " ++ peer_text peer))

-- a fact, where these notes are of the accepted asks, oldest first
abbrev pub fact_mark : (now : ℕ) → List Note → Fact → Option Mark
fact_mark now notes (Asked ask client server request) = Some (marks.Note now client (codes "asked " ++ decimal ask))
fact_mark now notes (Performed ask request reply) = performed_mark now ask (slice_get notes ask)
fact_mark now notes (Ended ask how) = ended_mark now ask how (client_in notes ask)
fact_mark now notes (Changed node change) = Some (marks.Note now node (codes "changed"))
fact_mark now notes (Restarted node store) = Some (marks.Note now node (codes "restarted"))
fact_mark now notes (Served peer node invoke_id begin request reply) = Some (marks.Note now node (served_words peer))
fact_mark now notes (AskedAway ask client peer request) = Some (marks.Note now client (asked_away_words ask peer))
fact_mark now notes (EndedAway ask how) = ended_mark now ask how (client_in notes ask)

abbrev pub optional_marks : Option Mark → List Mark
optional_marks None = []
optional_marks (Some m) = m ∷ []

abbrev pub facts_marks : (now : ℕ) → List Note → List Fact → List Mark
facts_marks now notes [] = []
facts_marks now notes (f ∷ facts) = optional_marks (fact_mark now notes f) ++ facts_marks now notes facts

-- ---- events

-- the facts after so many, oldest first, and then the copies after so many
abbrev pub news_marks : (facts copies : ℕ) → WorldView → List Mark
news_marks facts copies w =
    facts_marks (ms_now w) (reverse w.notes) (drop facts (reverse w.log)) ++ sent_marks (parts_in w) copies (drop copies w.copies)

-- the node at which an event is refused
abbrev pub place_of : Happening → ℕ
place_of (Ask client server limits request) = client
place_of (Deliver number) = 0
place_of (Noise node from octets) = node
place_of (Tick node) = node
place_of (Advance by) = 0
place_of (Change node change) = node
place_of (Restart node store) = node
place_of (Begin node) = node
place_of (BeginAgain node first_id store) = node
place_of (Stranger node from octets) = node
place_of (AskStranger client peer limits request) = client

abbrev pub refused_mark : (now : ℕ) → Happening → (fault : ℕ) → Mark
refused_mark now event fault = marks.Note now (place_of event) (codes "refused " ++ decimal fault)

-- what comes to a node, and what is new; or the number of a refused ask's fault
abbrev pub event_marks : Option AskFault → Happening → (old new : WorldView) → List Mark
event_marks (Some fault) event old new = refused_mark (ms_now old) event (ask_fault_number fault) ∷ []
event_marks None event old new =
    optional_marks (coming_in old event) ++ news_marks (length old.log) (length old.copies) new

abbrev pub change_marks : ChangeFault → Happening → WorldView → List Mark
change_marks why event old = refused_mark (ms_now old) event (change_fault_number why) ∷ []

-- a clock that goes so fast from then on
abbrev pub paced_mark : (now node rate : ℕ) → Mark
paced_mark now node rate = marks.Note now node (codes "pace " ++ pace_text rate)

-- ---- lists of marks

-- one of these lists of marks was appended
abbrev pub AppendsMarks : (old new : List code.Mark) → (AreMarks : List Mark → Type 0) → Type 0
AppendsMarks old new AreMarks = (told : List Mark) × (AreMarks told × (map mark_view new ≡ map mark_view old ++ told))

-- these marks were
abbrev pub AddsMarks : (old new : List code.Mark) → List Mark → Type 0
AddsMarks old new told = map mark_view new ≡ map mark_view old ++ told
