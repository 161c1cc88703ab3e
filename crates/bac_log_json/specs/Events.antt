-- What came of the events of a script, as objects of JSON.
use Rattle.std.specs.Prelude.{◌≡◌, ℕ, ℤ, List, Option, codes}
use Rattle.bac_json.specs.Forms.{octets_form, optional_number, text_form}
use Rattle.bac_npdu.specs.Peers.{PeerView}
use Rattle.bac_npdu.specs.Views.{peer_view}
use Rattle.bac_text.specs.Peers.{peer_text}
use Rattle.serde_json.specs.Data.{Data, Members, no_members, null, object, put, string, unsigned}
use Rattle.serde_json.specs.Data.{number as whole}
use Rattle.serde_json.specs.Find.{of_integer}
use Rattle.bac_log_json.specs.declared.event.EventKind as code
use Rattle.bac_log_json.specs.declared.event.EventKind.TheVariants as kind
use Rattle.bac_log_json.specs.declared.event.EventRecord as code_record

pub data EventKind : Type 0 where
  Asked : (ask : ℕ) → (id : Option ℕ) → EventKind
  AskedAway : (ask : ℕ) → PeerView → EventKind
  Performed : (ask : ℕ) → (words : List ℕ) → EventKind
  Served : (node : ℕ) → PeerView → (words : List ℕ) → EventKind
  Ended : (ask : ℕ) → (words : List ℕ) → EventKind
  Changed : (node : ℕ) → EventKind
  Restarted : (node : ℕ) → EventKind
  Sent : (number from to : ℕ) → (octets : List ℕ) → EventKind
  Lost : (number : ℕ) → EventKind
  Paced : (node : ℕ) → (pace : ℤ) → EventKind
  Nothing : (why : List ℕ) → EventKind
  Refused : (fault : ℕ) → (why : List ℕ) → EventKind
  Fault : (fault : ℕ) → (why : List ℕ) → EventKind

abbrev pub kind_view : code.EventKind → EventKind
kind_view (kind.Asked ask id) = Asked ask id
kind_view (kind.AskedAway ask peer) = AskedAway ask (peer_view peer)
kind_view (kind.Performed ask words) = Performed ask words.now
kind_view (kind.Served node peer words) = Served node (peer_view peer) words.now
kind_view (kind.Ended ask words) = Ended ask words.now
kind_view (kind.Changed node) = Changed node
kind_view (kind.Restarted node) = Restarted node
kind_view (kind.Sent number from to octets) = Sent number from to octets.now
kind_view (kind.Lost number) = Lost number
kind_view (kind.Paced node pace) = Paced node pace
kind_view (kind.Nothing why) = Nothing why.now
kind_view (kind.Refused fault why) = Refused fault why.now
kind_view (kind.Fault fault why) = Fault fault why.now

-- the line of the script, and the moment of the run in milliseconds, where they are told
pub record EventRecord : Type 0 where
  pub line : Option ℕ
  pub moment : Option ℕ
  pub kind : EventKind

abbrev pub record_view : code_record.EventRecord → EventRecord
record_view r = record { line = r.line; moment = r.moment; kind = kind_view r.kind }

-- ---- members

pub record EventMembers : Type 0 where
  pub ask : Data
  pub fault : Data
  pub from : Data
  pub id : Data
  pub node : Data
  pub number : Data
  pub octets : Data
  pub pace : Data
  pub peer : Data
  pub text : Data
  pub to : Data

abbrev pub nulls : EventMembers
nulls = record {
  ask = null;
  fault = null;
  from = null;
  id = null;
  node = null;
  number = null;
  octets = null;
  pace = null;
  peer = null;
  text = null;
  to = null;
}

abbrev pub ask_members : (ask : ℕ) → EventMembers
ask_members ask = record nulls { ask = whole (unsigned ask) }

abbrev pub node_members : (node : ℕ) → EventMembers
node_members node = record nulls { node = whole (unsigned node) }

abbrev pub sent_members : (number from to : ℕ) → (octets : List ℕ) → EventMembers
sent_members number from to octets =
    record nulls { number = whole (unsigned number); from = whole (unsigned from); to = whole (unsigned to); octets = octets_form octets }

abbrev pub fault_members : (fault : ℕ) → (why : List ℕ) → EventMembers
fault_members fault why = record nulls { fault = whole (unsigned fault); text = string why }

abbrev pub members_of : EventKind → EventMembers
members_of (Asked ask id) = record (ask_members ask) { id = optional_number id }
members_of (AskedAway ask peer) = record (ask_members ask) { peer = string (peer_text peer) }
members_of (Performed ask words) = record (ask_members ask) { text = text_form words }
members_of (Served node peer words) = record (node_members node) { peer = string (peer_text peer); text = text_form words }
members_of (Ended ask words) = record (ask_members ask) { text = text_form words }
members_of (Changed node) = node_members node
members_of (Restarted node) = node_members node
members_of (Sent number from to octets) = sent_members number from to octets
members_of (Lost number) = record nulls { number = whole (unsigned number) }
members_of (Paced node pace) = record (node_members node) { pace = whole (of_integer pace) }
members_of (Nothing why) = record nulls { text = string why }
members_of (Refused fault why) = fault_members fault why
members_of (Fault fault why) = fault_members fault why

abbrev pub kind_word : EventKind → List ℕ
kind_word (Asked ask id) = codes "asked"
kind_word (AskedAway ask peer) = codes "asked"
kind_word (Performed ask words) = codes "performed"
kind_word (Served node peer words) = codes "served"
kind_word (Ended ask words) = codes "ended"
kind_word (Changed node) = codes "changed"
kind_word (Restarted node) = codes "restarted"
kind_word (Sent number from to octets) = codes "sent"
kind_word (Lost number) = codes "lost"
kind_word (Paced node pace) = codes "paced"
kind_word (Nothing why) = codes "nothing"
kind_word (Refused fault why) = codes "refused"
kind_word (Fault fault why) = codes "fault"

-- ---- the object: its members are sorted by name

abbrev pub with_line : (kind : List ℕ) → (line moment : Option ℕ) → Members → Members
with_line kind line moment ms =
    put (codes "type") (string kind) (put (codes "moment") (optional_number moment) (put (codes "line") (optional_number line) ms))

abbrev pub with_words : EventMembers → Members → Members
with_words m ms =
    put (codes "text") m.text (put (codes "peer") m.peer (put (codes "pace") m.pace (put (codes "node") m.node (put (codes "id") m.id
    (put (codes "fault") m.fault (put (codes "ask") m.ask ms))))))

abbrev pub with_datagram : EventMembers → Members → Members
with_datagram m ms =
    put (codes "to") m.to (put (codes "octets") m.octets (put (codes "number") m.number (put (codes "from") m.from ms)))

abbrev pub event_form : (kind : List ℕ) → (line moment : Option ℕ) → EventMembers → Data
event_form kind line moment m = object (with_datagram m (with_words m (with_line kind line moment no_members)))

abbrev pub IsEventForm : EventRecord → Data → Type 0
IsEventForm r d = d ≡ event_form (kind_word r.kind) r.line r.moment (members_of r.kind)
