-- Lines of the log of a server, as objects of JSON.
use Rattle.std.specs.Prelude.{◌≡◌, ℕ, List, codes, Option, Some, None}
use Rattle.std.specs.Option.{option_map}
use Rattle.bac_json_report.specs.TimeForms.{IsTimeForm}
use Rattle.bac_json.specs.Forms.{optional_number, text_form}
use Rattle.bac_json.specs.Replies.{IsReplyForm}
use Rattle.bac_json.specs.Requests.{IsRequestForm}
use Rattle.bac_log_json.specs.Cells.{IsCellForm, KeptPart, part_view}
use Rattle.bac_npdu.specs.Peers.{PeerView}
use Rattle.bac_npdu.specs.Views.{peer_view}
use Rattle.bac_service.specs.Replies.{Reply}
use Rattle.bac_service.specs.Values.{Request}
use Rattle.bac_service.specs.Views.{reply_view, request_view}
use Rattle.bac_text.specs.Peers.{link_text, peer_text}
use Rattle.serde_json.specs.Data.{Data, member, no_members, null, number, object, string, unsigned}
use Rattle.bac_log_json.specs.declared.log.LogEvent as code
use Rattle.bac_log_json.specs.declared.log.LogEvent.TheVariants as event
use Rattle.bac_log_json.specs.declared.log.LogRecord as code_record

-- what a line tells: what came from a peer, with its invoke ID, what was performed for it, and both in words; or from which link a datagram was dropped, and
-- why; or how many datagrams were sent again, or not sent, or steps not done; or how many requests were turned away since the table was full, and in how many
-- milliseconds a slot gets free; or what the document gave to a property or a
-- file, in words too; or how the server began, in words
pub data LogEvent : Type 0 where
  Heard : PeerView → (id : Option ℕ) → (performed : Option (Request × Reply)) → (what done : List ℕ) → LogEvent
  Dropped : (link : List ℕ) → (why : List ℕ) → LogEvent
  SentAgain : (count : ℕ) → LogEvent
  NotSent : (count : ℕ) → LogEvent
  NotDone : (count : ℕ) → LogEvent
  TableFull : (count wait : ℕ) → LogEvent
  Document : KeptPart → (words : List ℕ) → LogEvent
  Started : (words : List ℕ) → LogEvent

abbrev pub event_view : code.LogEvent → LogEvent
event_view (event.Heard peer id performed what done) =
    Heard (peer_view peer) id (option_map (λ p. (request_view p.0, reply_view p.1)) performed) what.now done.now
event_view (event.Dropped link why) = Dropped link why.now
event_view (event.SentAgain count) = SentAgain count
event_view (event.NotSent count) = NotSent count
event_view (event.NotDone count) = NotDone count
event_view (event.TableFull count wait) = TableFull count wait
event_view (event.Document part words) = Document (part_view part) words.now
event_view (event.Started words) = Started words.now

-- the time of day, and the moment by the clock of the server, in milliseconds
pub record LogRecord : Type 0 where
  pub time : Option ℕ
  pub moment : ℕ
  pub event : LogEvent

abbrev pub record_view : code_record.LogRecord → LogRecord
record_view r = record { time = r.time; moment = r.moment; event = event_view r.event }

-- ---- members

pub record EventMembers : Type 0 where
  pub change : Data
  pub count : Data
  pub id : Data
  pub peer : Data
  pub reply : Data
  pub request : Data
  pub text : Data
  pub wait : Data
  pub what : Data

abbrev pub nulls : EventMembers
nulls =
    record { change = null; count = null; id = null; peer = null; reply = null; request = null; text = null; wait = null; what = null }

-- who sent a datagram, what was done, and what it was
abbrev pub told : (peer text what : Data) → EventMembers
told peer text what = record nulls { peer = peer; text = text; what = what }

-- the request that was performed, and its reply
abbrev pub ArePerformed : Option (Request × Reply) → (request reply : Data) → Type 0
ArePerformed None request reply = (request ≡ null) × (reply ≡ null)
ArePerformed (Some p) request reply = IsRequestForm p.0 request × IsReplyForm p.1 reply

pub record AreHeard (id : Option ℕ) (performed : Option (Request × Reply)) (words m : EventMembers) : Type 0 where
  pub request : Data
  pub reply : Data
  pub are : ArePerformed performed request reply
  pub is : m ≡ record words { id = optional_number id; request = request; reply = reply }

-- what the document gave, as an object of what is kept, and in words
pub record AreChanged (p : KeptPart) (words : List ℕ) (m : EventMembers) : Type 0 where
  pub change : Data
  pub of : IsCellForm p change
  pub is : m ≡ record nulls { change = change; text = text_form words }

abbrev pub AreEventMembers : LogEvent → EventMembers → Type 0
AreEventMembers (Heard peer id performed what done) m =
    AreHeard id performed (told (string (peer_text peer)) (text_form done) (text_form what)) m
AreEventMembers (Dropped link why) m = m ≡ told (string (link_text link)) (string why) null
AreEventMembers (SentAgain count) m = m ≡ record nulls { count = number (unsigned count) }
AreEventMembers (NotSent count) m = m ≡ record nulls { count = number (unsigned count) }
AreEventMembers (NotDone count) m = m ≡ record nulls { count = number (unsigned count) }
AreEventMembers (TableFull count wait) m = m ≡ record nulls { count = number (unsigned count); wait = number (unsigned wait) }
AreEventMembers (Document part words) m = AreChanged part words m
AreEventMembers (Started words) m = m ≡ record nulls { text = text_form words }

abbrev pub kind_word : LogEvent → List ℕ
kind_word (Heard peer id performed what done) = codes "heard"
kind_word (Dropped link why) = codes "dropped"
kind_word (SentAgain count) = codes "timer"
kind_word (NotSent count) = codes "link"
kind_word (NotDone count) = codes "no memory"
kind_word (TableFull count wait) = codes "table full"
kind_word (Document part words) = codes "document"
kind_word (Started words) = codes "started"

-- ---- the object: its members are sorted by name

abbrev pub log_form : (kind : List ℕ) → (moment : ℕ) → (time : Data) → EventMembers → Data
log_form kind moment time m =
    object (member (codes "change") m.change (member (codes "count") m.count (member (codes "id") m.id
    (member (codes "moment") (number (unsigned moment)) (member (codes "peer") m.peer (member (codes "reply") m.reply
    (member (codes "request") m.request (member (codes "text") m.text (member (codes "time") time (member (codes "type") (string kind)
    (member (codes "wait") m.wait (member (codes "what") m.what no_members))))))))))))

pub record IsLogForm (r : LogRecord) (d : Data) : Type 0 where
  pub time : Data
  pub time_of : IsTimeForm r.time time
  pub members : EventMembers
  pub are : AreEventMembers r.event members
  pub is : d ≡ log_form (kind_word r.event) r.moment time members
