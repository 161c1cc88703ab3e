-- The object of a transaction: each member is there in each, null where there is nothing to say.
use Rattle.std.specs.Prelude.{◌≡◌, ℕ, ◌-◌, List, codes, Option, Some, None}
use Rattle.bac_apdu.specs.Reading.{apdu_at}
use Rattle.bac_explain.specs.Keys.{Key}
use Rattle.bac_explain.specs.Sent.{SentView}
use Rattle.bac_explain.specs.Tables.{ClosedView}
use Rattle.bac_explain.specs.Transactions.{TransactionView}
use Rattle.bac_explain_report.specs.AnswerWords as answer
use Rattle.bac_explain_report.specs.Endings.{ending_name, ending_of, is_unanswered}
use Rattle.bac_explain_report.specs.RequestWords as request
use Rattle.bac_json.specs.Forms.{optional_number, string_or_null, text_form}
use Rattle.bac_moment.specs.Times.{IsTextOf}
use Rattle.bac_text.specs.Peers.{peer_text}
use Rattle.serde_json.specs.Data.{Data, Members, boolean, no_members, null, number, object, put, string, unsigned}
use Rattle.bac_explain_json.specs.Carried.{IsAnswerIn, IsAskedIn}
use Rattle.bac_explain_json.specs.Lists.{findings_form, frames_form}

-- ---- the client, the server and the invoke ID

pub record PeerMembers : Type 0 where
  pub client : Data
  pub invoke_id : Data
  pub server : Data

abbrev pub peer_members : Key → PeerMembers
peer_members k = record {
  client = string (peer_text k.client);
  invoke_id = number (unsigned k.invoke_id);
  server = string (peer_text k.server);
}

-- ---- the request

pub record AskedMembers : Type 0 where
  pub asked_at : Data
  pub request : Data
  pub request_text : Data
  pub requests : Data
  pub segments : Data
  pub time : Data

abbrev pub asked_members : SentView → (request : Data) → (words : List ℕ) → (time : Option (List ℕ)) → AskedMembers
asked_members s asked words time = record {
  asked_at = number (unsigned s.moment);
  request = asked;
  request_text = text_form words;
  requests = number (unsigned s.times);
  segments = number (unsigned s.segments);
  time = string_or_null time;
}

-- in words, as the plain lines say it
pub record AreAsked (s : SentView) (m : AskedMembers) : Type 0 where
  pub asked : Data
  pub is_asked : IsAskedIn (apdu_at s.octets) asked
  pub words : List ℕ
  pub are : request.AreOctetsWords s.octets words
  pub time : Option (List ℕ)
  pub time_of : IsTextOf (Some s.moment) time
  pub is : m ≡ asked_members s asked words time

-- ---- the first answer

pub record AnsweredMembers : Type 0 where
  pub after : Data
  pub answer : Data
  pub answer_segments : Data
  pub answer_text : Data
  pub answers : Data

abbrev pub no_answer : AnsweredMembers
no_answer = record { after = null; answer = null; answer_segments = number (unsigned 0); answer_text = null; answers = number (unsigned 0) }

abbrev pub answered_members : (after : ℕ) → SentView → (answer : Data) → (words : List ℕ) → AnsweredMembers
answered_members after s told words = record {
  after = number (unsigned after);
  answer = told;
  answer_segments = number (unsigned s.segments);
  answer_text = text_form words;
  answers = number (unsigned s.times);
}

pub record AreAnswered (after : ℕ) (s : SentView) (m : AnsweredMembers) : Type 0 where
  pub told : Data
  pub is_told : IsAnswerIn (apdu_at s.octets) told
  pub words : List ℕ
  pub are : answer.AreOctetsWords s.octets words
  pub is : m ≡ answered_members after s told words

abbrev pub AreAnsweredIn : (asked : ℕ) → Option SentView → AnsweredMembers → Type 0
AreAnsweredIn asked None m = m ≡ no_answer
AreAnsweredIn asked (Some s) m = AreAnswered (s.moment - asked) s m

-- ---- how it ended

pub record EndMembers : Type 0 where
  pub findings : Data
  pub frames : Data
  pub given_up : Data
  pub negative_acks : Data
  pub status : Data
  pub unanswered : Data

abbrev pub end_members : TransactionView → EndMembers
end_members t = record {
  findings = findings_form t.steps;
  frames = frames_form t.steps;
  given_up = boolean t.gave_up;
  negative_acks = number (unsigned t.naks);
  status = string (ending_name (ending_of t));
  unanswered = boolean (is_unanswered t);
}

-- ---- the object: its members are sorted by name

abbrev pub with_peers : PeerMembers → Members → Members
with_peers p ms =
    put (codes "server") p.server (put (codes "kind") (string (codes "transaction")) (put (codes "invoke_id") p.invoke_id (put (codes "client") p.client ms)))

abbrev pub with_asked : AskedMembers → Members → Members
with_asked a ms =
    put (codes "time") a.time (put (codes "segments") a.segments (put (codes "requests") a.requests (put (codes "request_text") a.request_text
    (put (codes "request") a.request (put (codes "asked_at") a.asked_at ms)))))

abbrev pub with_answered : AnsweredMembers → Members → Members
with_answered n ms =
    put (codes "answers") n.answers (put (codes "answer_text") n.answer_text (put (codes "answer_segments") n.answer_segments
    (put (codes "answer") n.answer (put (codes "after") n.after ms))))

abbrev pub with_end : EndMembers → Members → Members
with_end e ms =
    put (codes "unanswered") e.unanswered (put (codes "status") e.status (put (codes "negative_acks") e.negative_acks (put (codes "given_up") e.given_up
    (put (codes "frames") e.frames (put (codes "findings") e.findings ms)))))

abbrev pub transaction_object : PeerMembers → AskedMembers → AnsweredMembers → EndMembers → Data
transaction_object p a n e = object (with_end e (with_answered n (with_asked a (with_peers p no_members))))

-- that of a transaction
pub record IsObject (c : ClosedView) (d : Data) : Type 0 where
  pub asked : AskedMembers
  pub are_asked : AreAsked c.transaction.request asked
  pub answered : AnsweredMembers
  pub are_answered : AreAnsweredIn c.transaction.request.moment c.transaction.answer answered
  pub is : d ≡ transaction_object (peer_members c.key) asked answered (end_members c.transaction)
