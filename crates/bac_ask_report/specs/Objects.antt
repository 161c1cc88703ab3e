-- Objects of JSON: each member is there in each, null where there is nothing to say.
use Rattle.std.specs.Prelude.{◌≡◌, ℕ, List, codes, Option, Some, None}
use Rattle.bac_json.specs.Forms.{object_form, octets_form, optional_number, property_form, string_or_null, text_form}
use Rattle.bac_json.specs.Values.{AreElementForms}
use Rattle.bac_service.specs.Values.{Reference}
use Rattle.bac_text.specs.Peers.{peer_text}
use Rattle.serde_json.specs.Data.{Data, Items, Members, array, boolean, no_members, null, number, object, put, string, unsigned}
use Rattle.serde_json.specs.Find.{of_integer}
use Rattle.bac_ask_report.specs.Answers.{Answer, answer_of, status_word}
use Rattle.bac_ask_report.specs.Answers.Answer.{Values, Other, File, Written, Done, Fault, Reason, Nothing}
use Rattle.bac_ask_report.specs.Questions.{object_asked, property_asked, verb_asked}
use Rattle.bac_ask_report.specs.Records.{AskRecord, LineName, Unnamed, Without, Named}
use Rattle.bac_moment.specs.Times.{IsTextOf}

-- ---- what came

pub record AnswerMembers : Type 0 where
  pub class : Data
  pub code : Data
  pub end : Data
  pub octets : Data
  pub position : Data
  pub reason : Data
  pub values : Data

abbrev pub nulls : AnswerMembers
nulls = record { class = null; code = null; end = null; octets = null; position = null; reason = null; values = null }

pub record AreValueMembers (run : List ℕ) (m : AnswerMembers) : Type 0 where
  pub values : Items
  pub are : AreElementForms values run
  pub is : m ≡ record nulls { values = array values }

abbrev pub AreMembers : Answer → AnswerMembers → Type 0
AreMembers (Values run) m = AreValueMembers run m
AreMembers Other m = m ≡ nulls
AreMembers (File end start octets) m = m ≡ record nulls { end = boolean end; octets = octets_form octets; position = number (of_integer start) }
AreMembers (Written start) m = m ≡ record nulls { position = number (of_integer start) }
AreMembers Done m = m ≡ nulls
AreMembers (Fault class code) m = m ≡ record nulls { class = number (unsigned class); code = number (unsigned code) }
AreMembers (Reason reason) m = m ≡ record nulls { reason = number (unsigned reason) }
AreMembers Nothing m = m ≡ nulls

-- ---- what was asked, when, and the words for how that ended

abbrev pub property_or_null : Option Reference → Data
property_or_null None = null
property_or_null (Some r) = property_form r.property

abbrev pub index_or_null : Option Reference → Data
index_or_null None = null
index_or_null (Some r) = optional_number r.index

-- named: the object that was asked for
pub record AskedMembers : Type 0 where
  pub index : Data
  pub line : Data
  pub named : Data
  pub peer : Data
  pub property : Data
  pub request : Data

abbrev pub asked_members : AskRecord → AskedMembers
asked_members r = record {
  index = index_or_null (property_asked r.request);
  line = optional_number r.line;
  named = object_form (object_asked r.request);
  peer = string (peer_text r.peer);
  property = property_or_null (property_asked r.request);
  request = string (verb_asked r.request);
}

pub record EndMembers : Type 0 where
  pub moment : Data
  pub round : Data
  pub status : Data
  pub text : Data
  pub time : Data

abbrev pub end_members : AskRecord → (time : Option (List ℕ)) → EndMembers
end_members r time = record {
  moment = optional_number r.time;
  round = optional_number r.round;
  status = string (status_word r.outcome);
  text = text_form r.words;
  time = string_or_null time;
}

-- ---- the object: its members are sorted by name

abbrev pub with_asked : AskedMembers → Members → Members
with_asked a ms =
    put (codes "request") a.request (put (codes "property") a.property (put (codes "peer") a.peer (put (codes "object") a.named
    (put (codes "line") a.line (put (codes "index") a.index ms)))))

-- the name of the line, where a line of the list has one
abbrev pub with_name : LineName → Members → Members
with_name Unnamed ms = ms
with_name Without ms = put (codes "name") null ms
with_name (Named name) ms = put (codes "name") (string name) ms

abbrev pub with_end : EndMembers → Members → Members
with_end e ms =
    put (codes "time") e.time (put (codes "text") e.text (put (codes "status") e.status (put (codes "round") e.round
    (put (codes "moment") e.moment ms))))

abbrev pub with_answer : AnswerMembers → Members → Members
with_answer m ms =
    put (codes "values") m.values (put (codes "reason") m.reason (put (codes "position") m.position (put (codes "octets") m.octets
    (put (codes "end") m.end (put (codes "code") m.code (put (codes "class") m.class ms))))))

abbrev pub ask_object : LineName → AskedMembers → EndMembers → AnswerMembers → Data
ask_object name a e m = object (with_answer m (with_end e (with_name name (with_asked a no_members))))

-- that of an ask
pub record IsObject (r : AskRecord) (d : Data) : Type 0 where
  pub time : Option (List ℕ)
  pub time_of : IsTextOf r.time time
  pub members : AnswerMembers
  pub are : AreMembers (answer_of r.request r.outcome) members
  pub is : d ≡ ask_object r.name (asked_members r) (end_members r time) members
