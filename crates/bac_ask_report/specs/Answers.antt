-- What came of an ask.
use Rattle.std.specs.Prelude.{ℕ, ℤ, Bool, List, codes, if◌then◌else◌}
use Rattle.bac_service.specs.Replies as plain
use Rattle.bac_service.specs.Values.{Complex, Request}
use Rattle.bac_service.specs.Values.Complex.{FileRead, StreamWritten, RecordsWritten, PropertyRead}
use Rattle.bac_service_text.specs.Asked.{names_other}
use Rattle.bac_ask_report.specs.Records.{Outcome, Answered, Rejected, Aborted, TimedOut, Expired, Refused, NoEnding, NoLink}
use Rattle.bac_ask_report.specs.declared.answer.Answer as code
use Rattle.bac_ask_report.specs.declared.answer.Answer.TheVariants as answer

-- the values of the property that was asked for, or what was said of another one; octets of a file, or where they were written; that a property was written;
-- the class and the code of an Error; the reason of a Reject, an Abort or a refusal; or nothing
pub data Answer : Type 0 where
  Values : (run : List ℕ) → Answer
  Other : Answer
  File : (end : Bool) → (start : ℤ) → (octets : List ℕ) → Answer
  Written : (start : ℤ) → Answer
  Done : Answer
  Fault : (class code : ℕ) → Answer
  Reason : (reason : ℕ) → Answer
  Nothing : Answer

abbrev pub answer_view : code.Answer → Answer
answer_view (answer.Values values) = Values values.octets.now
answer_view answer.Other = Other
answer_view (answer.File read) = File read.end_of_file read.start read.content.octets.now
answer_view (answer.Written start) = Written start
answer_view answer.Done = Done
answer_view (answer.Fault class code) = Fault class code
answer_view (answer.Reason reason) = Reason reason
answer_view answer.Nothing = Nothing

abbrev pub answer_of_complex : Complex → Answer
answer_of_complex (FileRead end start octets) = File end start octets
answer_of_complex (StreamWritten start) = Written start
answer_of_complex (RecordsWritten start) = Written start
answer_of_complex (PropertyRead r values) = Values values

abbrev pub answer_of_reply : plain.Reply → Answer
answer_of_reply plain.Reply.Simple = Done
answer_of_reply (plain.Reply.Complex c) = answer_of_complex c
answer_of_reply (plain.Reply.Error class code) = Fault class code
answer_of_reply (plain.Reply.Reject reason) = Reason reason

abbrev pub answer_to : Request → plain.Reply → Answer
answer_to request r = if names_other request r then Other else answer_of_reply r

abbrev pub answer_of : Request → Outcome → Answer
answer_of request (Answered r) = answer_to request r
answer_of request (Rejected reason) = Reason reason
answer_of request (Aborted reason) = Reason reason
answer_of request TimedOut = Nothing
answer_of request Expired = Nothing
answer_of request (Refused fault) = Reason fault
answer_of request NoEnding = Nothing
answer_of request NoLink = Nothing

-- ---- the word for it

abbrev pub reply_status : plain.Reply → List ℕ
reply_status plain.Reply.Simple = codes "answered"
reply_status (plain.Reply.Complex c) = codes "answered"
reply_status (plain.Reply.Error class code) = codes "error"
reply_status (plain.Reply.Reject reason) = codes "rejected"

abbrev pub status_word : Outcome → List ℕ
status_word (Answered r) = reply_status r
status_word (Rejected reason) = codes "rejected"
status_word (Aborted reason) = codes "aborted"
status_word TimedOut = codes "timed-out"
status_word Expired = codes "expired"
status_word (Refused fault) = codes "refused"
status_word NoEnding = codes "no ending"
status_word NoLink = codes "link fault"
