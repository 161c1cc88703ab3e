-- What came of an ask, for people.
use Rattle.std.specs.Prelude.{ℕ, Bool, true, false, List, Option, None, codes, if◌then◌else◌}
use Rattle.std.specs.Option.{is_some}
use Rattle.bac_service.specs.Replies as plain
use Rattle.bac_service.specs.Values.{values_answered}
use Rattle.bac_service.specs.Values.{Request}
use Rattle.bac_service_text.specs.Asked.{names_other}
use Rattle.bac_service_text.specs.Reasons.{aborted_words, error_words, rejected_words}
use Rattle.bac_ask_report.specs.Records.{Outcome, Answered, Rejected, Aborted, TimedOut, Expired, Refused, NoEnding, NoLink}

-- the values that a reply carries
abbrev pub values_in_reply : plain.Reply → Option (List ℕ)
values_in_reply plain.Reply.Simple = None
values_in_reply (plain.Reply.Complex c) = values_answered c
values_in_reply (plain.Reply.Error class code) = None
values_in_reply (plain.Reply.Reject reason) = None

-- those of the very property that was asked for
abbrev pub values_of : Request → Outcome → Option (List ℕ)
values_of request (Answered r) = if names_other request r then None else values_in_reply r
values_of request (Rejected reason) = None
values_of request (Aborted reason) = None
values_of request TimedOut = None
values_of request Expired = None
values_of request (Refused fault) = None
values_of request NoEnding = None
values_of request NoLink = None

abbrev pub has_values : Request → Outcome → Bool
has_values request how = is_some (values_of request how)

-- nothing came back
abbrev pub is_silent : Outcome → Bool
is_silent (Answered r) = false
is_silent (Rejected reason) = false
is_silent (Aborted reason) = false
is_silent TimedOut = true
is_silent Expired = true
is_silent (Refused fault) = false
is_silent NoEnding = true
is_silent NoLink = false

-- it was performed, and has no results
abbrev pub is_done_by : plain.Reply → Bool
is_done_by plain.Reply.Simple = true
is_done_by (plain.Reply.Complex c) = false
is_done_by (plain.Reply.Error class code) = false
is_done_by (plain.Reply.Reject reason) = false

abbrev pub is_done : Outcome → Bool
is_done (Answered r) = is_done_by r
is_done (Rejected reason) = false
is_done (Aborted reason) = false
is_done TimedOut = false
is_done Expired = false
is_done (Refused fault) = false
is_done NoEnding = false
is_done NoLink = false

-- ---- in words

abbrev pub failed_reply_words : plain.Reply → List ℕ
failed_reply_words plain.Reply.Simple = codes "the answer is for something else"
failed_reply_words (plain.Reply.Complex c) = codes "the answer is for something else"
failed_reply_words (plain.Reply.Error class code) = error_words class code
failed_reply_words (plain.Reply.Reject reason) = rejected_words reason

abbrev pub failure_words : Outcome → List ℕ
failure_words (Answered r) = failed_reply_words r
failure_words (Rejected reason) = rejected_words reason
failure_words (Aborted reason) = aborted_words reason
failure_words TimedOut = codes "no answer"
failure_words Expired = codes "no answer"
failure_words (Refused fault) = codes "not asked"
failure_words NoEnding = codes "no answer"
failure_words NoLink = codes "link fault"
