-- The endings of transactions, as far as they were seen.
use Rattle.std.specs.Prelude.{ℕ, ◌-◌, Bool, true, false, not, ◌||◌, List, codes, Option, Some, None, Result, Ok, Err, if◌then◌else◌}
use Rattle.bac_apdu.specs.Apdu.{Apdu, Error, Reject, Abort}
use Rattle.bac_apdu.specs.Reading.{apdu_at}
use Rattle.bac_apdu.specs.declared.fault.ApduFault.{ApduFault}
use Rattle.bac_explain.specs.Sent.{SentView}
use Rattle.bac_explain.specs.Transactions.{TransactionView}
use Rattle.bac_explain_report.specs.declared.ending.Ending.{Ending}
use Rattle.bac_explain_report.specs.declared.ending.Ending.TheVariants.{Answered, Failed, Rejected, Aborted, Unanswered}

abbrev pub ending_name : Ending → List ℕ
ending_name Answered = codes "answered"
ending_name Failed = codes "error"
ending_name Rejected = codes "rejected"
ending_name Aborted = codes "aborted"
ending_name Unanswered = codes "unanswered"

-- the first word of the line of a reply: that of an Error says so itself
abbrev pub reply_name : Ending → List ℕ
reply_name Answered = ending_name Answered
reply_name Failed = ending_name Answered
reply_name Rejected = ending_name Rejected
reply_name Aborted = ending_name Aborted
reply_name Unanswered = ending_name Unanswered

abbrev pub apdu_ending : Apdu → Ending
apdu_ending (Error invoke_id choice class code) = Failed
apdu_ending (Reject invoke_id reason) = Rejected
apdu_ending (Abort server invoke_id reason) = Aborted
apdu_ending _ = Answered

abbrev pub read_ending : Result Apdu ApduFault → Ending
read_ending (Ok a) = apdu_ending a
read_ending (Err fault) = Answered

abbrev pub answer_ending : List ℕ → Ending
answer_ending octets = read_ending (apdu_at octets)

abbrev pub no_answer_ending : (gave_up : Bool) → Ending
no_answer_ending gave_up = if gave_up then Aborted else Unanswered

-- a reply whose last segment was not seen does not count; the server's Abort may come within it
abbrev pub seen_ending : (broken_off gave_up : Bool) → SentView → Ending
seen_ending broken_off gave_up s = if s.whole then answer_ending s.octets else no_answer_ending (broken_off || gave_up)

-- without a reply the client's Abort ends it
abbrev pub ending_in : (broken_off gave_up : Bool) → Option SentView → Ending
ending_in broken_off gave_up None = no_answer_ending gave_up
ending_in broken_off gave_up (Some s) = seen_ending broken_off gave_up s

abbrev pub ending_of : TransactionView → Ending
ending_of t = ending_in t.broken_off t.gave_up t.answer

-- by an Error, a Reject or an Abort
abbrev pub is_refusal : Ending → Bool
is_refusal Answered = false
is_refusal Failed = true
is_refusal Rejected = true
is_refusal Aborted = true
is_refusal Unanswered = false

abbrev pub is_refused : TransactionView → Bool
is_refused t = is_refusal (ending_of t)

-- the end of no answer was seen, nor an Abort of the server within one; the client may have given up
abbrev pub is_unanswered_in : (broken_off : Bool) → Option SentView → Bool
is_unanswered_in broken_off None = true
is_unanswered_in broken_off (Some s) = not (s.whole || broken_off)

abbrev pub is_unanswered : TransactionView → Bool
is_unanswered t = is_unanswered_in t.broken_off t.answer

-- how long after the request the reply began, in milliseconds
abbrev pub delay_in : (asked : ℕ) → Option SentView → Option ℕ
delay_in asked None = None
delay_in asked (Some s) = Some (s.moment - asked)

abbrev pub delay_of : TransactionView → Option ℕ
delay_of t = delay_in t.request.moment t.answer
