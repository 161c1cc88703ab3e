-- The open transactions, in the order in which they began, and the effect of an APDU on them.
use Rattle.std.specs.Prelude.{ℕ, nat_lt, Bool, true, false, not, if◌then◌else◌, List, [], ◌∷◌, ◌++◌, length, Option, Some, None}
use Rattle.bac_slots.specs.declared.slot.Slot.{Slot}
use Rattle.bac_slots.specs.Slots.{value_at, with_value, without, keep}
use Rattle.bac_explain.specs.declared.finding.Finding.{Finding}
use Rattle.bac_explain.specs.declared.finding.Finding.TheVariants.{AnswerToNoRequest}
use Rattle.bac_explain.specs.declared.part.Role.{Role}
use Rattle.bac_explain.specs.declared.part.Role.TheVariants.{Request, Answer, Acknowledgement, GivesUp}
use Rattle.bac_explain.specs.declared.part.Taken.{Taken}
use Rattle.bac_explain.specs.declared.sent.Place.{Place}
use Rattle.bac_explain.specs.declared.step.Step.{Step}
use Rattle.bac_explain.specs.declared.table.TheConstants.{OPEN_LIMIT}
use Rattle.bac_explain.specs.Keys.{Key, same_key}
use Rattle.bac_explain.specs.Sent.{is_other, place_of}
use Rattle.bac_explain.specs.Transactions.{TransactionView, first_finding, first_request, is_live, is_awaited, requested, reuse_finding}
use Rattle.bac_explain.specs.Transactions.{answered, acknowledged, given_up, noted, traced, with_told}

abbrev pub Transactions : Type 0
Transactions = List (Slot Key TransactionView)

-- a transaction that awaits nothing more
pub record ClosedView : Type 0 where
  pub key : Key
  pub transaction : TransactionView

-- the result of an APDU: the transactions after it, one that it closed, and what is wrong
pub record Heard : Type 0 where
  pub slots : Transactions
  pub closed : Option ClosedView
  pub finding : Option Finding

-- ---- closing

abbrev pub closed_of : Slot Key TransactionView → ClosedView
closed_of s = record { key = s.key; transaction = s.value }

-- the transaction with a key
abbrev pub closed_in : Key → Option TransactionView → Option ClosedView
closed_in key None = None
closed_in key (Some t) = Some (record { key = key; transaction = t })

abbrev pub closed_at : Key → Transactions → Option ClosedView
closed_at key slots = closed_in key (value_at same_key key slots)

-- the transaction that began first, and the others
abbrev pub oldest_out : Transactions → Option ClosedView × Transactions
oldest_out [] = (None, [])
oldest_out (s ∷ slots) = (Some (closed_of s), slots)

abbrev pub is_oldest_over : ℕ → Transactions → Bool
is_oldest_over now [] = false
is_oldest_over now (s ∷ slots) = not (is_awaited now s.value)

-- if it awaits nothing more
abbrev pub over_out : ℕ → Transactions → Option ClosedView × Transactions
over_out now slots = if is_oldest_over now slots then oldest_out slots else (None, slots)

-- a limited number is open; if another one begins, the oldest is closed
abbrev pub full_out : Transactions → Option ClosedView × Transactions
full_out slots = if nat_lt (length slots) OPEN_LIMIT then (None, slots) else oldest_out slots

-- a transaction with the same key is closed
abbrev pub room_in : Option TransactionView → Key → Transactions → Option ClosedView × Transactions
room_in None key slots = full_out slots
room_in (Some t) key slots = (Some (record { key = key; transaction = t }), without same_key key slots)

abbrev pub room_for : Key → Transactions → Option ClosedView × Transactions
room_for key slots = room_in (value_at same_key key slots) key slots

-- ---- one sighting

-- the live transaction with a key
abbrev pub live : ℕ → Key → Transactions → Option TransactionView
live now key slots = keep (is_live now) (value_at same_key key slots)

-- the transaction that awaits replies
abbrev pub awaited : ℕ → Key → Transactions → Option TransactionView
awaited now key slots = keep (is_awaited now) (value_at same_key key slots)

-- nothing changes
abbrev pub unheard : Option Finding → Transactions → Heard
unheard finding slots = record { slots = slots; closed = None; finding = finding }

-- the transaction with a key is updated
abbrev pub goes_on : Key → Transactions → TransactionView × Option Finding → Heard
goes_on key slots next = record { slots = with_value same_key key next.0 slots; closed = None; finding = next.1 }

-- a transaction is added, as the last, with what is wrong with its request
abbrev pub begins_in : Key → ℕ → TransactionView → Option Finding → Option ClosedView × Transactions → Heard
begins_in key now t finding room =
    record { slots = room.1 ++ record { key = key; begin = now; value = noted finding t } ∷ []; closed = room.0; finding = finding }

abbrev pub begins : Key → ℕ → TransactionView → Option Finding → Transactions → Heard
begins key now t finding slots = begins_in key now t finding (room_for key slots)

-- what is wrong with another request that has the key of a transaction, if there is one
abbrev pub reuse_in : (strict_ids : Bool) → List ℕ → Option TransactionView → Option Finding
reuse_in strict_ids octets None = None
reuse_in strict_ids octets (Some t) = reuse_finding strict_ids octets t

-- a request in this relation to that of the live transaction with its key: another one begins a transaction, which uses the invoke ID again
abbrev pub request_at : (strict_ids : Bool) → Place → ℕ → Key → Option ℕ → List ℕ → TransactionView → Transactions → Heard
request_at strict_ids place now key number octets t slots =
    if is_other place then begins key now (first_request now number octets true) (reuse_finding strict_ids octets t) slots else
    goes_on key slots (requested now place number octets t)

abbrev pub request_heard : (strict_ids : Bool) → ℕ → Key → Option ℕ → List ℕ → Option TransactionView → Transactions → Heard
request_heard strict_ids now key number octets None slots = begins key now (first_request now number octets false) (first_finding number) slots
request_heard strict_ids now key number octets (Some t) slots = request_at strict_ids (place_of t.request number octets) now key number octets t slots

abbrev pub answer_heard : ℕ → Key → Option ℕ → List ℕ → Option TransactionView → Transactions → Heard
answer_heard now key number octets None slots = unheard (Some AnswerToNoRequest) slots
answer_heard now key number octets (Some t) slots = goes_on key slots (answered now number octets t)

abbrev pub acknowledgement_heard : Key → Taken → Option TransactionView → Transactions → Heard
acknowledgement_heard key taken None slots = unheard None slots
acknowledgement_heard key taken (Some t) slots = goes_on key slots (acknowledged taken t)

abbrev pub giving_up_heard : Key → Option TransactionView → Transactions → Heard
giving_up_heard key None slots = unheard None slots
giving_up_heard key (Some t) slots = goes_on key slots (given_up t, None)

-- an APDU with this role in the transaction with a key is seen
abbrev pub heard : (strict_ids : Bool) → ℕ → Key → Role → List ℕ → Transactions → Heard
heard strict_ids now key (Request number) octets slots = request_heard strict_ids now key number octets (live now key slots) slots
heard strict_ids now key (Answer number) octets slots = answer_heard now key number octets (awaited now key slots) slots
heard strict_ids now key (Acknowledgement taken) octets slots = acknowledgement_heard key taken (awaited now key slots) slots
heard strict_ids now key GivesUp octets slots = giving_up_heard key (awaited now key slots) slots

-- ---- a frame

-- a frame is kept with the transaction that awaits replies
abbrev pub traced_in : Key → Step → Option TransactionView → Transactions → Transactions
traced_in key step None slots = slots
traced_in key step (Some t) slots = with_value same_key key (traced step t) slots

abbrev pub with_step : ℕ → Key → Step → Transactions → Transactions
with_step now key step slots = traced_in key step (awaited now key slots) slots

-- it is told
abbrev pub told_in : Key → Option TransactionView → Transactions → Transactions
told_in key None slots = slots
told_in key (Some t) slots = with_value same_key key (with_told t) slots

abbrev pub with_telling : ℕ → Key → Transactions → Transactions
with_telling now key slots = told_in key (awaited now key slots) slots
