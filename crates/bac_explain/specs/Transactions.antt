-- One transaction as it is seen: the effect of each of its APDUs, and what is wrong with that APDU.
use Rattle.std.specs.Prelude.{ℕ, ◌+◌, ◌-◌, ◌==◌, ◌&&◌, ◌||◌, nat_le, nat_lt, not, Bool, true, false, if◌then◌else◌, List, [], ◌∷◌, ◌++◌, Option, Some, None, is_none, is_some}
use Rattle.std.specs.Option.{option_map}
use Rattle.bac_protocol.specs.declared.times.TheConstants.{KEEP, LIFE}
use Rattle.bac_explain.specs.declared.finding.Finding.{Finding}
use Rattle.bac_explain.specs.declared.finding.Finding.TheVariants.{OtherService, AnotherAnswer, PerformedTwice, SentTooOften, SegmentMissing, BeyondWindow}
use Rattle.bac_explain.specs.declared.finding.Finding.TheVariants.{SegmentSentTooOften, OldCopy, NegativeAck, InvokeIdReused, InvokeIdConfused}
use Rattle.bac_explain.specs.declared.grant.Grant.{Grant}
use Rattle.bac_explain.specs.declared.grant.Grant.TheVariants.{First, Unknown, Window}
use Rattle.bac_explain.specs.declared.numbers.TheConstants.{MOST_SENDS}
use Rattle.bac_explain.specs.declared.part.Taken.{Taken}
use Rattle.bac_explain.specs.declared.sent.Place.{Place}
use Rattle.bac_explain.specs.declared.step.Step.{Step}
use Rattle.bac_explain.specs.declared.sent.Place.TheVariants.{Again, Next, Back, Ahead, Other}
use Rattle.bac_explain.specs.Appends.{is_performed_twice}
use Rattle.bac_explain.specs.Choices.{asked_by, is_of_service, keeps_answer}
use Rattle.bac_explain.specs.Grants.{is_beyond, is_spent}
use Rattle.bac_explain.specs.Numbers.{one_more}
use Rattle.bac_explain.specs.Sent.{SentView, first_sent, counted, place_of, with_asked_again, with_taken}
use Rattle.bac_explain.specs.Wholes.{is_server_abort}

-- its request, whether that came soon after another with its key, the first of its replies, whether an Abort of the server was seen within
-- that, how many negative SegmentACKs were seen, whether an Abort of the client was, how many of its APDUs had something wrong, whether it was told
-- before it is closed, and the frames that are kept of it, in the order in which they were seen
pub record TransactionView : Type 0 where
  pub request : SentView
  pub reused : Bool
  pub answer : Option SentView
  pub broken_off : Bool
  pub naks : ℕ
  pub gave_up : Bool
  pub findings : ℕ
  pub told : Bool
  pub steps : List Step

abbrev pub first_request : ℕ → Option ℕ → List ℕ → (reused : Bool) → TransactionView
first_request now number octets reused = record {
  request = first_sent now number octets;
  reused = reused;
  answer = None;
  broken_off = false;
  naks = 0;
  gave_up = false;
  findings = 0;
  told = false;
  steps = [];
}

-- what is wrong with one of its APDUs, if anything, is counted
abbrev pub noted : Option Finding → TransactionView → TransactionView
noted None t = t
noted (Some finding) t = record t { findings = one_more t.findings }

abbrev pub with_noted : TransactionView × Option Finding → TransactionView × Option Finding
with_noted n = (noted n.1 n.0, n.1)

-- its request was first seen at most 65,000 ms ago: the time for which a server of this profile remembers it
abbrev pub is_live : ℕ → TransactionView → Bool
is_live now t = nat_le (now - t.request.moment) KEEP

-- replies are expected for as long after its request was last seen
abbrev pub is_awaited : ℕ → TransactionView → Bool
is_awaited now t = nat_le (now - t.request.last) KEEP

-- its reply was seen to the end, or an Abort of either end
abbrev pub is_over_in : (broken_off gave_up : Bool) → Option SentView → Bool
is_over_in broken_off gave_up None = gave_up
is_over_in broken_off gave_up (Some s) = s.whole || broken_off || gave_up

abbrev pub is_over : TransactionView → Bool
is_over t = is_over_in t.broken_off t.gave_up t.answer

-- another request with its key: a server that holds invoke IDs strictly would send the stored reply, or Abort 0
abbrev pub confusion : List ℕ → TransactionView → Finding
confusion octets t = if keeps_answer (is_some t.answer) (asked_by t.request.octets) (asked_by octets) then InvokeIdConfused else InvokeIdReused

-- nothing is wrong with it once the transaction is over, unless invoke IDs are held strictly
abbrev pub reuse_finding : (strict_ids : Bool) → List ℕ → TransactionView → Option Finding
reuse_finding strict_ids octets t = if is_over t && not strict_ids then None else Some (confusion octets t)

-- segments before the first that is seen were not seen
abbrev pub first_finding : Option ℕ → Option Finding
first_finding None = None
first_finding (Some number) = if number == 0 then None else Some SegmentMissing

abbrev pub is_ahead_of : Place → Bool
is_ahead_of Again = false
is_ahead_of Next = false
is_ahead_of Back = false
is_ahead_of Ahead = true
is_ahead_of Other = false

abbrev pub granted_finding : Place → Option ℕ → SentView → Option Finding
granted_finding place number s =
    if is_ahead_of place then Some SegmentMissing else (if is_spent s.grant number then Some SegmentSentTooOften else None)

-- a segment: it is beyond the window, or segments before it were not seen, or it was sent too often
abbrev pub segment_finding : Place → Option ℕ → SentView → Option Finding
segment_finding place number s = if is_beyond s.grant number then Some BeyondWindow else granted_finding place number s

-- once, and three retries; the first segment is repeated with the whole request, but before any is acknowledged only by its own retries
abbrev pub spent_finding : Option ℕ → Grant → Option Finding
spent_finding None grant = Some SentTooOften
spent_finding (Some number) First = Some SegmentSentTooOften
spent_finding (Some number) Unknown = None
spent_finding (Some number) (Window g) = None

abbrev pub again_finding : Option ℕ → SentView → Option Finding
again_finding number s = if nat_lt s.times MOST_SENDS then None else spent_finding number s.grant

abbrev pub request_finding : Place → Option ℕ → SentView → Option Finding
request_finding Again number s = again_finding number s
request_finding Next number s = segment_finding Next number s
request_finding Back number s = segment_finding Back number s
request_finding Ahead number s = segment_finding Ahead number s
request_finding Other number s = None

abbrev pub is_again : Place → Bool
is_again Again = true
is_again Next = false
is_again Back = false
is_again Ahead = false
is_again Other = false

-- once the transaction is over, the same request is none too many: its client may use the invoke ID again
abbrev pub requested_finding : Place → Option ℕ → TransactionView → Option Finding
requested_finding place number t = if is_again place && is_over t then None else request_finding place number t.request

-- its request is seen again, or another segment of it
abbrev pub requested : ℕ → Place → Option ℕ → List ℕ → TransactionView → TransactionView × Option Finding
requested now place number octets t = with_noted (
  record t { request = counted now place number octets t.request; answer = option_map with_asked_again t.answer },
  requested_finding place number t,
)

-- a reply is repeated so late that it was in the network for too long, or the copy of the request that caused it was; segments are
-- repeated on their own
abbrev pub is_old : ℕ → Option ℕ → (request answer : SentView) → Bool
is_old now number request answer = is_none number && (nat_lt LIFE (now - answer.moment) && nat_lt (LIFE + LIFE) (now - request.last))

-- two replies differ; if another request had the key soon before, one of them may be the reply to that
abbrev pub other_answer : (reused : Bool) → (request first other : List ℕ) → Finding
other_answer reused request first other = if not reused && is_performed_twice request first other then PerformedTwice else AnotherAnswer

abbrev pub answer_finding : ℕ → Place → Option ℕ → (reused : Bool) → (request first : SentView) → List ℕ → Option Finding
answer_finding now Again number reused request first other = if is_old now number request first then Some OldCopy else None
answer_finding now Next number reused request first other = segment_finding Next number first
answer_finding now Back number reused request first other = segment_finding Back number first
answer_finding now Ahead number reused request first other = segment_finding Ahead number first
answer_finding now Other number reused request first other = Some (other_answer reused request.octets first.octets other)

-- an Abort of the server comes within a reply
abbrev pub breaks_off : SentView → List ℕ → Bool
breaks_off first octets = not first.whole && is_server_abort octets

abbrev pub counted_answer : ℕ → Option ℕ → List ℕ → SentView → TransactionView → TransactionView × Option Finding
counted_answer now number octets first t =
    let place = place_of first number octets in
    (record t { answer = Some (counted now place number octets first) }, answer_finding now place number t.reused t.request first octets)

abbrev pub answered_after : ℕ → Option ℕ → List ℕ → Option SentView → TransactionView → TransactionView × Option Finding
answered_after now number octets None t = (record t { answer = Some (first_sent now number octets) }, first_finding number)
answered_after now number octets (Some first) t =
    if breaks_off first octets then (record t { broken_off = true }, None) else counted_answer now number octets first t

-- a reply is seen, or a segment of one: the first is kept; one of another service than requested is ignored
abbrev pub answer_taken : ℕ → Option ℕ → List ℕ → TransactionView → TransactionView × Option Finding
answer_taken now number octets t =
    if is_of_service t.request.octets octets then answered_after now number octets t.answer t else (t, Some OtherService)

abbrev pub answered : ℕ → Option ℕ → List ℕ → TransactionView → TransactionView × Option Finding
answered now number octets t = with_noted (answer_taken now number octets t)

-- segments of its request or its reply are acknowledged
abbrev pub segments_taken : Taken → TransactionView → TransactionView
segments_taken a t =
    if a.of_request then record t { request = with_taken a t.request } else record t { answer = option_map (with_taken a) t.answer }

abbrev pub nak_counted : Bool → TransactionView → TransactionView × Option Finding
nak_counted true t = (record t { naks = one_more t.naks }, Some NegativeAck)
nak_counted false t = (t, None)

-- a SegmentACK is seen, negative or not
abbrev pub acknowledged : Taken → TransactionView → TransactionView × Option Finding
acknowledged a t = with_noted (nak_counted a.nak (segments_taken a t))

-- an Abort of the client is seen
abbrev pub given_up : TransactionView → TransactionView
given_up t = record t { gave_up = true }

-- it is told
abbrev pub with_told : TransactionView → TransactionView
with_told t = record t { told = true }

-- a frame of it is kept
abbrev pub traced : Step → TransactionView → TransactionView
traced step t = record t { steps = t.steps ++ step ∷ [] }
