-- What an end sends is short enough for a frame.
use Rattle.std.proofs.Common.{ℕ, ◌≤◌, Bool, true, false, List, ◌∷◌, [], length, Some, None, arith, length-append, ◌/◌, ◌%◌, nat_lt}
use Rattle.std.proofs.Common.{if◌then◌else◌}
use Rattle.std.specs.Int.{w16, w32, to_be_bytes}
use Rattle.bac_apdu.specs.Apdu.{Apdu, Segment, Limits, Acknowledgement}
use Rattle.bac_apdu.specs.Spelling.{apdu_spelling, enumerated_spelling}
use Rattle.bac_protocol.specs.Short.{IsShort}

pub short_simple : (invoke_id choice : ℕ) → IsShort (Apdu.SimpleAck invoke_id choice)
unfolding apdu_spelling
short_simple invoke_id choice = omega arith

pub short_reject : (invoke_id reason : ℕ) → IsShort (Apdu.Reject invoke_id reason)
unfolding apdu_spelling
short_reject invoke_id reason = omega arith

pub short_abort : (server : Bool) (invoke_id reason : ℕ) → IsShort (Apdu.Abort server invoke_id reason)
unfolding apdu_spelling
short_abort server invoke_id reason = omega arith

pub short_ack : (server : Bool) (invoke_id : ℕ) (acknowledgement : Acknowledgement) → IsShort (Apdu.SegmentAck server invoke_id acknowledgement)
unfolding apdu_spelling
short_ack server invoke_id acknowledgement = omega arith

-- a request of one APDU
pub short_request : (limits : Limits) (invoke_id choice : ℕ) (octets : List ℕ) → length octets ≤ 1472
    → IsShort (Apdu.ConfirmedRequest limits invoke_id None choice octets)
unfolding apdu_spelling
short_request limits invoke_id choice octets le = omega arith

-- a segment of a request
pub short_request_segment : (limits : Limits) (invoke_id : ℕ) (segment : Segment) (choice : ℕ) (octets : List ℕ) → length octets ≤ 1470
    → IsShort (Apdu.ConfirmedRequest limits invoke_id (Some segment) choice octets)
unfolding apdu_spelling
short_request_segment limits invoke_id segment choice octets le = omega arith

-- the service data of a ComplexACK of one APDU
pub short_complex : (invoke_id choice : ℕ) (octets : List ℕ) → length octets ≤ 1473 → IsShort (Apdu.ComplexAck invoke_id None choice octets)
unfolding apdu_spelling
short_complex invoke_id choice octets le = omega arith

-- a segment of a reply
pub short_complex_segment : (invoke_id : ℕ) (segment : Segment) (choice : ℕ) (octets : List ℕ) → length octets ≤ 1471
    → IsShort (Apdu.ComplexAck invoke_id (Some segment) choice octets)
unfolding apdu_spelling
short_complex_segment invoke_id segment choice octets le = omega arith

enumerated_short : (n : ℕ) → length (enumerated_spelling n) ≤ 5
enumerated_short n = go (nat_lt n 256) (nat_lt n 65536) (nat_lt n 16777216)
  where
    go : (a b c : Bool) → length (if a then 0x91 ∷ n ∷ [] else (if b then 0x92 ∷ to_be_bytes w16 n
        else (if c then 0x93 ∷ n / 65536 ∷ to_be_bytes w16 (n % 65536) else 0x94 ∷ to_be_bytes w32 n))) ≤ 5
    go true b c = omega arith
    go false true c = omega arith
    go false false true = omega arith
    go false false false = omega arith

pub short_error : (invoke_id choice class code : ℕ) → IsShort (Apdu.Error invoke_id choice class code)
unfolding apdu_spelling
short_error invoke_id choice class code =
    let a = enumerated_short class in let b = enumerated_short code in let e = length-append (enumerated_spelling class) (enumerated_spelling code) in omega
    arith
