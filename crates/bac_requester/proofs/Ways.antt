-- The way of a request, by the tests that decide it.
use Rattle.std.proofs.Common.{◌≡◌, ℕ, ◌+◌, ◌-◌, ◌<◌, ◌≤◌, ◌&&◌, Bool, false, List, length, nat_lt, nat_le, if◌then◌else◌, ap, ◌∙◌, arith}
use Rattle.std.proofs.lemmas.Bool.Decides.{nat_tests}
use Rattle.std.specs.Int.{div_ceil}
use Rattle.bac_apdu.specs.Apdu.{Limits}
use Rattle.bac_segment.specs.Limits.{DATA}
use Rattle.bac_segment.specs.Pieces.{pieces_of}
use Rattle.bac_segment.proofs.Cut.{length-pieces_of}
use Rattle.bac_protocol.specs.Sizes.{allows_segments, request_way_of_size, request_way_in_segments}
use Rattle.bac_protocol.specs.Sizes.Way.{InOne, InSegments, Refused}
use Rattle.bac_protocol.specs.Sizes.RequestFault.{NeedsSegments, TooLong}

-- neither too long nor in one APDU
pub by_segments : (size len : ℕ) (peer : Limits) (octets : List ℕ) (allowed : Bool) → length octets ≡ len → len ≤ 65535 → size < len + 4
    → (peer.takes_segments && allows_segments peer.max_segments (div_ceil len (size - 6))) ≡ allowed
    → request_way_of_size size peer octets ≡ (if allowed then InSegments (pieces_of (size - 6) octets) else Refused NeedsSegments)
by_segments size len peer octets allowed is few long test =
    let short : nat_lt DATA (length octets) ≡ false = grind (arith, nat_tests) in
    let more : nat_le (length octets + 4) size ≡ false = grind (arith, nat_tests) in
    let count : length (pieces_of (size - 6) octets) ≡ div_ceil len (size - 6) =
    length-pieces_of (size - 6) octets ∙ ap (λ n. div_ceil n (size - 6)) is in
    ap (λ b. if b then Refused TooLong else if nat_le (length octets + 4) size then InOne else request_way_in_segments peer (pieces_of (size - 6) octets)) short
    ∙ ap (λ b. if b then InOne else request_way_in_segments peer (pieces_of (size - 6) octets)) more
    ∙ ap (λ n. if peer.takes_segments && allows_segments peer.max_segments n then InSegments (pieces_of (size - 6) octets) else Refused NeedsSegments) count
    ∙ ap (λ b. if b then InSegments (pieces_of (size - 6) octets) else Refused NeedsSegments) test
