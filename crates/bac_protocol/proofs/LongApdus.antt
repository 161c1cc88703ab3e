-- How many pieces a transfer has between ends that take APDUs of 480 octets or more.
use Rattle.std.proofs.Common.{◌≡◌, ℕ, ◌+◌, ◌-◌, ◌*◌, ◌≤◌, Bool, true, false, List, length, if◌then◌else◌, nat_le, nat_lt, refl, sym, ap, subst, inl, inr, ◌∙◌, arith}
use Rattle.std.specs.Int.{div_ceil}
use Rattle.std.proofs.lemmas.Bool.Decides.{nat_tests}
use Rattle.std.proofs.lemmas.Bool.{cases_lt}
use Rattle.bac_apdu.specs.Apdu.{Limits}
use Rattle.bac_segment.specs.Limits.{DATA}
use Rattle.bac_segment.specs.Pieces.{count_of, pieces_of}
use Rattle.bac_segment.proofs.Cut.{length-pieces_of, begins_within}
use Rattle.bac_protocol.specs.Context.{Settings}
use Rattle.bac_protocol.specs.Service.{Octets}
use Rattle.bac_protocol.specs.Service.Reply.{Complex}
use Rattle.bac_protocol.specs.Sizes.{RequestFault, request_way_in_segments, request_way_of, reply_way_of}
use Rattle.bac_protocol.specs.Sizes.Way.{InOne, InSegments, Refused}
use Rattle.bac_protocol.specs.LongApdus.{RepliesAreCut, RequestsAreCut, TakesLong, TakesLongest}
use Rattle.bac_protocol.proofs.Short.{reply_cut, request_cut, request_size}
use Rattle.bac_protocol.proofs.Ways.{transfer_some}

-- so many octets have no more pieces
few_pieces : (size n : ℕ) (octets : Octets) → 1 ≤ size → length octets ≤ n * size → length (pieces_of size octets) ≤ n
few_pieces size n octets some short =
    elim (cases_lt n (count_of size octets)) [
      | inl more ↦ let past = begins_within size n octets some more in absurd (omega arith)
      | inr few ↦ let len = length-pieces_of size octets in omega arith
    ]

-- a request that goes is no longer than any transfer
pub not_too_long : (s : Settings) (peer : Limits) (service : Octets) (pieces : List Octets) → request_way_of s peer service ≡ InSegments pieces
    → length service ≤ DATA
not_too_long s peer service pieces is = go (nat_lt DATA (length service)) refl is
  where
    go : (b : Bool) → nat_lt DATA (length service) ≡ b
        → (if b then Refused RequestFault.TooLong
        else if nat_le (length service + 4) (request_size s peer) then InOne
        else request_way_in_segments peer (pieces_of (request_size s peer - 6) service)) ≡ InSegments pieces
        → length service ≤ DATA
    go true long is = absurd cc
    go false short is = grind (arith, nat_tests)

module _ (s : Settings) (peer : Limits) (service : Octets) (pieces : List Octets) where
  module _ (is : request_way_of s peer service ≡ InSegments pieces) where
    request_count : length pieces ≡ div_ceil (length service) (request_size s peer - 6)
    request_count = ap length (sym (request_cut s peer service pieces is).are) ∙ length-pieces_of (request_size s peer - 6) service

    request_few : (n : ℕ) → length service ≤ n * (request_size s peer - 6) → length pieces ≤ n
    request_few n short =
        let some = transfer_some s.limits.max_apdu peer.max_apdu in
        subst (λ (ps : List Octets). length ps ≤ n) (request_cut s peer service pieces is).are
        (few_pieces (request_size s peer - 6) n service (omega arith) short)

    request_long : TakesLong s.limits → TakesLong peer → length pieces ≤ 139
    request_long own other = let short = not_too_long s peer service pieces is in request_few 139 (omega arith)

    request_longest : TakesLongest s.limits → TakesLongest peer → length pieces ≤ 45
    request_longest own other = let short = not_too_long s peer service pieces is in request_few 45 (omega arith)

  module _ (is : reply_way_of s peer (Complex service) ≡ InSegments pieces) where
    reply_count : length pieces ≡ div_ceil (length service) (request_size s peer - 5)
    reply_count = ap length (sym (reply_cut s peer service pieces is).are) ∙ length-pieces_of (request_size s peer - 5) service

    reply_few : (n : ℕ) → length service ≤ n * (request_size s peer - 5) → length pieces ≤ n
    reply_few n short =
        let some = transfer_some s.limits.max_apdu peer.max_apdu in
        subst (λ (ps : List Octets). length ps ≤ n) (reply_cut s peer service pieces is).are
        (few_pieces (request_size s peer - 5) n service (omega arith) short)

    reply_long : length service ≤ DATA → TakesLong s.limits → TakesLong peer → length pieces ≤ 138
    reply_long short own other = reply_few 138 (omega arith)

    reply_longest : length service ≤ DATA → TakesLongest s.limits → TakesLongest peer → length pieces ≤ 45
    reply_longest short own other = reply_few 45 (omega arith)

pub requests_are_cut : RequestsAreCut
requests_are_cut = record { count = request_count; long = request_long; longest = request_longest }

pub replies_are_cut : RepliesAreCut
replies_are_cut = record { count = reply_count; long = reply_long; longest = reply_longest }
