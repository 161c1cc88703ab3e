-- Octets have one list of pieces.
use Rattle.std.proofs.Common.{◌≡◌, ℕ, suc, ◌+◌, ◌-◌, ◌*◌, ◌<◌, ◌≤◌, min, List, []}
use Rattle.std.proofs.Common.{◌∷◌, length, take, drop, refl, ap, sym, subst, ◌∙◌, arith, length-append}
use Rattle.std.proofs.Math.Nat.{lt_of_mul-lt-mul_right, mul-le-mul_left}
use Rattle.std.proofs.lemmas.Grind.{div_ceil_times}
use Rattle.std.proofs.lemmas.List.{append-nil, length-take, length-drop, take_all, take_at, drop_at}
use Rattle.bac_segment.specs.Pieces.{join, piece_at, ArePieces, count_of, cut, pieces_of}
use Rattle.bac_segment.proofs.Cut.{length-pieces_of, piece_at-cut, join-pieces_of, begins_within}

length-piece_at : (size n : ℕ) (octets : List ℕ) → n < length (pieces_of size octets)
    → length (piece_at (pieces_of size octets) n) ≡ min size (length octets - n * size)
length-piece_at size n octets inside =
    ap length (piece_at-cut _ size n octets (subst (λ k. n < k) (length-pieces_of size octets) inside))
    ∙ length-take size (drop (n * size) octets) ∙ ap (λ k. min size k) (length-drop (n * size) octets)

begins : (size n : ℕ) (octets : List ℕ) → 1 ≤ size → n < length (pieces_of size octets) → n * size < length octets
begins size n octets some inside = begins_within size n octets some (subst (λ k. n < k) (length-pieces_of size octets) inside)

pub pieces_are : (size : ℕ) (octets : List ℕ) → 1 ≤ size → ArePieces size octets (pieces_of size octets)
pieces_are size octets positive = record {
  joined = join-pieces_of size octets positive;
  some = λ n inside. omega (arith, length-piece_at size n octets inside, begins size n octets positive inside);
  full = λ n inside.
      let here : n < length (pieces_of size octets) = omega arith in
      let next = begins size (n + 1) octets positive inside in
      omega (arith, length-piece_at size n octets here, next);
  no_longer = λ n inside. omega (arith, length-piece_at size n octets inside);
}

tail_are : (size : ℕ) (octets piece : List ℕ) (pieces : List (List ℕ)) → ArePieces size octets (piece ∷ pieces) → ArePieces size (join pieces) pieces
tail_are size octets piece pieces are = record {
  joined = refl;
  some = λ n inside. are.some (suc n) (omega arith);
  full = λ n inside. are.full (suc n) (omega arith);
  no_longer = λ n inside. are.no_longer (suc n) (omega arith);
}

-- the pieces are a cut
are_cut : (size : ℕ) (octets : List ℕ) (pieces : List (List ℕ)) → ArePieces size octets pieces → pieces ≡ cut (length pieces) size octets
are_cut size octets [] are = refl
are_cut size octets (piece ∷ []) are =
    let whole : piece ≡ octets = sym (append-nil piece) ∙ are.joined in
    let short : length piece ≤ size = are.no_longer 0 (omega arith) in
    ap (λ p. p ∷ []) (sym (take_all size piece short) ∙ ap (take size) whole)
are_cut size octets (piece ∷ second ∷ pieces) are =
    let full : length piece ≡ size = are.full 0 (omega arith) in
    let rest = join (second ∷ pieces) in
    let here : piece ≡ take size octets = sym (take_at piece rest size full) ∙ ap (take size) are.joined in
    let there : rest ≡ drop size octets = sym (drop_at piece rest size full) ∙ ap (drop size) are.joined in
    let later = are_cut size rest (second ∷ pieces) (tail_are size octets piece (second ∷ pieces) are) in
    ap (λ p. p ∷ second ∷ pieces) here ∙ ap (λ l. take size octets ∷ l) (later ∙ ap (λ l. cut (length (second ∷ pieces)) size l) there)

-- there are as many as the octets need
spans : (size : ℕ) (octets : List ℕ) (pieces : List (List ℕ)) → 1 ≤ size → ArePieces size octets pieces
    → (length octets ≤ length pieces * size) × (length pieces * size < length octets + size)
spans size octets [] positive are = let none = ap length are.joined in omega (arith, none)
spans size octets (piece ∷ []) positive are =
    let all = ap length are.joined ∙ refl in
    let whole = length-append piece [] in
    let some = are.some 0 (omega arith) in
    let short = are.no_longer 0 (omega arith) in
    omega (arith, all, whole, some, short)
spans size octets (piece ∷ second ∷ pieces) positive are =
    let rest = join (second ∷ pieces) in
    let all = ap length are.joined in
    let both = length-append piece rest in
    let full : length piece ≡ size = are.full 0 (omega arith) in
    let later = spans size rest (second ∷ pieces) positive (tail_are size octets piece (second ∷ pieces) are) in
    omega (arith, all, both, full, later.0, later.1)

-- two counts that are enough, but not one too many, are equal
count-le : (a b size len : ℕ) → a * size < len + size → len ≤ b * size → a ≤ b
count-le a b size len few enough =
    let below : a * size < (b + 1) * size = grind arith in
    let less = lt_of_mul-lt-mul_right size {m = a} {n = b + 1} below in
    omega arith

pub pieces_are_one : (size : ℕ) (octets : List ℕ) (pieces : List (List ℕ)) → 1 ≤ size → ArePieces size octets pieces → pieces ≡ pieces_of size octets
pieces_are_one size octets pieces positive are =
    let theirs = spans size octets pieces positive are in
    let ours = div_ceil_times (length octets) size positive in
    let few = count-le (length pieces) (count_of size octets) size (length octets) theirs.1 ours.0 in
    let many = count-le (count_of size octets) (length pieces) size (length octets) ours.1 theirs.0 in
    let count : length pieces ≡ count_of size octets = omega arith in
    are_cut size octets pieces are ∙ ap (λ count. cut count size octets) count

-- there are no more pieces than octets
pub pieces_are_few : (size : ℕ) (octets : List ℕ) → 1 ≤ size → length (pieces_of size octets) ≤ length octets
pieces_are_few size octets positive =
    let ours = div_ceil_times (length octets) size positive in
    let enough = mul-le-mul_left (length octets) positive in
    let few = count-le (count_of size octets) (length octets) size (length octets) ours.1 (omega (arith, enough)) in
    omega (arith, length-pieces_of size octets, few)
