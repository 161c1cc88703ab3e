-- The pieces in which service data are sent (clause 5.2).
use Rattle.std.specs.Prelude.{◌≡◌, ℕ, zero, suc, ◌+◌, ◌<◌, ◌≤◌, List, [], ◌∷◌, ◌++◌, length, take, drop, slice_index_or}
use Rattle.std.specs.Int.{div_ceil}

-- the octets of all pieces, in order
abbrev pub join : List (List ℕ) → List ℕ
join [] = []
join (piece ∷ pieces) = piece ++ join pieces

-- piece n, counted from 0
abbrev pub piece_at : List (List ℕ) → ℕ → List ℕ
piece_at pieces n = slice_index_or pieces n []

-- These are the pieces of this size of these octets: non-empty lists that join to the octets. All have
-- this size, except that the last may be shorter.
pub record ArePieces (size : ℕ) (octets : List ℕ) (pieces : List (List ℕ)) : Type 0 where
  pub joined : join pieces ≡ octets
  pub some : (n : ℕ) → n < length pieces → 1 ≤ length (piece_at pieces n)
  pub full : (n : ℕ) → n + 1 < length pieces → length (piece_at pieces n) ≡ size
  pub no_longer : (n : ℕ) → n < length pieces → length (piece_at pieces n) ≤ size

-- how many pieces of this size the octets have
abbrev pub count_of : ℕ → List ℕ → ℕ
count_of size octets = div_ceil (length octets) size

-- the first count pieces of this size
abbrev pub cut : ℕ → ℕ → List ℕ → List (List ℕ)
cut zero size octets = []
cut (suc count) size octets = take size octets ∷ cut count size (drop size octets)

-- the pieces of this size of the octets
abbrev pub pieces_of : ℕ → List ℕ → List (List ℕ)
pieces_of size octets = cut (count_of size octets) size octets

-- the octets split into parts of these lengths, in order
abbrev pub split : List ℕ → List ℕ → List (List ℕ)
split [] octets = []
split (n ∷ lengths) octets = take n octets ∷ split lengths (drop n octets)
