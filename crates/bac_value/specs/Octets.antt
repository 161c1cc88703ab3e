-- Lists of octets, and octets in pieces.
use Rattle.std.specs.Prelude.{◌≡◌, ℕ, ◌<◌, Bool, true, nat_lt, slice_index, List, [], ◌∷◌, ◌++◌, length, take}
use Rattle.std.specs.Global.{Vec}

-- each number is below 256
abbrev pub IsBytes : List ℕ → Type 0
IsBytes bytes = (i : ℕ) → slice_index bytes i < 256

-- the octets of all pieces, in order
abbrev pub joined : List (Vec ℕ) → List ℕ
joined [] = []
joined (v ∷ vs) = v.items ++ joined vs

-- new is old, possibly with more octets after it
abbrev pub Begins : List ℕ → List ℕ → Type 0
Begins old new = take (length old) new ≡ old

-- this many octets are fewer than the first piece has, or there is no piece
abbrev pub begins_in_first : List (Vec ℕ) → ℕ → Bool
begins_in_first [] skip = true
begins_in_first (v ∷ vs) skip = nat_lt skip (length v.items)
