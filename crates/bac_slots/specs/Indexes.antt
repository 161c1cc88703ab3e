-- The index of a table: the places of its slots in order of insertion, sorted by key.
use Rattle.std.specs.Prelude.{◌≡◌, ℕ, zero, suc, ◌+◌, ◌-◌, ◌<◌, ◌≤◌, Bool, List, [], ◌∷◌, map, length, slice_get, Some, None, Result, Ok, Err}
use Rattle.std.specs.Prelude.{if◌then◌else◌, nat_lt}
use Rattle.std.specs.declared.cmp.Ordering.{Ordering}
use Rattle.std.specs.declared.cmp.Ordering.TheVariants.{Less, Greater}
use Rattle.bac_slots.specs.declared.slot.Slot.{Slot}
use Rattle.bac_slots.specs.declared.index_slots.Entry.{Entry}
use Rattle.bac_slots.specs.declared.index_slots.Found.{Found}
use Rattle.bac_slots.specs.declared.index_slots.Seen.{Seen}
use Rattle.bac_slots.specs.declared.spot.Spot.{Spot}
use Rattle.bac_slots.specs.Slots.{value_at, rank, in_order, IsAt}

-- the slots of these keys and entries
abbrev pub joined : {K T : Type 0} → List K → List (Entry T) → List (Slot K T)
joined [] entries = []
joined (k ∷ keys) [] = []
joined (k ∷ keys) (e ∷ entries) = record { key = k; begin = e.begin; value = e.value } ∷ joined keys entries

-- a slot of which nothing but the key is told
abbrev pub bare : {K : Type 0} → K → Slot K (Unit {0})
bare k = record { key = k; begin = 0; value = tt }

-- the same for each key: the order of slots depends on their keys alone
abbrev pub keyed : {K : Type 0} → List K → List (Slot K (Unit {0}))
keyed keys = map bare keys

-- the places list the slots in ascending order of their keys
abbrev pub IsIndex : {K T : Type 0} → (K → K → Ordering) → List ℕ → List (Slot K T) → Type 0
IsIndex cmp places slots = map (λ n. slice_get slots n) places ≡ map Some (in_order cmp slots)

-- a place after the slot at `gone` was removed
abbrev pub lowered : ℕ → ℕ → ℕ
lowered gone n = if nat_lt gone n then n - 1 else n

-- the places that numbers with this offset encode
abbrev pub places_of : ℕ → List ℕ → List ℕ
places_of first numbers = map (λ n. n - first) numbers

-- no number is less than this one
abbrev pub AllFrom : ℕ → List ℕ → Type 0
AllFrom first [] = Unit {0}
AllFrom first (n ∷ numbers) = (first ≤ n) × AllFrom first numbers

-- no place equals this one
abbrev pub Avoids : ℕ → List ℕ → Type 0
Avoids gone [] = Unit {0}
Avoids gone (p ∷ places) = (p ≡ gone → ⊥) × Avoids gone places

-- the result of a search: the key's place in key order, and its slot's place in order of insertion; or where the key would be inserted
abbrev pub IsSearched : {K T : Type 0} → (K → K → Bool) → (K → K → Ordering) → K → List (Slot K T) → Result Found ℕ → Type 0
IsSearched eq cmp key slots (Ok found) =
    (found.rank ≡ rank cmp key slots) × (found.rank < length slots) × (found.place < length slots) × IsAt eq key found.place slots
IsSearched eq cmp key slots (Err n) = (n ≡ rank cmp key slots) × (n ≤ length slots) × (value_at eq key slots ≡ None)

-- the keys before this place are less than the key; those from it on are greater
abbrev pub AllBelow : {K T : Type 0} → (K → K → Ordering) → K → ℕ → List (Slot K T) → Type 0
AllBelow {K} {T} cmp key n os = (k : ℕ) (s : Slot K T) → k < n → slice_get os k ≡ Some s → cmp s.key key ≡ Less

abbrev pub AllAbove : {K T : Type 0} → (K → K → Ordering) → K → ℕ → List (Slot K T) → Type 0
AllAbove {K} {T} cmp key n os = (k : ℕ) (s : Slot K T) → n ≤ k → slice_get os k ≡ Some s → cmp s.key key ≡ Greater

-- how many numbers are before a place in a block, where the blocks have so many
abbrev pub rank_at : (sizes : List ℕ) → (block at : ℕ) → ℕ
rank_at sizes zero at = at
rank_at [] (suc block) at = at
rank_at (size ∷ sizes) (suc block) at = size + rank_at sizes block at

-- a number is at that place
abbrev pub IsHeld : (sizes : List ℕ) → (block at : ℕ) → Type 0
IsHeld [] block at = ⊥
IsHeld (size ∷ sizes) zero at = at < size
IsHeld (size ∷ sizes) (suc block) at = IsHeld sizes block at

-- a number is at that place, or is the last of the block and before it
abbrev pub IsWithin : (sizes : List ℕ) → (block at : ℕ) → Type 0
IsWithin [] block at = ⊥
IsWithin (size ∷ sizes) zero at = at ≤ size
IsWithin (size ∷ sizes) (suc block) at = IsWithin sizes block at

-- a block and the one before it have no more than 128 numbers
abbrev pub AreJoinable : (n : ℕ) → (blocks : List (List ℕ)) → Type 0
AreJoinable n blocks = (r q : List ℕ) → slice_get blocks (n - 1) ≡ Some r → slice_get blocks n ≡ Some q → length r + length q ≤ 128

-- the same where the index is in blocks of these sizes: where the key is, or where it would be inserted
abbrev pub IsSeen : {K T : Type 0} → (K → K → Bool) → (K → K → Ordering) → K → List (Slot K T) → (sizes : List ℕ) → Result Seen Spot → Type 0
IsSeen eq cmp key slots sizes (Ok seen) =
    IsHeld sizes seen.spot.block seen.spot.at × (rank_at sizes seen.spot.block seen.spot.at ≡ rank cmp key slots)
    × (seen.place < length slots) × IsAt eq key seen.place slots
IsSeen eq cmp key slots sizes (Err spot) =
    IsWithin sizes spot.block spot.at × (rank_at sizes spot.block spot.at ≡ rank cmp key slots) × (value_at eq key slots ≡ None)
