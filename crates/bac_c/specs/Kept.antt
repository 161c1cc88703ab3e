-- Cells that are kept for a node that is to be started.
use Rattle.std.specs.Prelude.{◌≡◌, ◌<◌, ◌≤◌, ℕ, zero, suc, ◌-◌, ◌%◌, Bool, true, false, ◌&&◌, ◌||◌, nat_lt, List, [], ◌∷◌}
use Rattle.bac_store.specs.declared.change_fault.ChangeFault.{ChangeFault}
use Rattle.bac_store.specs.declared.change_fault.ChangeFault.TheVariants as change
use Rattle.bac_keep.specs.declared.cell.Cell.{Cell}
use Rattle.bac_keep.specs.Cells.{Cells, FILES, NUMBERS, no_cells, with_cell}
use Rattle.bac_c.specs.declared.kept_fault.KeptFault.{KeptFault}
use Rattle.bac_c.specs.declared.kept_fault.KeptFault.TheVariants as fault

-- a cell can have this place: of the values of a property, of the number of chunks of a file, or of one of its first 255 chunks
abbrev pub is_place : ℕ → Bool
is_place p = nat_lt p FILES || (nat_lt (p - FILES) FILES && nat_lt ((p - FILES) % NUMBERS) 256)

-- ---- the cells of a list: places with octets, and of each place the first

abbrev pub cells_in : List (ℕ × List ℕ) → Cells
cells_in [] = no_cells
cells_in (c ∷ cs) = with_cell c.0 c.1 (cells_in cs)

abbrev pub entry : Cell → ℕ × List ℕ
entry c = (c.place, c.octets.items)

-- ---- faults

-- a change that the store refuses, of the cell at this place
abbrev pub fault_at : (place : ℕ) → ChangeFault → KeptFault
fault_at place change.NoMemory = fault.NoMemory
fault_at place _ = fault.Wrong place

-- memory was refused, or the cell at this place is wrong, and this is why
abbrev pub IsFaultFor : (place : ℕ) → (why : Type 0) → KeptFault → Type 0
IsFaultFor place why (fault.Wrong p) = (p ≡ place) × why
IsFaultFor place why fault.NoMemory = Unit {0}

-- the octets say how many parts a file has
abbrev pub states_count : List ℕ → Bool
states_count [] = false
states_count (n ∷ []) = true
states_count (n ∷ m ∷ more) = false

-- ---- where a cell goes

-- the first cells of a list have places below this one
abbrev pub AreBelow : (place count : ℕ) → List Cell → Type 0
AreBelow p zero cells = Unit {0}
AreBelow p (suc n) [] = Unit {0}
AreBelow p (suc n) (c ∷ cs) = (c.place < p) × AreBelow p n cs

-- the cell at this index, if there is one, has this place or a greater one
abbrev pub IsNextFrom : (place index : ℕ) → List Cell → Type 0
IsNextFrom p i [] = Unit {0}
IsNextFrom p zero (c ∷ cs) = p ≤ c.place
IsNextFrom p (suc i) (c ∷ cs) = IsNextFrom p i cs

-- the cell at this index has this place
abbrev pub IsPlaceAt : (place index : ℕ) → List Cell → Type 0
IsPlaceAt p i [] = ⊥
IsPlaceAt p zero (c ∷ cs) = c.place ≡ p
IsPlaceAt p (suc i) (c ∷ cs) = IsPlaceAt p i cs
