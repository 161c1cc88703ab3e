-- Whether the cells that are kept fit the objects of a node.
use Rattle.std.specs.Prelude.{◌≡◌, ◌≢◌, ◌⊎◌, ℕ, zero, suc, Bool, true, false, not, ◌&&◌, ◌||◌, ◌==◌, nat_le, nat_lt, List, [], ◌∷◌, length, Option, Some, None, is_none}
use Rattle.bac_value.specs.Value.{ObjectId}
use Rattle.bac_value.specs.Views.{object_identifier_view}
use Rattle.bac_store.specs.AtNode.{Change, change_fault}
use Rattle.bac_store.specs.Stores.{Object, Store}
use Rattle.bac_store.specs.Writes.{file_at, listed_at}
use Rattle.std.specs.List.{AllByRecursion}
use Rattle.bac_keep.specs.declared.cell.Cell.{Cell}
use Rattle.bac_keep.specs.declared.part.Part.{Part}
use Rattle.bac_keep.specs.declared.part.Part.TheVariants as part
use Rattle.bac_keep.specs.Cells.{Cells, file_place, value_place}
use Rattle.bac_keep.specs.Held.{IsRising, held}
use Rattle.bac_keep.specs.Overlay.{CHUNK, joined}
use Rattle.bac_keep.specs.Parts.{IsSmall, place_for}
use Rattle.bac_keep.specs.Restored.{is_writable_file, is_writable_value}
use Rattle.bac_c.specs.Kept.{is_place}
use Rattle.bac_c.specs.declared.kept_fault.KeptFault.{KeptFault}
use Rattle.bac_c.specs.declared.kept_fault.KeptFault.TheVariants as fault

-- ---- values of a property: they may be set, or the network may not write them, and they have no effect

abbrev pub values_fit : Store → ObjectId → (number : ℕ) → List ℕ → Bool
values_fit s id n octets = not (is_writable_value (listed_at s id n)) || is_none (change_fault s (Change.Value id n octets))

abbrev pub property_fits : Store → ObjectId → (number : ℕ) → Option (List ℕ) → Bool
property_fits s id n None = true
property_fits s id n (Some octets) = values_fit s id n octets

-- ---- octets of a file: all its parts are there, each as long as its place allows, and together they may be set

-- the last part has 1 to 1,024 octets, each part before it 1,024
abbrev pub is_part : (is_last : Bool) → Option (List ℕ) → Bool
is_part last None = false
is_part true (Some octets) = nat_lt 0 (length octets) && nat_le (length octets) CHUNK
is_part false (Some octets) = length octets == CHUNK

-- the first parts of a file that has so many
abbrev pub has_parts : Cells → ObjectId → (count first : ℕ) → Bool
has_parts cells id count zero = true
has_parts cells id count (suc k) = has_parts cells id count k && is_part (suc k == count) (cells (file_place id (suc k)))

-- cells whose places rise have all parts of a file that has so many, or lack one
abbrev pub HaveAllParts : List Cell → ObjectId → (count : ℕ) → Bool → Type 0
HaveAllParts cells id count all = IsRising cells → has_parts (held cells) id count count ≡ all

abbrev pub octets_fit : Store → ObjectId → List ℕ → Bool
octets_fit s id octets = is_none (change_fault s (Change.File id octets))

-- by the octets of the cell that says how many parts there are
abbrev pub parts_fit : Store → Cells → ObjectId → Option (List ℕ) → Bool
parts_fit s cells id None = true
parts_fit s cells id (Some []) = false
parts_fit s cells id (Some (n ∷ [])) = has_parts cells id n n && octets_fit s id (joined cells id n)
parts_fit s cells id (Some (n ∷ m ∷ more)) = false

abbrev pub file_fits : Store → Cells → ObjectId → Bool
file_fits s cells id = not (is_writable_file (file_at s id)) || parts_fit s cells id (cells (file_place id 0))

-- ---- any cell

-- a part of a file is looked at with the cell that says how many there are
abbrev pub part_fits : Store → Cells → Part → Bool
part_fits s cells (part.Values id n) = property_fits s (object_identifier_view id) n (cells (value_place (object_identifier_view id) n))
part_fits s cells (part.Count id) = file_fits s cells (object_identifier_view id)
part_fits s cells (part.Chunk id k) = true

-- what is kept at this place fits, or does not
pub record IsPartAt (s : Store) (cells : Cells) (place : ℕ) (fits : Bool) : Type 0 where
  pub part : Part
  pub small : IsSmall part
  pub is : place ≡ place_for part
  pub fit : part_fits s cells part ≡ fits

abbrev pub IsFitAt : Store → Cells → (place : ℕ) → Type 0
IsFitAt s cells place = IsPartAt s cells place true

-- each of these fits, beside all cells
abbrev pub EachFits : Store → (all : Cells) → List Cell → Type 0
EachFits s all cells = AllByRecursion (λ (c : Cell). IsFitAt s all c.place) cells

-- each cell fits
abbrev pub AreFit : Store → Cells → Type 0
AreFit s cells = (place : ℕ) → cells place ≢ None → IsFitAt s cells place

-- there is a cell at this place, and no cell can be there, or it does not fit
pub record IsUnfitAt (s : Store) (cells : Cells) (place : ℕ) : Type 0 where
  pub there : cells place ≢ None
  pub why : (is_place place ≡ false) ⊎ IsPartAt s cells place false

-- why the cells make no store
abbrev pub IsWrong : KeptFault → Store → Cells → Type 0
IsWrong (fault.Wrong p) s cells = IsUnfitAt s cells p
IsWrong fault.NoMemory s cells = Unit {0}

-- the objects make a store that the cell at this place does not fit
pub record HasUnfit (Makes : List Object → Store → Type 0) (objects : List Object) (cells : Cells) (place : ℕ) : Type 0 where
  pub document : Store
  pub made : Makes objects document
  pub unfit : IsUnfitAt document cells place
