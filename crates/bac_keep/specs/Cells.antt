-- Cells: the octets at each place. A place is a number for one property of an object, or for one part of a file.
use Rattle.std.specs.Prelude.{ℕ, ◌+◌, ◌*◌, ◌^◌, ◌<◌, List, Option, Some, None, if◌then◌else◌, ◌==◌}
use Rattle.bac_value.specs.Value.{ObjectId}
use Rattle.bac_store.specs.Kept.{object_number}
use Rattle.bac_keep.specs.declared.cell.TheConstants as code

-- a place without octets has no cell
abbrev pub Cells : Type 0
Cells = ℕ → Option (List ℕ)

abbrev pub no_cells : Cells
no_cells place = None

abbrev pub with_cell : (place : ℕ) → List ℕ → Cells → Cells
with_cell place octets cells q = if q == place then Some octets else cells q

-- clause 23.1: the numbers of properties have 22 bits
abbrev pub NUMBERS : ℕ
NUMBERS = code.NUMBERS

-- the first place of a file: above the places of all properties
abbrev pub FILES : ℕ
FILES = code.FILES

abbrev pub value_place : ObjectId → ℕ → ℕ
value_place id n = object_number id * NUMBERS + n

-- at 0 the number of chunks of a file, at 1 its first chunk, and so on
abbrev pub file_place : ObjectId → ℕ → ℕ
file_place id k = FILES + (object_number id * NUMBERS + k)

-- clause 20.2.14: an object identifier has 10 bits for its type and 22 for its instance
pub record Fits (id : ObjectId) : Type 0 where
  pub kind : id.kind < 1024
  pub instance : id.instance < 2 ^ 22
