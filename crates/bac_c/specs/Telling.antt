-- The cells that a C program is told: what a store has now of a property, or of a file.
use Rattle.std.specs.Prelude.{◌<◌, ℕ, zero, suc, Bool, true, false, ◌&&◌, ◌==◌, nat_lt, List, [], ◌∷◌, Option, Some, None, if◌then◌else◌}
use Rattle.bac_value.specs.Value.{ObjectId}
use Rattle.bac_service.specs.Choices.{is_read_service}
use Rattle.bac_service.specs.Values.{object_asked, property_asked, service_asked}
use Rattle.bac_service.specs.Values.{Reference}
use Rattle.bac_store.specs.AtNode.{Change}
use Rattle.bac_store.specs.Limits.{FILE_SIZE}
use Rattle.bac_store.specs.Stores.{File, Property, Store}
use Rattle.bac_store.specs.Writes.{file_at, listed_at}
use Rattle.bac_keep.specs.Cells.{Cells, Fits, NUMBERS, file_place, value_place, with_cell}
use Rattle.bac_keep.specs.Made.{Made}
use Rattle.bac_keep.specs.Made.Made.{Changed, Performed}
use Rattle.bac_keep.specs.Noted.{chunk_count}
use Rattle.bac_keep.specs.Overlay.{chunk}

-- a cell: a place, and what is there
pub record Told : Type 0 where
  pub place : ℕ
  pub octets : List ℕ

abbrev pub place_in : Told → ℕ
place_in t = t.place

abbrev pub octets_in : Option Told → List ℕ
octets_in None = []
octets_in (Some t) = t.octets

-- this number in place of a property means the octets of a file
abbrev pub CONTENTS : ℕ
CONTENTS = 4294967295

abbrev pub number_told : Option Reference → ℕ
number_told None = CONTENTS
number_told (Some r) = if r.property == FILE_SIZE then CONTENTS else r.property

-- ---- of a property: one cell, where the network may write it

abbrev pub has_cell : (number : ℕ) → Property → Bool
has_cell n p = p.writable && nat_lt n NUMBERS

abbrev pub values_count : (number : ℕ) → Option Property → ℕ
values_count n None = 0
values_count n (Some p) = if has_cell n p then 1 else 0

abbrev pub value_told : ObjectId → (number : ℕ) → Option Property → (index : ℕ) → Option Told
value_told id n None k = None
value_told id n (Some p) k = if has_cell n p && (k == 0) then Some (record { place = value_place id n; octets = p.values }) else None

-- ---- of a file that the network may write: its chunks, and after them how many they are

abbrev pub octets_count : Option File → ℕ
octets_count None = 0
octets_count (Some f) = if f.writable then suc (chunk_count f.octets) else 0

abbrev pub count_part : ObjectId → (count index : ℕ) → Option Told
count_part id count k = if k == count then Some (record { place = file_place id 0; octets = count ∷ [] }) else None

abbrev pub part_told : ObjectId → (octets : List ℕ) → (index : ℕ) → Option Told
part_told id octets k =
    if nat_lt k (chunk_count octets) then Some (record { place = file_place id (suc k); octets = chunk octets k }) else count_part id (chunk_count octets) k

abbrev pub octets_told : ObjectId → Option File → (index : ℕ) → Option Told
octets_told id None k = None
octets_told id (Some f) k = if f.writable then part_told id f.octets k else None

-- ---- of either

abbrev pub count_told : Store → ObjectId → (number : ℕ) → ℕ
count_told s id n = if n == CONTENTS then octets_count (file_at s id) else values_count n (listed_at s id n)

abbrev pub told : Store → ObjectId → (number : ℕ) → (index : ℕ) → Option Told
told s id n k = if n == CONTENTS then octets_told id (file_at s id) k else value_told id n (listed_at s id n) k

-- ---- the cells that there are when those that are told are put into them

abbrev pub put : Option Told → Cells → Cells
put None cells = cells
put (Some t) cells = with_cell t.place t.octets cells

-- the first of them, in order
abbrev pub put_first : (ℕ → Option Told) → (count : ℕ) → Cells → Cells
put_first told zero cells = cells
put_first told (suc k) cells = put (told k) (put_first told k cells)

abbrev pub put_all : Store → ObjectId → (number : ℕ) → Cells → Cells
put_all s id n cells = put_first (told s id n) (count_told s id n) cells

-- those of what a node has made of its store, which it has now; a read changes nothing
abbrev pub put_made : Store → Made → Cells → Cells
put_made s (Performed r) cells =
    if is_read_service (service_asked r) then cells else put_all s (object_asked r) (number_told (property_asked r)) cells
put_made s (Changed (Change.Value id n octets)) cells = put_all s id n cells
put_made s (Changed (Change.File id octets)) cells = put_all s id CONTENTS cells

-- clauses 20.2.14 and 23.1: an identifier has 32 bits, and the number of a property 22
abbrev pub IsPlace : (is_read : Bool) → ObjectId → Option Reference → Type 0
IsPlace true id property = Unit {0}
IsPlace false id None = Fits id
IsPlace false id (Some r) = Fits id × (r.property < NUMBERS)

abbrev pub HasPlaces : Made → Type 0
HasPlaces (Performed r) = IsPlace (is_read_service (service_asked r)) (object_asked r) (property_asked r)
HasPlaces (Changed (Change.Value id n octets)) = Fits id × (n < NUMBERS)
HasPlaces (Changed (Change.File id octets)) = Fits id
