-- The store that a document and some cells make: the document has the objects, their names, kinds and flags, and what its flags let
-- be written is taken from the cells, if they have it.
use Rattle.std.specs.Prelude.{ℕ, zero, suc, ◌*◌, Bool, ◌&&◌, nat_lt, List, [], ◌∷◌, ◌++◌, map, take, drop, Option, Some, None, if◌then◌else◌}
use Rattle.std.specs.Option.{option_map}
use Rattle.bac_value.specs.Value.{ObjectId}
use Rattle.bac_store.specs.Changes.{with_own_values}
use Rattle.bac_store.specs.Stores.{Store, Object, Property, File}
use Rattle.bac_keep.specs.declared.cell.TheConstants as code
use Rattle.bac_keep.specs.Cells.{Cells, NUMBERS, file_place, value_place, with_cell}

-- ---- properties

abbrev pub in_place : Option (List ℕ) → Property → Property
in_place None p = p
in_place (Some octets) p = with_own_values octets p

-- a property whose values are kept
abbrev pub is_kept : Property → Bool
is_kept p = p.writable && nat_lt p.number NUMBERS

abbrev pub value_over : Cells → ObjectId → Property → Property
value_over cells id p = if is_kept p then in_place (cells (value_place id p.number)) p else p

-- ---- files

-- the greatest number of octets in a chunk
abbrev pub CHUNK : ℕ
CHUNK = code.CHUNK

abbrev pub chunk : List ℕ → ℕ → List ℕ
chunk octets k = take CHUNK (drop (k * CHUNK) octets)

-- the number of chunks, which a cell states in one octet
abbrev pub count_in : List ℕ → ℕ
count_in [] = 0
count_in (n ∷ []) = if nat_lt n 256 then n else 0
count_in (n ∷ m ∷ more) = 0

abbrev pub or_nothing : Option (List ℕ) → List ℕ
or_nothing None = []
or_nothing (Some octets) = octets

-- the first chunks of a file, one after the other
abbrev pub joined : Cells → ObjectId → (count : ℕ) → List ℕ
joined cells id zero = []
joined cells id (suc k) = joined cells id k ++ or_nothing (cells (file_place id (suc k)))

abbrev pub of_chunks : Option (List ℕ) → (ℕ → List ℕ) → File → File
of_chunks None chunks f = f
of_chunks (Some count) chunks f = record f { octets = chunks (count_in count) }

abbrev pub file_over : Cells → ObjectId → File → File
file_over cells id f = if f.writable then of_chunks (cells (file_place id 0)) (joined cells id) f else f

-- the cells with the first chunks of a file
abbrev pub with_chunks : ObjectId → List ℕ → (count : ℕ) → Cells → Cells
with_chunks id octets zero cells = cells
with_chunks id octets (suc k) cells = with_cell (file_place id (suc k)) (chunk octets k) (with_chunks id octets k cells)

-- the cells with all octets of a file, which has so many chunks
abbrev pub with_file : ObjectId → List ℕ → (count : ℕ) → Cells → Cells
with_file id octets count cells = with_cell (file_place id 0) (count ∷ []) (with_chunks id octets count cells)

-- ---- objects

abbrev pub object_over : Cells → Object → Object
object_over cells o =
    record o { properties = map (value_over cells o.id) o.properties; file = option_map (file_over cells o.id) o.file }

abbrev pub overlay : Cells → Store → Store
overlay cells document = map (object_over cells) document
