-- The cells after new values, and after new octets, are noted: what the store has now.
use Rattle.std.specs.Prelude.{ℕ, ◌+◌, ◌/◌, List, length, Option, Some, None, if◌then◌else◌}
use Rattle.bac_value.specs.Value.{ObjectId}
use Rattle.bac_store.specs.Stores.{File, Property, Store}
use Rattle.bac_store.specs.Writes.{file_at, listed_at}
use Rattle.bac_keep.specs.Cells.{Cells, value_place, with_cell}
use Rattle.bac_keep.specs.Overlay.{CHUNK, with_file}

abbrev pub with_property : ObjectId → ℕ → Option Property → Cells → Cells
with_property id n None cells = cells
with_property id n (Some p) cells = if p.writable then with_cell (value_place id n) p.values cells else cells

abbrev pub values_noted : Store → ObjectId → ℕ → Cells → Cells
values_noted s id n cells = with_property id n (listed_at s id n) cells

-- how many chunks these octets have
abbrev pub chunk_count : List ℕ → ℕ
chunk_count octets = (length octets + 1023) / CHUNK

abbrev pub with_octets_of : ObjectId → Option File → Cells → Cells
with_octets_of id None cells = cells
with_octets_of id (Some f) cells = if f.writable then with_file id f.octets (chunk_count f.octets) cells else cells

abbrev pub octets_noted : Store → ObjectId → Cells → Cells
octets_noted s id cells = with_octets_of id (file_at s id) cells
