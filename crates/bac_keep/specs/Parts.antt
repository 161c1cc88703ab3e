-- What a place is for.
use Rattle.std.specs.Prelude.{ℕ, suc, ◌+◌, ◌-◌, ◌%◌, ◌<◌, ◌≤◌, ◌⊎◌}
use Rattle.bac_value.specs.Views.{object_identifier_view}
use Rattle.bac_keep.specs.declared.part.Part.{Part}
use Rattle.bac_keep.specs.declared.part.Part.TheVariants as part
use Rattle.bac_keep.specs.Cells.{FILES, NUMBERS, file_place, value_place}

abbrev pub place_for : Part → ℕ
place_for (part.Values id n) = value_place (object_identifier_view id) n
place_for (part.Count id) = file_place (object_identifier_view id) 0
place_for (part.Chunk id k) = file_place (object_identifier_view id) (suc k)

-- the number of a property has 22 bits, and a file has at most 255 chunks
abbrev pub IsSmall : Part → Type 0
IsSmall (part.Values id n) = n < NUMBERS
IsSmall (part.Count id) = Unit {0}
IsSmall (part.Chunk id k) = k < 255

-- above the places of all files, or of a chunk with too high a number
abbrev pub IsForNothing : ℕ → Type 0
IsForNothing place = (FILES + FILES ≤ place) ⊎ ((FILES ≤ place) × (255 < (place - FILES) % NUMBERS))
