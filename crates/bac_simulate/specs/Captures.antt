-- The copies of a world as a capture file, each at the millisecond of its sending, where so many parts of a moment are a millisecond.
use Rattle.std.specs.Prelude.{ℕ, ◌/◌, List, [], ◌∷◌, ◌++◌}
use Rattle.bac_capture.specs.Records.{file_head, record_octets}
use Rattle.bac_world.specs.World.{Copy}

abbrev pub record_of : (parts : ℕ) → Copy → List ℕ
record_of parts c = record_octets (c.moment / parts) c.from c.to c.octets

abbrev pub records_of : (parts : ℕ) → List Copy → List ℕ
records_of parts [] = []
records_of parts (c ∷ copies) = record_of parts c ++ records_of parts copies

abbrev pub capture_of : (parts : ℕ) → List Copy → List ℕ
capture_of parts copies = file_head ++ records_of parts copies
