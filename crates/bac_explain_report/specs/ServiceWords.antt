-- Services by name.
use Rattle.std.specs.Prelude.{ℕ, List, ◌++◌, codes, decimal, Option, Some, None}
use Rattle.bac_text.specs.ServiceNames.{CONFIRMED_SERVICES}
use Rattle.bac_value_text.specs.Names.{name_in}

abbrev pub named : (choice : ℕ) → Option (List ℕ) → List ℕ
named choice None = codes "service " ++ decimal choice
named choice (Some name) = name

-- by its choice where the standard has no name for it
abbrev pub service_words : (choice : ℕ) → List ℕ
service_words choice = named choice (name_in CONFIRMED_SERVICES choice)

-- one of whose data only a segment is at hand
abbrev pub segments_words : (choice : ℕ) → List ℕ
segments_words choice = service_words choice ++ codes " in segments"
