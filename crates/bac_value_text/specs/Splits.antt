-- The parts of a text between separators.
use Rattle.std.specs.Prelude.{ℕ, Bool, List, [], ◌∷◌, if◌then◌else◌}

-- an octet before the first of some parts
abbrev pub onto_first : ℕ → List (List ℕ) → List (List ℕ)
onto_first octet [] = (octet ∷ []) ∷ []
onto_first octet (part ∷ parts) = (octet ∷ part) ∷ parts

-- the parts of a text; between two adjacent separators there is an empty part
abbrev pub split_by : (is_separator : ℕ → Bool) → List ℕ → List (List ℕ)
split_by is_separator [] = [] ∷ []
split_by is_separator (octet ∷ octets) =
    if is_separator octet then [] ∷ split_by is_separator octets else onto_first octet (split_by is_separator octets)
