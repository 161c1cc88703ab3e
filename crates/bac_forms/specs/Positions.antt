-- Lines and columns of a text.
use Rattle.std.specs.Prelude.{ℕ, ◌+◌, ◌==◌, List, [], ◌∷◌, if◌then◌else◌}
use Rattle.bac_forms.specs.declared.place.Position.{Position}

-- the first octet stands in line 1, column 1
abbrev pub start : Position
start = record { line = 1; column = 1 }

abbrev pub next_position : Position → (octet : ℕ) → Position
next_position p octet =
    if octet == 10 then record { line = p.line + 1; column = 1 } else record { line = p.line; column = p.column + 1 }

-- where text that stands from a place on ends
abbrev pub position_from : Position → List ℕ → Position
position_from p [] = p
position_from p (octet ∷ text) = position_from (next_position p octet) text

abbrev pub position_of : List ℕ → Position
position_of text = position_from start text
