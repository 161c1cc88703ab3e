-- Notes in a text of lines: for people, and passed over.
use Rattle.std.specs.Prelude.{ℕ, Bool, true, false, ◌==◌, ◌||◌, List, [], ◌∷◌, if◌then◌else◌, Option, Some, None}
use Rattle.std.specs.List.{list_all}
use Rattle.bac_value_text.specs.Numbers.{parts_at}

-- a carriage return
abbrev pub RETURN : ℕ
RETURN = 13

-- a space or a tab
abbrev pub is_blank : ℕ → Bool
is_blank octet = octet == 32 || octet == 9

-- the line without the carriage return at its end
abbrev pub without_return_at : List ℕ → Option (List ℕ × List ℕ) → List ℕ
without_return_at line None = line
without_return_at line (Some (front, [])) = front
without_return_at line (Some (front, octet ∷ octets)) = line

abbrev pub without_return : List ℕ → List ℕ
without_return line = without_return_at line (parts_at RETURN line)

-- a line that begins with #, or a blank one
abbrev pub is_note : List ℕ → Bool
is_note [] = true
is_note (octet ∷ octets) = octet == 35 || list_all is_blank (octet ∷ octets)

abbrev pub unless_note : List ℕ → Option (List ℕ)
unless_note line = if is_note line then None else Some line

-- what is to be read of a line; None where it is a note. Where no notes are taken, all of it
abbrev pub read_of : (notes : Bool) → List ℕ → Option (List ℕ)
read_of false line = Some line
read_of true line = unless_note (without_return line)
