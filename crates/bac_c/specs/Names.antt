-- The names of numbers, by kind: what a C program may ask for.
use Rattle.std.specs.Prelude.{◌≡◌, ◌==◌, ℕ, List, [], Option, Some, None, MatchOption, if◌then◌else◌}
use Rattle.bac_value_text.specs.AbortReasons.{ABORT_REASONS}
use Rattle.bac_value_text.specs.ErrorClasses.{ERROR_CLASSES}
use Rattle.bac_value_text.specs.ErrorCodes.{ERROR_CODES}
use Rattle.bac_value_text.specs.Names.{name_in, number_in}
use Rattle.bac_value_text.specs.ObjectTypes.{OBJECT_TYPES}
use Rattle.bac_value_text.specs.Properties.{PROPERTIES}
use Rattle.bac_value_text.specs.RejectReasons.{REJECT_REASONS}

-- 0 object types, 1 properties, 2 error classes, 3 error codes, 4 reasons of a Reject, 5 reasons of an Abort
abbrev pub name_of : (kind number : ℕ) → Option (List ℕ)
name_of kind number =
    if kind == 0 then name_in OBJECT_TYPES number else
    (if kind == 1 then name_in PROPERTIES number else
    (if kind == 2 then name_in ERROR_CLASSES number else
    (if kind == 3 then name_in ERROR_CODES number else
    (if kind == 4 then name_in REJECT_REASONS number else (if kind == 5 then name_in ABORT_REASONS number else None)))))

abbrev pub octets_of : Option (List ℕ) → List ℕ
octets_of None = []
octets_of (Some name) = name

-- object types and properties have numbers by name
abbrev pub number_of : (kind : ℕ) → (name : List ℕ) → Option ℕ
number_of kind name = if kind == 0 then number_in OBJECT_TYPES name else (if kind == 1 then number_in PROPERTIES name else None)

-- 2^32 - 1 stands for no number
abbrev pub IsNumberTold : Option ℕ → ℕ → Type 0
IsNumberTold number told = MatchOption number (told ≡ 4294967295) (λ n. told ≡ n)
