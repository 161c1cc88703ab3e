-- The properties that words name.
use Rattle.std.specs.Prelude.{ℕ, Bool, true, false, ◌==◌, List, [], ◌∷◌, ◌++◌, codes, if◌then◌else◌}
use Rattle.std.specs.List.{list_any}
use Rattle.bac_point_report.specs.declared.targets.Target as code

-- a property of an object, by the words for them
pub record Target : Type 0 where
  pub object : List ℕ
  pub property : List ℕ

abbrev pub target_view : code.Target → Target
target_view t = record { object = t.object.now; property = t.property.now }

-- a word for an object has a colon
abbrev pub is_object : List ℕ → Bool
is_object word = list_any (λ octet. octet == 58) word

-- the present-value of an object, where no property of it is named
abbrev pub unnamed : (is_bare : Bool) → (object : List ℕ) → List Target
unnamed true object = record { object = object; property = codes "present-value" } ∷ []
unnamed false object = []

-- those that the words behind an object name; a property of it has been named already, or none has
abbrev pub targets_behind : (object : List ℕ) → (is_bare : Bool) → (words : List (List ℕ)) → List Target
targets_behind object is_bare [] = unnamed is_bare object
targets_behind object is_bare (word ∷ words) =
    if is_object word then unnamed is_bare object ++ targets_behind word true words
    else record { object = object; property = word } ∷ targets_behind object false words

-- the first word is for an object
abbrev pub targets_of : (words : List (List ℕ)) → List Target
targets_of [] = []
targets_of (word ∷ words) = targets_behind word true words
