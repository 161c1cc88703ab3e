-- Laws of texts.
use Rattle.std.specs.Prelude.{◌≡◌, ℕ, Bool, true, ◌&&◌, ◌==◌, List, Option, Some, None, Ok, IsSome}
use Rattle.std.specs.List.{list_any}
use Rattle.std.specs.Str.{bytes_eq}
use Rattle.bac_value.specs.Value.{Datum, IsValue, real, double, characters, bits, enumerated}
use Rattle.bac_value_text.specs.Laws.{HasOctets}
use Rattle.bac_value_text.specs.Texts.{is_real_number, is_double_number, is_text}
use Rattle.bac_point_text.specs.Alone.{IsAlone, line_text}
use Rattle.bac_point_text.specs.Enumerations.{Names, object_types, properties, listed, name_of, number_of, is_table, rows_of}
use Rattle.bac_point_text.specs.Kinds.{kind_of}
use Rattle.bac_point_text.specs.Written.{is_finite, written}

-- ---- names and numbers

-- an enumeration that there is
abbrev pub IsEnumeration : Names → Type 0
IsEnumeration object_types = Unit {0}
IsEnumeration properties = Unit {0}
IsEnumeration (listed table) = is_table table ≡ true

-- a name has a number exactly if that number has the name
pub record IsInverse (e : Names) : Type 0 where
  pub numbers : (name : List ℕ) (number : ℕ) → number_of e name ≡ Some number → name_of e number ≡ Some name
  pub names : (name : List ℕ) (number : ℕ) → name_of e number ≡ Some name → number_of e name ≡ Some number

abbrev pub AreInverse : Type 0
AreInverse = (e : Names) → IsEnumeration e → IsInverse e

-- a row with that number and name
abbrev pub is_row : (number : ℕ) → (name : List ℕ) → List (ℕ × List ℕ) → Bool
is_row number name rows = list_any (λ row. (row.0 == number) && bytes_eq row.1 name) rows

-- each number that has a name has a row, and the name in a row reads as its number
pub record IsListed (e : Names) : Type 0 where
  pub numbers : (number : ℕ) (name : List ℕ) → name_of e number ≡ Some name → is_row number name (rows_of e) ≡ true
  pub names : (number : ℕ) (name : List ℕ) → is_row number name (rows_of e) ≡ true → number_of e name ≡ Some number

abbrev pub AreListed : Type 0
AreListed = (e : Names) → IsEnumeration e → IsListed e

-- ---- values

-- a number by its name, or with no names
abbrev pub IsNameable : Option Names → ℕ → Type 0
IsNameable None number = Unit {0}
IsNameable (Some e) number = IsEnumeration e × IsSome (name_of e number)

-- a value whose text alone says which one it is: no NaN or infinite number, no text in which something is escaped, no bits by their names
abbrev pub IsPlain : Option Names → Datum → Type 0
IsPlain names (real a) = (is_real_number a ≡ true) × (is_finite (real a) ≡ true)
IsPlain names (double a) = (is_double_number a ≡ true) × (is_finite (double a) ≡ true)
IsPlain names (characters set a) = (is_text set a ≡ true) × (line_text a ≡ a)
IsPlain names (bits unused a) = names ≡ None
IsPlain names (enumerated n) = IsNameable names n
IsPlain names d = Unit {0}

abbrev pub AreWritten : Type 0
AreWritten = (names : Option Names) (d : Datum) (text : List ℕ) → IsValue d → HasOctets d → IsPlain names d → IsAlone names d text
    → written (kind_of d) names text ≡ Ok d
