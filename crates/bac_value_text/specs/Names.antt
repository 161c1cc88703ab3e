-- Tables of names and numbers, as plain lists.
use Rattle.std.specs.Prelude.{◌≡◌, ℕ, ◌==◌, List, map, Option, Some}
use Rattle.std.specs.Borrow.{Bor}
use Rattle.std.specs.List.{find}
use Rattle.std.specs.Option.{option_map}
use Rattle.std.specs.Str.{bytes_eq}

-- a name, and its number
abbrev pub Row : Type 0
Row = List ℕ × ℕ

abbrev pub plain : List (Bor (List ℕ) × ℕ) → List Row
plain rows = map (λ r. (r.0.now, r.1)) rows

-- the number in the first row with this name
abbrev pub number_in : List Row → List ℕ → Option ℕ
number_in rows name = option_map (λ r. r.1) (find (λ r. bytes_eq r.0 name) rows)

-- the name in the first row with this number
abbrev pub name_in : List Row → ℕ → Option (List ℕ)
name_in rows number = option_map (λ r. r.0) (find (λ r. r.1 == number) rows)

-- a name has a number exactly if that number has the name
abbrev pub AreInverse : List Row → Type 0
AreInverse rows =
    ((name : List ℕ) (number : ℕ) → number_in rows name ≡ Some number → name_in rows number ≡ Some name)
    × ((name : List ℕ) (number : ℕ) → name_in rows number ≡ Some name → number_in rows name ≡ Some number)
