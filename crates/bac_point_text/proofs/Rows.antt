-- In each table a name has a number exactly if that number has the name.
use Rattle.std.proofs.Common.{◌≡◌, ℕ, Bool, true, false, ◌&&◌, ◌||◌, List, [], ◌∷◌, map, Option, Some, None, refl, sym, ◌∙◌, ap, subst, if◌then◌else◌}
use Rattle.std.specs.List.{find, list_all, list_any}
use Rattle.std.specs.Option.{option_map}
use Rattle.std.specs.Str.{bytes_eq}
use Rattle.std.specs.Str.Lines.{lines}
use Rattle.bac_value_text.specs.Names as plain
use Rattle.bac_value_text.specs.Numbers.{◌>>=◌}
use Rattle.bac_value_text.specs.ObjectTypes.{OBJECT_TYPES}
use Rattle.bac_value_text.specs.Properties.{PROPERTIES}
use Rattle.bac_value_text.proofs.Inverse.{are_apart, comes_back, number_sound, number_whole, name_sound, name_whole}
use Rattle.bac_point_text.specs.Enumerations.{object_types, properties, listed, TABLES}
use Rattle.bac_point_text.specs.Laws.{AreInverse, IsInverse}
use Rattle.bac_point_text.specs.Lines.{behind, number_part, same_number, has_name, name_in}
use Rattle.bac_point_text.proofs.Parts.{both}

-- a line as its name and its number
abbrev Row : Type 0
Row = List ℕ × Option ℕ

abbrev row_of : List ℕ → Row
row_of line = (behind line, number_part line)

abbrev rows : List ℕ → List Row
rows table = map row_of (lines table)

same_sound : (x y : Option ℕ) → same_number x y ≡ true → x ≡ y
same_sound None None h = refl
same_sound None (Some y) h = cc
same_sound (Some x) None h = cc
same_sound (Some x) (Some y) h = ap Some (number_sound x y h)

same_whole : (x : Option ℕ) → same_number x x ≡ true
same_whole None = refl
same_whole (Some x) = number_whole x

abbrev numbers_apart : List Row → Bool
numbers_apart rs = are_apart {R = Row} (λ r. r.0) (λ r. r.1) bytes_eq same_number name_sound same_whole rs

abbrev names_apart : List Row → Bool
names_apart rs = are_apart {R = Row} (λ r. r.1) (λ r. r.0) same_number bytes_eq same_sound name_whole rs

abbrev is_apart : List ℕ → Bool
is_apart table = numbers_apart (rows table) && names_apart (rows table)

all_apart : list_all is_apart TABLES ≡ true
unfolding TABLES
all_apart = refl

-- what all tables have, each has
each_has : (p : List ℕ → Bool) (table : List ℕ) (tables : List (List ℕ)) → list_all p tables ≡ true
    → list_any (λ t. bytes_eq t table) tables ≡ true → p table ≡ true
each_has p table [] all there = cc
each_has p table (t ∷ tables) all there =
    let parts = both (p t) (list_all p tables) all in
    go (bytes_eq t table) refl there parts.0 (each_has p table tables parts.1)
  where
    go : (b : Bool) → bytes_eq t table ≡ b → (b || list_any (λ t. bytes_eq t table) tables) ≡ true → p t ≡ true
        → (list_any (λ t. bytes_eq t table) tables ≡ true → p table ≡ true) → p table ≡ true
    go true e h first rest = subst (λ (x : List ℕ). p x ≡ true) (name_sound t table e) first
    go false e h first rest = rest h

mapped : {A R B : Type 0} (row : A → R) (test : R → Bool) (part : R → B) (xs : List A)
    → option_map part (find test (map row xs)) ≡ option_map (λ x. part (row x)) (find (λ x. test (row x)) xs)
mapped row test part [] = refl
mapped row test part (x ∷ xs) = go (test (row x)) (mapped row test part xs) where
  go : (b : Bool) → option_map part (find test (map row xs)) ≡ option_map (λ x. part (row x)) (find (λ x. test (row x)) xs)
      → option_map part (if b then Some (row x) else find test (map row xs))
      ≡ option_map (λ x. part (row x)) (if b then Some x else find (λ x. test (row x)) xs)
  go true h = refl
  go false h = h

by_name : (table name : List ℕ) → option_map (λ (r : Row). r.1) (find (λ (r : Row). bytes_eq r.0 name) (rows table))
    ≡ option_map number_part (find (has_name name) (lines table))
by_name table name = mapped {R = Row} row_of (λ r. bytes_eq r.0 name) (λ r. r.1) (lines table)

by_number : (table : List ℕ) (number : ℕ) → option_map (λ (r : Row). r.0) (find (λ (r : Row). same_number r.1 (Some number)) (rows table))
    ≡ name_in table number
by_number table number = mapped {R = Row} row_of (λ r. same_number r.1 (Some number)) (λ r. r.0) (lines table)

line_number : (o : Option (List ℕ)) (number : ℕ) → (o >>= number_part) ≡ Some number → option_map number_part o ≡ Some (Some number)
line_number None number h = cc
line_number (Some line) number h = ap Some h

number_of_line : (o : Option (List ℕ)) (number : ℕ) → option_map number_part o ≡ Some (Some number) → (o >>= number_part) ≡ Some number
number_of_line None number h = cc
number_of_line (Some line) number h = cc

listed_inverse : (table : List ℕ) → is_apart table ≡ true → IsInverse (listed table)
listed_inverse table apart =
    let parts = both (numbers_apart (rows table)) (names_apart (rows table)) apart in
    record {
      numbers = λ name number h. sym (by_number table number)
          ∙ comes_back {R = Row} (λ r. r.0) (λ r. r.1) bytes_eq same_number name_sound same_whole (rows table) name (Some number) parts.0
          (by_name table name ∙ line_number (find (has_name name) (lines table)) number h);
      names = λ name number h. number_of_line (find (has_name name) (lines table)) number (sym (by_name table name)
          ∙ comes_back {R = Row} (λ r. r.1) (λ r. r.0) same_number bytes_eq same_sound name_whole (rows table) (Some number) name parts.1
          (by_number table number ∙ h));
    }

pub all_inverse : plain.AreInverse OBJECT_TYPES → plain.AreInverse PROPERTIES → AreInverse
all_inverse types props object_types known = record { numbers = types.0; names = λ name number h. types.1 name number h }
all_inverse types props properties known = record { numbers = props.0; names = λ name number h. props.1 name number h }
all_inverse types props (listed table) known = listed_inverse table (each_has is_apart table TABLES all_apart known)
