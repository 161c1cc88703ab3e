-- All names of an enumeration have rows, and no row has another name.
use Rattle.std.proofs.Common.{◌≡◌, ℕ, zero, suc, ◌+◌, ◌<◌, ◌≤◌, nat_lt, ◌==◌, Bool, true, false, ◌&&◌, ◌||◌, List, [], ◌∷◌, ◌++◌, Option, Some, None}
use Rattle.std.proofs.Common.{refl, sym, ◌∙◌, ap, subst, arith, if◌then◌else◌}
use Rattle.std.specs.List.{filter_map, find, flat_map, list_all, list_any, range_with_len, cons_option}
use Rattle.std.specs.Option.{option_map}
use Rattle.std.specs.Str.{bytes_eq}
use Rattle.std.specs.Str.Lines.{lines}
use Rattle.std.proofs.lemmas.Bool.Decides.{nat_tests}
use Rattle.std.proofs.lemmas.List.Folds.{list_any-append}
use Rattle.bac_value_text.specs.Names as plain
use Rattle.bac_value_text.specs.ObjectTypes.{OBJECT_TYPES}
use Rattle.bac_value_text.specs.Properties.{PROPERTIES, A_TO_B, C, D_TO_E, F_TO_L, M_TO_N, O_TO_P, R_TO_S, T_TO_Z}
use Rattle.bac_value_text.proofs.Inverse.{number_sound, number_whole, name_sound, name_whole}
use Rattle.bac_point_text.specs.Enumerations.{Names, object_types, properties, listed, name_of, numbers_of, row_with, rows_at}
use Rattle.bac_point_text.specs.Laws.{AreInverse, AreListed, is_row}
use Rattle.bac_point_text.specs.Lines.{behind, has_number, number_part, same_number}
use Rattle.bac_point_text.proofs.Parts.{both}

-- the number is among these
abbrev has : ℕ → List ℕ → Bool
has number numbers = list_any (λ n. n == number) numbers

abbrev is_such : (number : ℕ) → (name : List ℕ) → (row : ℕ × List ℕ) → Bool
is_such number name row = (row.0 == number) && bytes_eq row.1 name

any_left : {X : Type 0} (p : X → Bool) (xs ys : List X) → list_any p xs ≡ true → list_any p (xs ++ ys) ≡ true
any_left p [] ys h = cc
any_left {X = X} p (x ∷ xs) ys h = go (p x) h (any_left p xs ys) where
  go : (b : Bool) → (b || list_any p xs) ≡ true → (list_any p xs ≡ true → list_any p (xs ++ ys) ≡ true) → (b || list_any p (xs ++ ys)) ≡ true
  go true h rest = refl
  go false h rest = rest h

any_right : {X : Type 0} (p : X → Bool) (xs ys : List X) → list_any p ys ≡ true → list_any p (xs ++ ys) ≡ true
any_right p [] ys h = h
any_right {X = X} p (x ∷ xs) ys h = go (p x) (any_right p xs ys h) where
  go : (b : Bool) → list_any p (xs ++ ys) ≡ true → (b || list_any p (xs ++ ys)) ≡ true
  go true h = refl
  go false h = h

no_more : (b : Bool) → (b || false) ≡ true → b ≡ true
no_more true h = refl
no_more false h = h

-- ---- each number that has a name has a row

row_there : (number : ℕ) (name : List ℕ) → is_row number name (row_with number (Some name)) ≡ true
row_there number name = rw (number_whole number, name_whole name) refl

there : (e : Names) (n number : ℕ) (name : List ℕ) → name_of e number ≡ Some name → n ≡ number → is_row number name (rows_at e n) ≡ true
there e n number name is same =
    subst (λ (m : ℕ). is_row number name (rows_at e m) ≡ true) (sym same)
    (subst (λ (o : Option (List ℕ)). is_row number name (row_with number o) ≡ true) (sym is) (row_there number name))

covered : (e : Names) (number : ℕ) (name : List ℕ) (numbers : List ℕ) → name_of e number ≡ Some name → has number numbers ≡ true
    → is_row number name (flat_map (rows_at e) numbers) ≡ true
covered e number name [] is h = cc
covered e number name (n ∷ numbers) is h = go (n == number) refl h (covered e number name numbers is) where
  go : (b : Bool) → (n == number) ≡ b → (b || has number numbers) ≡ true
      → (has number numbers ≡ true → is_row number name (flat_map (rows_at e) numbers) ≡ true)
      → is_row number name (rows_at e n ++ flat_map (rows_at e) numbers) ≡ true
  go true same h rest =
      any_left (is_such number name) (rows_at e n) (flat_map (rows_at e) numbers) (there e n number name is (number_sound n number same))
  go false same h rest = any_right (is_such number name) (rows_at e n) (flat_map (rows_at e) numbers) (rest h)

in_lines : (ls : List (List ℕ)) (number : ℕ) (name : List ℕ) → option_map behind (find (has_number number) ls) ≡ Some name
    → has number (filter_map number_part ls) ≡ true
in_lines [] number name is = cc
in_lines (l ∷ ls) number name is = go (number_part l) is (in_lines ls number name) where
  found : (b : Bool) → option_map behind (if b then Some l else find (has_number number) ls) ≡ Some name
      → (option_map behind (find (has_number number) ls) ≡ Some name → has number (filter_map number_part ls) ≡ true)
      → (b || has number (filter_map number_part ls)) ≡ true
  found true is rest = refl
  found false is rest = rest is

  go : (o : Option ℕ) → option_map behind (if same_number o (Some number) then Some l else find (has_number number) ls) ≡ Some name
      → (option_map behind (find (has_number number) ls) ≡ Some name → has number (filter_map number_part ls) ≡ true)
      → has number (cons_option o (filter_map number_part ls)) ≡ true
  go None is rest = rest is
  go (Some n) is rest = found (n == number) is rest

in_range : (first count number : ℕ) → first ≤ number → number < first + count → has number (range_with_len first count) ≡ true
in_range first zero number least most = absurd (omega (arith, least, most))
in_range first (suc count) number least most =
    go (first == number) refl (λ (l : first + 1 ≤ number). in_range (first + 1) count number l (omega (arith, most)))
  where
    go : (b : Bool) → (first == number) ≡ b → (first + 1 ≤ number → has number (range_with_len (first + 1) count) ≡ true)
        → (b || has number (range_with_len (first + 1) count)) ≡ true
    go true same rest = refl
    go false same rest = rest (grind (arith, nat_tests, least, same))

-- no row has a greater number
abbrev are_below : List plain.Row → Bool
are_below rows = list_all (λ r. nat_lt r.1 1024) rows

types_below : are_below OBJECT_TYPES ≡ true
unfolding OBJECT_TYPES
types_below = refl

properties_below : are_below PROPERTIES ≡ true
unfolding A_TO_B C D_TO_E F_TO_L M_TO_N O_TO_P R_TO_S T_TO_Z
properties_below = refl

below : (rows : List plain.Row) (number : ℕ) (name : List ℕ) → plain.name_in rows number ≡ Some name → are_below rows ≡ true → nat_lt number 1024 ≡ true
below [] number name is all = cc
below (r ∷ rows) number name is all =
    let parts = both (nat_lt r.1 1024) (are_below rows) all in
    go (r.1 == number) refl is parts.0 (λ k. below rows number name k parts.1)
  where
    go : (b : Bool) → (r.1 == number) ≡ b → option_map (λ (x : plain.Row). x.0) (if b then Some r else find (λ x. x.1 == number) rows) ≡ Some name
        → nat_lt r.1 1024 ≡ true → (plain.name_in rows number ≡ Some name → nat_lt number 1024 ≡ true) → nat_lt number 1024 ≡ true
    go true same is first rest = subst (λ (n : ℕ). nat_lt n 1024 ≡ true) (number_sound r.1 number same) first
    go false same is first rest = rest is

numbered : (number : ℕ) → nat_lt number 1024 ≡ true → has number (range_with_len 0 1024) ≡ true
numbered number small = in_range 0 1024 number (omega arith) (grind (arith, nat_tests, small))

numbers_there : (e : Names) (number : ℕ) (name : List ℕ) → name_of e number ≡ Some name → has number (numbers_of e) ≡ true
numbers_there object_types number name is = numbered number (below OBJECT_TYPES number name is types_below)
numbers_there properties number name is = numbered number (below PROPERTIES number name is properties_below)
numbers_there (listed table) number name is = in_lines (lines table) number name is

-- ---- each row is the name of its number

row_is : (e : Names) (n number : ℕ) (name : List ℕ) → is_row number name (rows_at e n) ≡ true → name_of e number ≡ Some name
row_is e n number name h = go (name_of e n) refl h where
  go : (o : Option (List ℕ)) → name_of e n ≡ o → is_row number name (row_with n o) ≡ true → name_of e number ≡ Some name
  go None is h = cc
  go (Some found) is h =
      let parts = both (n == number) (bytes_eq found name) (no_more ((n == number) && bytes_eq found name) h) in
      subst (λ (m : ℕ). name_of e m ≡ Some name) (number_sound n number parts.0) (is ∙ ap Some (name_sound found name parts.1))

rows_are : (e : Names) (number : ℕ) (name : List ℕ) (numbers : List ℕ) → is_row number name (flat_map (rows_at e) numbers) ≡ true → name_of e number ≡ Some name
rows_are e number name [] h = cc
rows_are e number name (n ∷ numbers) h =
    go (is_row number name (rows_at e n)) refl
    (sym (list_any-append (is_such number name) (rows_at e n) (flat_map (rows_at e) numbers)) ∙ h) (rows_are e number name numbers)
  where
    go : (b : Bool) → is_row number name (rows_at e n) ≡ b → (b || is_row number name (flat_map (rows_at e) numbers)) ≡ true
        → (is_row number name (flat_map (rows_at e) numbers) ≡ true → name_of e number ≡ Some name) → name_of e number ≡ Some name
    go true first h rest = row_is e n number name first
    go false first h rest = rest h

pub all_listed : AreInverse → AreListed
all_listed inverse e known = record {
  numbers = λ number name is. covered e number name (numbers_of e) is (numbers_there e number name is);
  names = λ number name h. (inverse e known).names name number (rows_are e number name (numbers_of e) h);
}
