-- Look-ups by name and by number are inverse in a table in which each name and each number appears once.
use Rattle.std.proofs.Common.{◌≡◌, ℕ, Bool, true, false, not, ◌&&◌, ◌==◌, List, [], ◌∷◌, Option, Some, refl, ap, subst, arith}
use Rattle.std.specs.List.{find}
use Rattle.std.specs.Option.{option_map}
use Rattle.std.specs.Str.{bytes_eq}
use Rattle.std.proofs.lemmas.Bool.Decides.{nat_tests}
use Rattle.std.proofs.lemmas.Slice.Eq.{bytes_eq-Decides}
use Rattle.bac_value_text.specs.Names.{AreInverse, Row}

module _ {R A B : Type 0} (f : R → A) (g : R → B) (same_a : A → A → Bool) (same_b : B → B → Bool)
    (sound : (x y : A) → same_a x y ≡ true → x ≡ y) (whole : (x : B) → same_b x x ≡ true) where
  -- what is found by one column is in the other column of the same row
  abbrev pub look : List R → A → Option B
  look rows a = option_map g (find (λ r. same_a (f r) a) rows)

  abbrev pub back : List R → B → Option A
  back rows b = option_map f (find (λ r. same_b (g r) b) rows)

  -- no row has the same value in the other column
  abbrev pub is_apart : R → List R → Bool
  is_apart r [] = true
  is_apart r (q ∷ rows) = not (same_b (g r) (g q)) && is_apart r rows

  abbrev pub are_apart : List R → Bool
  are_apart [] = true
  are_apart (r ∷ rows) = is_apart r rows && are_apart rows

  first : (a b : Bool) → a && b ≡ true → a ≡ true
  first true b h = refl
  first false b h = cc

  second : (a b : Bool) → a && b ≡ true → b ≡ true
  second true b h = h
  second false b h = cc

  no : (a : Bool) → not a ≡ true → a ≡ false
  no true h = cc
  no false h = refl

  other : (r : R) (rows : List R) (a : A) (b : B) → is_apart r rows ≡ true → look rows a ≡ Some b → same_b (g r) b ≡ false
  other r [] a b apart h = cc
  other r (q ∷ rows) a b apart h =
      go (same_a (f q) a) refl (other r rows a b (second (not (same_b (g r) (g q))) (is_apart r rows) apart))
    where
      go : (t : Bool) → same_a (f q) a ≡ t → (look rows a ≡ Some b → same_b (g r) b ≡ false) → same_b (g r) b ≡ false
      go true e rest =
          let there : Some (g q) ≡ Some b = rw e at h in
          let same : g q ≡ b = cc in
          subst (λ x. same_b (g r) x ≡ false) same (no (same_b (g r) (g q)) (first (not (same_b (g r) (g q))) (is_apart r rows) apart))
      go false e rest = let below : look rows a ≡ Some b = rw e at h in rest below

  pub comes_back : (rows : List R) (a : A) (b : B) → are_apart rows ≡ true → look rows a ≡ Some b → back rows b ≡ Some a
  comes_back [] a b apart h = cc
  comes_back (r ∷ rows) a b apart h =
      go (same_a (f r) a) refl (comes_back rows a b (second (is_apart r rows) (are_apart rows) apart))
    where
      go : (t : Bool) → same_a (f r) a ≡ t → (look rows a ≡ Some b → back rows b ≡ Some a) → back (r ∷ rows) b ≡ Some a
      go true e rest =
          let there : Some (g r) ≡ Some b = rw e at h in
          let same : g r ≡ b = cc in
          let is : same_b (g r) b ≡ true = subst (λ x. same_b (g r) x ≡ true) same (whole (g r)) in
          rw is (ap Some (sound (f r) a e))
      go false e rest =
          let below : look rows a ≡ Some b = rw e at h in
          let apart_from : same_b (g r) b ≡ false = other r rows a b (first (is_apart r rows) (are_apart rows) apart) below in
          rw apart_from (rest below)

pub number_sound : (x y : ℕ) → (x == y) ≡ true → x ≡ y
number_sound x y h = grind (arith, nat_tests)

pub number_whole : (x : ℕ) → (x == x) ≡ true
number_whole x = grind (arith, nat_tests)

pub name_sound : (x y : List ℕ) → bytes_eq x y ≡ true → x ≡ y
name_sound x y h = grind (arith, nat_tests, bytes_eq-Decides)

pub name_whole : (x : List ℕ) → bytes_eq x x ≡ true
name_whole x = grind (arith, nat_tests, bytes_eq-Decides)

-- each number and each name appears once
abbrev pub numbers_apart : List Row → Bool
numbers_apart rows = are_apart {R = Row} (λ r. r.0) (λ r. r.1) bytes_eq (λ x y. x == y) name_sound number_whole rows

abbrev pub names_apart : List Row → Bool
names_apart rows = are_apart {R = Row} (λ r. r.1) (λ r. r.0) (λ x y. x == y) bytes_eq number_sound name_whole rows

pub inverse : (rows : List Row) → numbers_apart rows ≡ true → names_apart rows ≡ true → AreInverse rows
inverse rows numbers names = (
  λ name number h. comes_back {R = Row} (λ r. r.0) (λ r. r.1) bytes_eq (λ x y. x == y) name_sound number_whole rows name number numbers h,
  λ name number h. comes_back {R = Row} (λ r. r.1) (λ r. r.0) (λ x y. x == y) bytes_eq number_sound name_whole rows number name names h,
)
