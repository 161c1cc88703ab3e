-- Look-ups in a table that consists of two parts.
use Rattle.std.proofs.Common.{◌≡◌, ℕ, Bool, true, false, ◌==◌, List, [], ◌∷◌, ◌++◌, Option, Some, None, refl}
use Rattle.std.specs.List.{find}
use Rattle.std.specs.Option.{option_map, option_or}
use Rattle.std.specs.Str.{bytes_eq}
use Rattle.bac_value_text.specs.Names.{Row, name_in, number_in}

found_in_both : {A B : Type 0} (f : A → B) (test : A → Bool) (xs ys : List A)
    → option_map f (find test (xs ++ ys)) ≡ option_or (option_map f (find test xs)) (option_map f (find test ys))
found_in_both f test [] ys = refl
found_in_both f test (x ∷ xs) ys = go (test x) refl (found_in_both f test xs ys)
  where
    go : (t : Bool) → test x ≡ t
        → option_map f (find test (xs ++ ys)) ≡ option_or (option_map f (find test xs)) (option_map f (find test ys))
        → option_map f (find test (x ∷ xs ++ ys)) ≡ option_or (option_map f (find test (x ∷ xs))) (option_map f (find test ys))
    go true e rest = rw e refl
    go false e rest = rw e rest

pub number_in_both : (xs ys : List Row) (name : List ℕ) → number_in (xs ++ ys) name ≡ option_or (number_in xs name) (number_in ys name)
number_in_both xs ys name = found_in_both {A = Row} (λ r. r.1) (λ r. bytes_eq r.0 name) xs ys

pub name_in_both : (xs ys : List Row) (n : ℕ) → name_in (xs ++ ys) n ≡ option_or (name_in xs n) (name_in ys n)
name_in_both xs ys n = found_in_both {A = Row} (λ r. r.0) (λ r. r.1 == n) xs ys

pub option_map_or : {A B : Type 0} (f : A → B) (x y : Option A) → option_map f (option_or x y) ≡ option_or (option_map f x) (option_map f y)
option_map_or f None y = refl
option_map_or f (Some x) y = refl
