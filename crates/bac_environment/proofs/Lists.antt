-- What is left of a list from a place on.
use Rattle.std.proofs.Common.{◌≡◌, ℕ, zero, suc, ◌+◌, List, [], ◌∷◌, map, drop, Some, sym, ap, ◌∙◌, arith, slice_get}
use Rattle.std.proofs.lemmas.Option.{slice_get-map}
use Rattle.std.specs.Option.{option_map}

-- ---- the entry at a place, and those after it

drop_suc : {A : Type 0} (xs : List A) (i : ℕ) (x : A) → slice_get xs i ≡ Some x → drop i xs ≡ x ∷ drop (suc i) xs
drop_suc [] i x e = absurd cc
drop_suc (y ∷ xs) zero x e = ap (λ z. z ∷ xs) (let same : Some y ≡ Some x = e in cc)
drop_suc (y ∷ xs) (suc i) x e = drop_suc xs i x e

pub drop_next : {A : Type 0} (xs : List A) (i : ℕ) (x : A) → slice_get xs i ≡ Some x → drop i xs ≡ x ∷ drop (i + 1) xs
drop_next xs i x e = let on : i + 1 ≡ suc i = omega arith in drop_suc xs i x e ∙ ap (λ n. x ∷ drop n xs) (sym on)

pub drop_seen : {A B : Type 0} (f : A → B) (xs : List A) (i : ℕ) (x : A) → slice_get xs i ≡ Some x → drop i (map f xs) ≡ f x ∷ drop (i + 1) (map f xs)
drop_seen f xs i x e = drop_next (map f xs) i (f x) (slice_get-map f xs i ∙ ap (option_map f) e)
