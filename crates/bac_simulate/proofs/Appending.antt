-- What is printed, one entry after the other.
use Rattle.std.proofs.Common.{◌≡◌, ℕ, zero, suc, ◌+◌, List, [], ◌∷◌, ◌++◌, map, drop, Option, Some, None, Result, Ok, Err, OnOk}
use Rattle.std.proofs.Common.{sym, ap, ◌∙◌, arith, slice_get, append-nil}
use Rattle.std.proofs.lemmas.List.{append_assoc}
use Rattle.std.proofs.lemmas.Option.{slice_get-map}
use Rattle.std.specs.Option.{option_map}
use Rattle.std.specs.Io.KnownBytes.{Appends}

-- ---- two texts, one after the other

pub joined : (a b c : Option (List ℕ)) (x y : List ℕ) → Appends a b x → Appends b c y → Appends a c (x ++ y)
joined None b c x y p q = tt
joined (Some xs) None c x y p q = absurd p
joined (Some xs) (Some ys) None x y p q = absurd q
joined (Some xs) (Some ys) (Some zs) x y p q = q ∙ ap (λ (l : List ℕ). l ++ y) p ∙ append_assoc xs x y

pub before : {T E : Type 0} (r : Result T E) (a b c : Option (List ℕ)) (x y : List ℕ) → Appends a b x → OnOk r (Appends b c y) → OnOk r (Appends a c (x ++ y))
before (Ok t) a b c x y p q = joined a b c x y p q
before (Err e) a b c x y p q = tt

pub nothing_more : (a : Option (List ℕ)) → Appends a a []
nothing_more None = tt
nothing_more (Some xs) = sym (append-nil xs)

-- ---- the entry at a place, and those after it

drop_suc : {A : Type 0} (xs : List A) (i : ℕ) (x : A) → slice_get xs i ≡ Some x → drop i xs ≡ x ∷ drop (suc i) xs
drop_suc [] i x e = absurd cc
drop_suc (y ∷ xs) zero x e = ap (λ z. z ∷ xs) (let same : Some y ≡ Some x = e in cc)
drop_suc (y ∷ xs) (suc i) x e = drop_suc xs i x e

pub drop_next : {A : Type 0} (xs : List A) (i : ℕ) (x : A) → slice_get xs i ≡ Some x → drop i xs ≡ x ∷ drop (i + 1) xs
drop_next xs i x e = let on : i + 1 ≡ suc i = omega arith in drop_suc xs i x e ∙ ap (λ n. x ∷ drop n xs) (sym on)

pub drop_seen : {A B : Type 0} (f : A → B) (xs : List A) (i : ℕ) (x : A) → slice_get xs i ≡ Some x → drop i (map f xs) ≡ f x ∷ drop (i + 1) (map f xs)
drop_seen f xs i x e = drop_next (map f xs) i (f x) (slice_get-map f xs i ∙ ap (option_map f) e)
