-- Places that are kept as numbers with an offset.
use Rattle.std.proofs.Common.{◌≡◌, ℕ, zero, suc, ◌+◌, ◌-◌, ◌<◌, ◌≤◌, Bool, true, false, List, [], ◌∷◌, map, length, Some, slice_get}
use Rattle.std.proofs.Common.{if◌then◌else◌, nat_lt, refl, ap, sym, subst, ◌∙◌, arith}
use Rattle.std.specs.List.{insert, remove}
use Rattle.std.specs.Option.{option_map}
use Rattle.std.proofs.lemmas.Bool.Decides.{nat_tests}
use Rattle.std.proofs.lemmas.List.{length-map}
use Rattle.std.proofs.lemmas.Option.{slice_get-map}
use Rattle.bac_slots.specs.Indexes.{lowered, places_of, AllFrom, Avoids}

-- ---- read

pub from_at : (first : ℕ) (numbers : List ℕ) (n x : ℕ) → AllFrom first numbers → slice_get numbers n ≡ Some x → first ≤ x
from_at first [] n x a e = absurd cc
from_at first (m ∷ numbers) zero x a e = let same : m ≡ x = cc in subst (λ k. first ≤ k) same a.0
from_at first (m ∷ numbers) (suc n) x a e = from_at first numbers n x a.1 e

pub place_at : (first : ℕ) (numbers : List ℕ) (n x : ℕ) → slice_get numbers n ≡ Some x → slice_get (places_of first numbers) n ≡ Some (x - first)
place_at first numbers n x e = slice_get-map (λ k. k - first) numbers n ∙ ap (option_map (λ k. k - first)) e

-- ---- added

pub from_insert : (first : ℕ) (numbers : List ℕ) (n x : ℕ) → AllFrom first numbers → first ≤ x → AllFrom first (insert numbers n x)
from_insert first numbers zero x a l = (l, a)
from_insert first [] (suc n) x a l = (l, tt)
from_insert first (m ∷ numbers) (suc n) x a l = (a.0, from_insert first numbers n x a.1 l)

pub places_insert : (first : ℕ) (numbers : List ℕ) (n p : ℕ) → places_of first (insert numbers n (p + first)) ≡ insert (places_of first numbers) n p
places_insert first numbers zero p = let e : p + first - first ≡ p = omega arith in ap (λ k. k ∷ places_of first numbers) e
places_insert first [] (suc n) p = let e : p + first - first ≡ p = omega arith in ap (λ k. k ∷ []) e
places_insert first (m ∷ numbers) (suc n) p = ap (λ l. (m - first) ∷ l) (places_insert first numbers n p)

-- ---- taken out

pub from_remove : (first : ℕ) (numbers : List ℕ) (n : ℕ) → AllFrom first numbers → AllFrom first (remove numbers n)
from_remove first [] zero a = tt
from_remove first [] (suc n) a = tt
from_remove first (m ∷ numbers) zero a = a.1
from_remove first (m ∷ numbers) (suc n) a = (a.0, from_remove first numbers n a.1)

pub places_remove : (first : ℕ) (numbers : List ℕ) (n : ℕ) → places_of first (remove numbers n) ≡ remove (places_of first numbers) n
places_remove first [] zero = refl
places_remove first [] (suc n) = refl
places_remove first (m ∷ numbers) zero = refl
places_remove first (m ∷ numbers) (suc n) = ap (λ l. (m - first) ∷ l) (places_remove first numbers n)

-- ---- the first place is gone

pub from_next : (first : ℕ) (numbers : List ℕ) → AllFrom first numbers → Avoids 0 (places_of first numbers) → AllFrom (first + 1) numbers
from_next first [] a v = tt
from_next first (m ∷ numbers) a v =
    let here = v.0 in
    let from = a.0 in
    (omega (arith, here, from), from_next first numbers a.1 v.1)

lowered_first : (k : ℕ) → (k ≡ 0 → ⊥) → k - 1 ≡ lowered 0 k
lowered_first k ne = go (nat_lt 0 k) refl
  where
    go : (b : Bool) → nat_lt 0 k ≡ b → k - 1 ≡ (if b then k - 1 else k)
    go true e = refl
    go false e = let l : k ≤ 0 = grind (arith, nat_tests) in absurd (ne (omega (arith, l)))

pub places_next : (first : ℕ) (numbers : List ℕ) → Avoids 0 (places_of first numbers)
    → places_of (first + 1) numbers ≡ map (lowered 0) (places_of first numbers)
places_next first [] v = refl
places_next first (m ∷ numbers) v =
    let e : m - (first + 1) ≡ m - first - 1 = omega arith in
    ap (λ k. k ∷ places_of (first + 1) numbers) (e ∙ lowered_first (m - first) v.0)
    ∙ ap (λ l. lowered 0 (m - first) ∷ l) (places_next first numbers v.1)

-- ---- another place is gone

pub from_zero : (numbers : List ℕ) → AllFrom 0 numbers
from_zero [] = tt
from_zero (m ∷ numbers) = (omega arith, from_zero numbers)

settled : (first p : ℕ) (numbers : List ℕ) → places_of 0 (map (λ n. lowered p (n - first)) numbers) ≡ map (lowered p) (places_of first numbers)
settled first p [] = refl
settled first p (m ∷ numbers) =
    let e : lowered p (m - first) - 0 ≡ lowered p (m - first) = omega arith in
    ap (λ k. k ∷ places_of 0 (map (λ n. lowered p (n - first)) numbers)) e ∙ ap (λ l. lowered p (m - first) ∷ l) (settled first p numbers)

-- ---- all places after one was removed

pub took_first : (first : ℕ) (numbers after : List ℕ) (n place : ℕ) → AllFrom first numbers → after ≡ remove numbers n → place ≡ 0
    → Avoids place (remove (places_of first numbers) n)
    → AllFrom (first + 1) after × (places_of (first + 1) after ≡ map (lowered place) (remove (places_of first numbers) n))
took_first first numbers after n place a e zero_place v =
    let rest : List ℕ = remove numbers n in
    let avoids : Avoids 0 (places_of first rest) =
    subst (λ l. Avoids 0 l) (sym (places_remove first numbers n))
    (subst (λ k. Avoids k (remove (places_of first numbers) n)) zero_place v) in (
      subst (λ l. AllFrom (first + 1) l) (sym e) (from_next first rest (from_remove first numbers n a) avoids),
      ap (λ l. places_of (first + 1) l) e ∙ places_next first rest avoids
          ∙ ap (λ l. map (lowered 0) l) (places_remove first numbers n)
          ∙ ap (λ k. map (lowered k) (remove (places_of first numbers) n)) (sym zero_place),
    )

pub took_other : (first : ℕ) (numbers after settled_all : List ℕ) (n place : ℕ) → after ≡ remove numbers n
    → settled_all ≡ map (λ n. lowered place (n - first)) after
    → places_of 0 settled_all ≡ map (lowered place) (remove (places_of first numbers) n)
took_other first numbers after settled_all n place e f =
    ap (λ l. places_of 0 l) f ∙ settled first place after ∙ ap (λ l. map (lowered place) (places_of first l)) e
    ∙ ap (λ l. map (lowered place) l) (places_remove first numbers n)

pub within_numbers : (first : ℕ) (numbers : List ℕ) (n : ℕ) → n < length (places_of first numbers) → n < length numbers
within_numbers first numbers n l = let same = length-map numbers (λ k. k - first) in omega (arith, l, same)
