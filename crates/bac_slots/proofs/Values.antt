-- Which values are found after a slot was set, added or removed, and after a sweep.
use Rattle.std.proofs.Common.{◌≡◌, suc, ◌+◌, Bool, true, false, List, [], ◌∷◌, ◌++◌, map, length, Option, Some, None, filter}
use Rattle.std.proofs.Common.{if◌then◌else◌, refl, ap, sym, ◌∙◌, arith}
use Rattle.std.specs.Cmp.{IsEquivalence}
use Rattle.bac_slots.specs.declared.slot.Slot.{Slot}
use Rattle.bac_slots.specs.Slots.{value_at, with_value, without, keep, IsApart, IsDistinct}

module _ (K T : Type 0) (eq : K → K → Bool) (equal : IsEquivalence eq) where
  abbrev Item : Type 0
  Item = Slot K T

  found_if : (b : Bool) (v : T) (o : Option T) → b ≡ true → (if b then Some v else o) ≡ Some v
  found_if true v o e = refl
  found_if false v o e = absurd cc

  passed_if : (b : Bool) (v : T) (o : Option T) → b ≡ false → (if b then Some v else o) ≡ o
  passed_if true v o e = absurd cc
  passed_if false v o e = refl

  -- a key that differs from another differs from what equals it
  away : (a b k : K) → eq a b ≡ true → eq a k ≡ false → eq k b ≡ false
  away a b k e f = equal.symm k b ∙ sym (equal.congr a b k e) ∙ f

  apart_none : (a key : K) (slots : List Item) → eq a key ≡ true → IsApart eq a slots → value_at eq key slots ≡ None
  apart_none a key [] e h = refl
  apart_none a key (s ∷ slots) e h = passed_if (eq s.key key) s.value (value_at eq key slots) (away a key s.key e h.0) ∙ apart_none a key slots e h.1

  -- ---- set

  pub set_twice : (key : K) (a b : T) (slots : List Item) → with_value eq key b (with_value eq key a slots) ≡ with_value eq key b slots
  set_twice key a b [] = refl
  set_twice key a b (s ∷ slots) = go (eq s.key key) refl (set_twice key a b slots)
    where
      go : (x : Bool) → eq s.key key ≡ x → with_value eq key b (with_value eq key a slots) ≡ with_value eq key b slots
          → with_value eq key b (if x then record s { value = a } ∷ slots else s ∷ with_value eq key a slots)
          ≡ (if x then record s { value = b } ∷ slots else s ∷ with_value eq key b slots)
      go true e again = rw e refl
      go false e again = rw e (ap (λ l. s ∷ l) again)

  pub set_back : (key : K) (v : T) (slots : List Item) → value_at eq key slots ≡ Some v → with_value eq key v slots ≡ slots
  set_back key v [] e = absurd cc
  set_back key v (s ∷ slots) e = go (eq s.key key) e (λ f. set_back key v slots f)
    where
      go : (x : Bool) → (if x then Some s.value else value_at eq key slots) ≡ Some v → (value_at eq key slots ≡ Some v → with_value eq key v slots ≡ slots)
          → (if x then record s { value = v } ∷ slots else s ∷ with_value eq key v slots) ≡ s ∷ slots
      go true e again = let same : s.value ≡ v = cc in ap (λ w. record s { value = w } ∷ slots) (sym same)
      go false e again = ap (λ l. s ∷ l) (again e)

  pub set_length : (key : K) (v : T) (slots : List Item) → length (with_value eq key v slots) ≡ length slots
  set_length key v [] = refl
  set_length key v (s ∷ slots) = go (eq s.key key) (set_length key v slots)
    where
      go : (x : Bool) → length (with_value eq key v slots) ≡ length slots
          → length (if x then record s { value = v } ∷ slots else s ∷ with_value eq key v slots) ≡ suc (length slots)
      go true again = refl
      go false again = ap suc again

  pub set_keys : (key : K) (v : T) (slots : List Item) → map (λ s. s.key) (with_value eq key v slots) ≡ map (λ s. s.key) slots
  set_keys key v [] = refl
  set_keys key v (s ∷ slots) = go (eq s.key key) (set_keys key v slots)
    where
      go : (x : Bool) → map (λ s. s.key) (with_value eq key v slots) ≡ map (λ s. s.key) slots
          → map (λ t. t.key) (if x then record s { value = v } ∷ slots else s ∷ with_value eq key v slots) ≡ s.key ∷ map (λ s. s.key) slots
      go true again = refl
      go false again = ap (λ l. s.key ∷ l) again

  pub set_found : (key : K) (old v : T) (slots : List Item) → value_at eq key slots ≡ Some old → value_at eq key (with_value eq key v slots) ≡ Some v
  set_found key old v [] e = absurd cc
  set_found key old v (s ∷ slots) e = go (eq s.key key) refl e (λ f. set_found key old v slots f)
    where
      go : (x : Bool) → eq s.key key ≡ x → (if x then Some s.value else value_at eq key slots) ≡ Some old
          → (value_at eq key slots ≡ Some old → value_at eq key (with_value eq key v slots) ≡ Some v)
          → value_at eq key (if x then record s { value = v } ∷ slots else s ∷ with_value eq key v slots) ≡ Some v
      go true f e again = found_if (eq s.key key) v (value_at eq key slots) f
      go false f e again = passed_if (eq s.key key) s.value (value_at eq key (with_value eq key v slots)) f ∙ again e

  pub set_others : (key other : K) (v : T) (slots : List Item) → eq key other ≡ false → value_at eq other (with_value eq key v slots) ≡ value_at eq other slots
  set_others key other v [] ne = refl
  set_others key other v (s ∷ slots) ne = go (eq s.key key) refl (set_others key other v slots ne)
    where
      go : (x : Bool) → eq s.key key ≡ x → value_at eq other (with_value eq key v slots) ≡ value_at eq other slots
          → value_at eq other (if x then record s { value = v } ∷ slots else s ∷ with_value eq key v slots)
          ≡ (if eq s.key other then Some s.value else value_at eq other slots)
      go true f again =
          let apart : eq s.key other ≡ false = equal.congr s.key key other f ∙ ne in
          passed_if (eq s.key other) v (value_at eq other slots) apart ∙ sym (passed_if (eq s.key other) s.value (value_at eq other slots) apart)
      go false f again = ap (λ o. if eq s.key other then Some s.value else o) again

  -- ---- put

  pub put_found : (x : Item) (slots : List Item) → value_at eq x.key slots ≡ None → value_at eq x.key (slots ++ x ∷ []) ≡ Some x.value
  put_found x [] e = found_if (eq x.key x.key) x.value None (equal.refl x.key)
  put_found x (s ∷ slots) e = go (eq s.key x.key) e (λ f. put_found x slots f)
    where
      go : (b : Bool) → (if b then Some s.value else value_at eq x.key slots) ≡ None
          → (value_at eq x.key slots ≡ None → value_at eq x.key (slots ++ x ∷ []) ≡ Some x.value)
          → (if b then Some s.value else value_at eq x.key (slots ++ x ∷ [])) ≡ Some x.value
      go true e again = absurd cc
      go false e again = again e

  pub put_others : (x : Item) (other : K) (slots : List Item) → eq x.key other ≡ false → value_at eq other (slots ++ x ∷ []) ≡ value_at eq other slots
  put_others x other [] ne = passed_if (eq x.key other) x.value None ne
  put_others x other (s ∷ slots) ne = ap (λ o. if eq s.key other then Some s.value else o) (put_others x other slots ne)

  -- ---- taken out

  pub removed_none : (key : K) (slots : List Item) → IsDistinct eq slots → value_at eq key (without eq key slots) ≡ None
  removed_none key [] d = refl
  removed_none key (s ∷ slots) d = go (eq s.key key) refl (removed_none key slots d.1)
    where
      go : (x : Bool) → eq s.key key ≡ x → value_at eq key (without eq key slots) ≡ None
          → value_at eq key (if x then slots else s ∷ without eq key slots) ≡ None
      go true e again = apart_none s.key key slots e d.0
      go false e again = passed_if (eq s.key key) s.value (value_at eq key (without eq key slots)) e ∙ again

  pub removed_others : (key other : K) (slots : List Item) → eq key other ≡ false → value_at eq other (without eq key slots) ≡ value_at eq other slots
  removed_others key other [] ne = refl
  removed_others key other (s ∷ slots) ne = go (eq s.key key) refl (removed_others key other slots ne)
    where
      go : (x : Bool) → eq s.key key ≡ x → value_at eq other (without eq key slots) ≡ value_at eq other slots
          → value_at eq other (if x then slots else s ∷ without eq key slots) ≡ (if eq s.key other then Some s.value else value_at eq other slots)
      go true e again = sym (passed_if (eq s.key other) s.value (value_at eq other slots) (equal.congr s.key key other e ∙ ne))
      go false e again = ap (λ o. if eq s.key other then Some s.value else o) again

  pub removed_length : (key : K) (v : T) (slots : List Item) → value_at eq key slots ≡ Some v → length (without eq key slots) + 1 ≡ length slots
  removed_length key v [] e = absurd cc
  removed_length key v (s ∷ slots) e = go (eq s.key key) e (λ f. removed_length key v slots f)
    where
      go : (x : Bool) → (if x then Some s.value else value_at eq key slots) ≡ Some v
          → (value_at eq key slots ≡ Some v → length (without eq key slots) + 1 ≡ length slots)
          → length (if x then slots else s ∷ without eq key slots) + 1 ≡ suc (length slots)
      go true e again = omega arith
      go false e again = let same = again e in omega (arith, same)

  -- ---- swept

  module _ (g : T → Bool) where
    abbrev kept : List Item → List Item
    kept slots = filter (λ s. g s.value) slots

    apart_kept : (key : K) (slots : List Item) → IsApart eq key slots → IsApart eq key (kept slots)
    apart_kept key [] h = tt
    apart_kept key (s ∷ slots) h = go (g s.value) (apart_kept key slots h.1)
      where
        go : (b : Bool) → IsApart eq key (kept slots) → IsApart eq key (if b then s ∷ kept slots else kept slots)
        go true again = (h.0, again)
        go false again = again

    pub distinct_kept : (slots : List Item) → IsDistinct eq slots → IsDistinct eq (kept slots)
    distinct_kept [] h = tt
    distinct_kept (s ∷ slots) h = go (g s.value) (distinct_kept slots h.1)
      where
        go : (b : Bool) → IsDistinct eq (kept slots) → IsDistinct eq (if b then s ∷ kept slots else kept slots)
        go true again = (apart_kept s.key slots h.0, again)
        go false again = again

    pub value_kept : (key : K) (slots : List Item) → IsDistinct eq slots → value_at eq key (kept slots) ≡ keep g (value_at eq key slots)
    value_kept key [] h = refl
    value_kept key (s ∷ slots) h = go (g s.value) (eq s.key key) refl refl (value_kept key slots h.1)
      where
        go : (b d : Bool) → g s.value ≡ b → eq s.key key ≡ d → value_at eq key (kept slots) ≡ keep g (value_at eq key slots)
            → value_at eq key (if b then s ∷ kept slots else kept slots) ≡ keep g (if d then Some s.value else value_at eq key slots)
        go true true e t again = found_if (eq s.key key) s.value (value_at eq key (kept slots)) t ∙ sym (ap (λ x. if x then Some s.value else None) e)
        go true false e t again = passed_if (eq s.key key) s.value (value_at eq key (kept slots)) t ∙ again
        go false true e t again =
            apart_none s.key key (kept slots) t (apart_kept s.key slots h.0) ∙ sym (ap (λ x. if x then Some s.value else None) e)
        go false false e t again = again
