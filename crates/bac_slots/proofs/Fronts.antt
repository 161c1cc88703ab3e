-- The first slots of a list: each changed on its own, or visited so far.
use Rattle.std.proofs.Common.{◌≡◌, ℕ, zero, suc, ◌+◌, ◌<◌, ◌≤◌, true, false, Bool, List, [], ◌∷◌, map, length, take, Some, min, nat_le, slice_get, refl, ap, sym, subst, ◌∙◌, arith}
use Rattle.std.proofs.lemmas.Bool.Decides.{nat_tests}
use Rattle.std.specs.Prelude.{MatchOption}
use Rattle.std.specs.Cmp.{IsEquivalence}
use Rattle.bac_slots.specs.declared.slot.Slot.{Slot}
use Rattle.bac_slots.specs.Slots.{value_at, with_value, EachSlot, IsApart, IsDistinct}
use Rattle.bac_slots.specs.Ages.{changed, first_due}

one_more : (n : ℕ) → suc n ≡ n + 1
one_more n = omega arith

module _ {K T : Type 0} (h : Slot K T → T) where
  -- the first n slots are changed
  abbrev pub front : ℕ → List (Slot K T) → List (Slot K T)
  front zero slots = slots
  front (suc n) [] = []
  front (suc n) (s ∷ slots) = changed h s ∷ front n slots

  pub front_all : (slots : List (Slot K T)) → front (length slots) slots ≡ map (changed h) slots
  front_all [] = refl
  front_all (s ∷ slots) = ap (λ l. changed h s ∷ l) (front_all slots)

  front_at : (n : ℕ) (slots : List (Slot K T)) → slice_get (front n slots) n ≡ slice_get slots n
  front_at zero slots = refl
  front_at (suc n) [] = refl
  front_at (suc n) (s ∷ slots) = front_at n slots

  -- the slot is unchanged, if it exists
  front_past : (n : ℕ) (slots : List (Slot K T)) → ((s : Slot K T) → slice_get slots n ≡ Some s → h s ≡ s.value) → front (suc n) slots ≡ front n slots
  front_past zero [] e = refl
  front_past (suc n) [] e = refl
  front_past zero (s ∷ slots) e = ap (λ v. record s { value = v } ∷ slots) (e s refl)
  front_past (suc n) (s ∷ slots) e = ap (λ l. changed h s ∷ l) (front_past n slots e)

  pub passed : (n : ℕ) (old now : List (Slot K T)) → now ≡ front n old → ((s : Slot K T) → slice_get now n ≡ Some s → h s ≡ s.value) → now ≡ front (n + 1) old
  passed n old now e same =
      let stays : (s : Slot K T) → slice_get old n ≡ Some s → h s ≡ s.value = λ s at. same s (ap (λ l. slice_get l n) e ∙ front_at n old ∙ at) in
      e ∙ sym (front_past n old stays) ∙ ap (λ k. front k old) (one_more n)

  module _ (eq : K → K → Bool) (equal : IsEquivalence eq) where
    -- a slot further on has another key
    apart_at : (key : K) (n : ℕ) (slots : List (Slot K T)) (s : Slot K T) → IsApart eq key slots → slice_get slots n ≡ Some s → eq key s.key ≡ false
    apart_at key n [] s a e = absurd cc
    apart_at key zero (x ∷ slots) s a e = let same : x ≡ s = cc in ap (λ (y : Slot K T). eq key y.key) (sym same) ∙ a.0
    apart_at key (suc n) (x ∷ slots) s a e = apart_at key n slots s a.1 e

    -- the n-th slot is found among those changed so far, unchanged
    front_value : (n : ℕ) (slots : List (Slot K T)) (s : Slot K T) → IsDistinct eq slots → slice_get slots n ≡ Some s
        → value_at eq s.key (front n slots) ≡ Some s.value
    front_value n [] s d e = absurd cc
    front_value zero (x ∷ slots) s d e =
        let same : x ≡ s = cc in
        let own : eq x.key s.key ≡ true = ap (λ (y : Slot K T). eq y.key s.key) same ∙ equal.refl s.key in
        rw own (ap (λ (y : Slot K T). Some y.value) same)
    front_value (suc n) (x ∷ slots) s d e = let other = apart_at x.key n slots s d.0 e in rw other (front_value n slots s d.1 e)

    -- the n-th is changed too
    front_more : (n : ℕ) (slots : List (Slot K T)) (s : Slot K T) → IsDistinct eq slots → slice_get slots n ≡ Some s
        → with_value eq s.key (h s) (front n slots) ≡ front (suc n) slots
    front_more n [] s d e = absurd cc
    front_more zero (x ∷ slots) s d e =
        let same : x ≡ s = cc in
        let own : eq x.key s.key ≡ true = ap (λ (y : Slot K T). eq y.key s.key) same ∙ equal.refl s.key in
        rw own (ap (λ (y : Slot K T). record x { value = h y } ∷ slots) (sym same))
    front_more (suc n) (x ∷ slots) s d e =
        let other = apart_at x.key n slots s d.0 e in
        rw other (ap (λ l. changed h x ∷ l) (front_more n slots s d.1 e))

    pub set : (n : ℕ) (old now after : List (Slot K T)) (s : Slot K T) → IsDistinct eq old → now ≡ front n old → slice_get now n ≡ Some s
        → (value_at eq s.key now ≡ Some s.value → after ≡ with_value eq s.key (h s) now) → after ≡ front (n + 1) old
    set n old now after s d e f g =
        let at : slice_get old n ≡ Some s = sym (front_at n old) ∙ ap (λ l. slice_get l n) (sym e) ∙ f in
        let found : value_at eq s.key now ≡ Some s.value = ap (λ l. value_at eq s.key l) e ∙ front_value n old s d at in
        g found ∙ ap (λ l. with_value eq s.key (h s) l) e ∙ front_more n old s d at ∙ ap (λ k. front k old) (one_more n)

-- one more visited slot has the property
pub each_next : {K T : Type 0} (P Q R : Slot K T → Type 0) (n : ℕ) (slots : List (Slot K T)) → ((s : Slot K T) → P s → R s) → ((s : Slot K T) → Q s → R s)
    → EachSlot P (take n slots) → ((s : Slot K T) → slice_get slots n ≡ Some s → Q s) → EachSlot R (take (n + 1) slots)
each_next {K} {T} P Q R n slots f g e h = subst (λ k. EachSlot R (take k slots)) (one_more n) (go n slots e h)
  where
    go : (n : ℕ) (slots : List (Slot K T)) → EachSlot P (take n slots) → ((s : Slot K T) → slice_get slots n ≡ Some s → Q s) → EachSlot R (take (suc n) slots)
    go n [] e h = tt
    go zero (s ∷ slots) e h = (g s (h s refl), tt)
    go (suc n) (s ∷ slots) e h = (f s e.0, go n slots e.1 h)

-- one more visited slot in the search for the first due moment
pub first_next : {K V : Type 0} (due : V → ℕ) (n : ℕ) (slots : List (Slot K V)) (now at least : ℕ) → now ≡ first_due due (take n slots)
    → MatchOption (slice_get slots n) (at ≡ 18446744073709551615) (λ s. at ≡ due s.value) → at ≤ 18446744073709551615 → least ≡ min now at
    → least ≡ first_due due (take (n + 1) slots)
first_next {K} {V} due n slots now at least is h most e =
    e ∙ ap (λ k. min k at) is ∙ sym (go n slots h) ∙ ap (λ k. first_due due (take k slots)) (one_more n)
  where
    go : (n : ℕ) (slots : List (Slot K V)) → MatchOption (slice_get slots n) (at ≡ 18446744073709551615) (λ s. at ≡ due s.value)
        → first_due due (take (suc n) slots) ≡ min (first_due due (take n slots)) at
    go zero [] h = omega (arith, h)
    go (suc n) [] h = omega (arith, h)
    go zero (s ∷ slots) h = omega (arith, h, most)
    go (suc n) (s ∷ slots) h = let e = go n slots h in omega (arith, e)

-- Slots that are unchanged, or changed when due.

pub all_rest : {K V : Type 0} (f : Slot K V → Slot K V) (slots : List (Slot K V)) → EachSlot (λ s. f s ≡ s) slots → map f slots ≡ slots
all_rest f [] e = refl
all_rest f (s ∷ slots) e = let more = all_rest f slots e.1 in let one = e.0 in cc

pub one_moves : {K V : Type 0} (due : V → ℕ) (f : Slot K V → Slot K V) (d : ℕ) (slots : List (Slot K V)) → d < 18446744073709551615
    → EachSlot (λ s. due s.value ≡ d → f s ≡ s → ⊥) slots → first_due due slots ≡ d → map f slots ≡ slots → ⊥
one_moves due f d [] within e is same = absurd (omega (arith, within, is))
one_moves due f d (s ∷ slots) within e is same =
    go (nat_le (due s.value) (first_due due slots)) refl (λ at. let rest : map f slots ≡ slots = cc in one_moves due f d slots within e.1 at rest)
  where
    go : (b : Bool) → nat_le (due s.value) (first_due due slots) ≡ b → (first_due due slots ≡ d → ⊥) → ⊥
    go true le more = let first : f s ≡ s = cc in let at : due s.value ≡ d = grind (arith, nat_tests) in e.0 at first
    go false gt more = let at : first_due due slots ≡ d = grind (arith, nat_tests) in more at
