-- A sweep goes from the last slot to the first: slots before a place are unchanged, and of the others those remain that pass.
use Rattle.std.proofs.Common.{◌≡◌, ℕ, zero, suc, ◌+◌, ◌-◌, ◌<◌, ◌≤◌, Bool, true, false, List, [], ◌∷◌, length, Option, Some, None, slice_get, take}
use Rattle.std.proofs.Common.{filter, count_by, cond, map}
use Rattle.std.specs.Option.{option_map}
use Rattle.std.proofs.Common.{refl, ap, sym, ◌∙◌, arith}
use Rattle.std.specs.Cmp.{IsEquivalence}
use Rattle.std.proofs.lemmas.List.Sums.{sum_by-cons}
use Rattle.bac_slots.specs.declared.slot.Slot.{Slot}
use Rattle.bac_slots.specs.Slots.{without, IsApart, IsDistinct}

abbrev pub back : {K T : Type 0} → (Slot K T → Bool) → ℕ → List (Slot K T) → List (Slot K T)
back p zero slots = filter p slots
back p (suc n) [] = []
back p (suc n) (s ∷ slots) = s ∷ back p n slots

module _ (K T : Type 0) (eq : K → K → Bool) (equal : IsEquivalence eq) (p : Slot K T → Bool) where
  abbrev Item : Type 0
  Item = Slot K T

  back_all : (slots : List Item) → back p (length slots) slots ≡ slots
  back_all [] = refl
  back_all (s ∷ slots) = ap (λ l. s ∷ l) (back_all slots)

  pub sweep_first : (n : ℕ) (slots : List Item) → n ≡ length slots → slots ≡ back p n slots
  sweep_first n slots e = sym (ap (λ k. back p k slots) e ∙ back_all slots)

  slice_get-back : (n : ℕ) (slots : List Item) → slice_get (back p (suc n) slots) n ≡ slice_get slots n
  slice_get-back n [] = refl
  slice_get-back zero (s ∷ slots) = refl
  slice_get-back (suc n) (s ∷ slots) = slice_get-back n slots

  -- that slot passes, or does not exist
  back_keeps : (n : ℕ) (slots : List Item) → ((s : Item) → slice_get slots n ≡ Some s → p s ≡ true) → back p (suc n) slots ≡ back p n slots
  back_keeps zero [] h = refl
  back_keeps (suc n) [] h = refl
  back_keeps zero (s ∷ slots) h = rw (h s refl) refl
  back_keeps (suc n) (s ∷ slots) h = ap (λ l. s ∷ l) (back_keeps n slots h)

  apart_at : (key : K) (n : ℕ) (slots : List Item) (s : Item) → IsApart eq key slots → slice_get slots n ≡ Some s → eq key s.key ≡ false
  apart_at key n [] s a e = absurd cc
  apart_at key zero (t ∷ slots) s a e = let same : t ≡ s = cc in ap (λ (u : Item). eq key u.key) (sym same) ∙ a.0
  apart_at key (suc n) (t ∷ slots) s a e = apart_at key n slots s a.1 e

  -- that slot fails and is removed
  back_drops : (n : ℕ) (slots : List Item) (s : Item) → IsDistinct eq slots → slice_get slots n ≡ Some s → p s ≡ false
      → without eq s.key (back p (suc n) slots) ≡ back p n slots
  back_drops n [] s d e f = absurd cc
  back_drops zero (t ∷ slots) s d e f =
      let same : t ≡ s = cc in
      let fails : p t ≡ false = ap p same ∙ f in
      let here : eq t.key s.key ≡ true = ap (λ (u : Item). eq u.key s.key) same ∙ equal.refl s.key in
      rw (fails, here) refl
  back_drops (suc n) (t ∷ slots) s d e f =
      let other : eq t.key s.key ≡ false = apart_at t.key n slots s d.0 e in
      rw other (ap (λ l. t ∷ l) (back_drops n slots s d.1 e f))

  less_one : (n : ℕ) → suc n - 1 ≡ n
  less_one n = omega arith

  pub sweep_keeps : (n : ℕ) (old now : List Item) → 0 < n → now ≡ back p n old → ((s : Item) → slice_get now (n - 1) ≡ Some s → p s ≡ true)
      → now ≡ back p (n - 1) old
  sweep_keeps zero old now l e h = absurd (omega arith)
  sweep_keeps (suc n) old now l e h =
      e ∙ back_keeps n old (λ s f. h s (ap (λ k. slice_get now k) (less_one n) ∙ ap (λ x. slice_get x n) e ∙ slice_get-back n old ∙ f))
      ∙ ap (λ k. back p k old) (sym (less_one n))

  pub sweep_drops : (n : ℕ) (old now next : List Item) (s : Item) → 0 < n → IsDistinct eq old → now ≡ back p n old → slice_get now (n - 1) ≡ Some s
      → p s ≡ false → next ≡ without eq s.key now → next ≡ back p (n - 1) old
  sweep_drops zero old now next s l d e f h k = absurd (omega arith)
  sweep_drops (suc n) old now next s l d e f h k =
      let at : slice_get old n ≡ Some s =
      sym (slice_get-back n old) ∙ ap (λ x. slice_get x n) (sym e) ∙ ap (λ m. slice_get now m) (sym (less_one n)) ∙ f in
      k ∙ ap (λ x. without eq s.key x) e ∙ back_drops n old s d at h ∙ ap (λ m. back p m old) (sym (less_one n))

-- ---- counting one more

module _ (X : Type 0) (p : X → Bool) where
  count_suc : (n : ℕ) (xs : List X) (x : X) → slice_get xs n ≡ Some x → count_by p (take (suc n) xs) ≡ count_by p (take n xs) + cond (p x) 1 0
  count_suc n [] x e = absurd cc
  count_suc zero (y ∷ xs) x e =
      let same : y ≡ x = cc in sum_by-cons (λ z. cond (p z) 1 0) y [] ∙ ap (λ z. cond (p z) 1 0 + 0) same ∙ omega arith
  count_suc (suc n) (y ∷ xs) x e =
      let again = count_suc n xs x e in
      let b : ℕ = cond (p y) 1 0 in
      let c : ℕ = cond (p x) 1 0 in
      let k : ℕ = count_by p (take n xs) in
      let same : b + (k + c) ≡ b + k + c = omega arith in
      sum_by-cons (λ z. cond (p z) 1 0) y (take (suc n) xs) ∙ ap (λ m. b + m) again ∙ same
      ∙ ap (λ m. m + c) (sym (sum_by-cons (λ z. cond (p z) 1 0) y (take n xs)))

  slice_get_from : (n : ℕ) (xs : List X) → slice_get xs n ≡ None → length xs ≤ n
  slice_get_from n [] e = omega arith
  slice_get_from zero (x ∷ xs) e = absurd cc
  slice_get_from (suc n) (x ∷ xs) e = let again = slice_get_from n xs e in omega (arith, again)

  pub count_more : (n : ℕ) (xs : List X) (x : X) (b : Bool) → slice_get xs n ≡ Some x → p x ≡ b
      → count_by p (take (n + 1) xs) ≡ count_by p (take n xs) + cond b 1 0
  count_more n xs x b e f =
      let next : n + 1 ≡ suc n = omega arith in
      ap (λ k. count_by p (take k xs)) next ∙ count_suc n xs x e ∙ ap (λ c. count_by p (take n xs) + cond c 1 0) f

  pub count_kept : (n : ℕ) (xs : List X) → n < length xs → ((x : X) → slice_get xs n ≡ Some x → p x ≡ true)
      → count_by p (take (n + 1) xs) ≡ count_by p (take n xs) + 1
  count_kept n xs l h = go (slice_get xs n) refl
    where
      go : (o : Option X) → slice_get xs n ≡ o → count_by p (take (n + 1) xs) ≡ count_by p (take n xs) + 1
      go None e = let past = slice_get_from n xs e in absurd (omega (arith, past, l))
      go (Some x) e = count_more n xs x true e (h x e)

-- ---- lists in which the same is seen at each place

module _ {X Y : Type 0} (f : X → Y) where
  pub same_lists : (xs ys : List X) → length xs ≡ length ys
      → ((k : ℕ) → k < length xs → option_map f (slice_get xs k) ≡ option_map f (slice_get ys k)) → map f xs ≡ map f ys
  same_lists [] [] e h = refl
  same_lists [] (y ∷ ys) e h = absurd (omega (arith, e))
  same_lists (x ∷ xs) [] e h = absurd (omega (arith, e))
  same_lists (x ∷ xs) (y ∷ ys) e h =
      let first : Some (f x) ≡ Some (f y) = h zero (omega arith) in
      let one : f x ≡ f y = cc in
      ap (λ z. z ∷ map f xs) one ∙ ap (λ l. f y ∷ l) (same_lists xs ys (omega (arith, e)) (λ k l. h (suc k) (omega (arith, l))))

  seen_at : (xs : List X) (k : ℕ) → slice_get (map f xs) k ≡ option_map f (slice_get xs k)
  seen_at [] k = refl
  seen_at (x ∷ xs) zero = refl
  seen_at (x ∷ xs) (suc k) = seen_at xs k

  pub seen_same : (xs ys : List X) (k : ℕ) → map f xs ≡ map f ys → option_map f (slice_get xs k) ≡ option_map f (slice_get ys k)
  seen_same xs ys k e = sym (seen_at xs k) ∙ ap (λ l. slice_get l k) e ∙ seen_at ys k
