-- Facts about each slot, slots in the order in which they began, and visiting them from the oldest on.
use Rattle.std.proofs.Common.{◌≡◌, ℕ, zero, suc, ◌+◌, ◌<◌, ◌≤◌, Bool, true, false, List, [], ◌∷◌, ◌++◌, length, Option, Some, None}
use Rattle.std.proofs.Common.{slice_get, filter, count_by, cond, if◌then◌else◌, nat_lt, refl, ap, sym, subst, ◌∙◌, arith}
use Rattle.std.specs.Cmp.{IsEquivalence}
use Rattle.std.specs.Prelude.{MatchOption}
use Rattle.std.proofs.lemmas.Bool.Decides.{nat_tests}
use Rattle.std.proofs.lemmas.List.Sums.{sum_by-cons}
use Rattle.bac_slots.specs.declared.slot.Slot.{Slot}
use Rattle.bac_slots.specs.Slots.{value_at, with_value, without, EachSlot, Ascends, YoungPass, IsApart, IsDistinct}

module _ {K T : Type 0} where
  -- ---- what holds of each slot

  pub each_more : (P Q : Slot K T → Type 0) (slots : List (Slot K T)) → ((s : Slot K T) → P s → Q s) → EachSlot P slots → EachSlot Q slots
  each_more P Q [] f e = tt
  each_more P Q (s ∷ slots) f e = (f s e.0, each_more P Q slots f e.1)

  pub each_put : (P : Slot K T → Type 0) (slots : List (Slot K T)) (x : Slot K T) → EachSlot P slots → P x → EachSlot P (slots ++ x ∷ [])
  each_put P [] x e p = (p, tt)
  each_put P (s ∷ slots) x e p = (e.0, each_put P slots x e.1 p)

  pub each_kept : (P : Slot K T → Type 0) (test : Slot K T → Bool) (slots : List (Slot K T)) → EachSlot P slots → EachSlot P (filter test slots)
  each_kept P test [] e = tt
  each_kept P test (s ∷ slots) e = go (test s) (each_kept P test slots e.1)
    where
      go : (b : Bool) → EachSlot P (filter test slots) → EachSlot P (if b then s ∷ filter test slots else filter test slots)
      go true again = (e.0, again)
      go false again = again

  pub each_without : (P : Slot K T → Type 0) (eq : K → K → Bool) (key : K) (slots : List (Slot K T)) → EachSlot P slots → EachSlot P (without eq key slots)
  each_without P eq key [] e = tt
  each_without P eq key (s ∷ slots) e = go (eq s.key key) (each_without P eq key slots e.1)
    where
      go : (b : Bool) → EachSlot P (without eq key slots) → EachSlot P (if b then slots else s ∷ without eq key slots)
      go true again = e.1
      go false again = (e.0, again)

  -- the slot of that key, with its value, changes to another value
  pub each_set : (P : Slot K T → Type 0) (eq : K → K → Bool) (key : K) (v : T) (slots : List (Slot K T)) → EachSlot P slots
      → ((s : Slot K T) → P s → value_at eq key slots ≡ Some s.value → P (record s { value = v })) → EachSlot P (with_value eq key v slots)
  each_set P eq key v [] e f = tt
  each_set P eq key v (s ∷ slots) e f = go (eq s.key key) f (λ g. each_set P eq key v slots e.1 g)
    where
      go : (b : Bool) → ((t : Slot K T) → P t → (if b then Some s.value else value_at eq key slots) ≡ Some t.value → P (record t { value = v }))
          → (((t : Slot K T) → P t → value_at eq key slots ≡ Some t.value → P (record t { value = v })) → EachSlot P (with_value eq key v slots))
          → EachSlot P (if b then record s { value = v } ∷ slots else s ∷ with_value eq key v slots)
      go true f again = (f s e.0 refl, e.1)
      go false f again = (e.0, again f)

  pub each_at : (P : Slot K T → Type 0) (slots : List (Slot K T)) (n : ℕ) (s : Slot K T) → EachSlot P slots → slice_get slots n ≡ Some s → P s
  each_at P [] n s e f = absurd cc
  each_at P (t ∷ slots) zero s e f = let same : t ≡ s = cc in subst P same e.0
  each_at P (t ∷ slots) (suc n) s e f = each_at P slots n s e.1 f

  -- ---- slots that ascend

  pub ascends_put : (slots : List (Slot K T)) (x : Slot K T) → Ascends slots → EachSlot (λ s. s.begin ≤ x.begin) slots → Ascends (slots ++ x ∷ [])
  ascends_put [] x a e = (tt, tt)
  ascends_put (s ∷ slots) x a e = (each_put _ slots x a.0 e.0, ascends_put slots x a.1 e.1)

  pub ascends_kept : (test : Slot K T → Bool) (slots : List (Slot K T)) → Ascends slots → Ascends (filter test slots)
  ascends_kept test [] a = tt
  ascends_kept test (s ∷ slots) a = go (test s) (ascends_kept test slots a.1)
    where
      go : (b : Bool) → Ascends (filter test slots) → Ascends (if b then s ∷ filter test slots else filter test slots)
      go true again = (each_kept _ test slots a.0, again)
      go false again = again

  pub ascends_without : (eq : K → K → Bool) (key : K) (slots : List (Slot K T)) → Ascends slots → Ascends (without eq key slots)
  ascends_without eq key [] a = tt
  ascends_without eq key (s ∷ slots) a = go (eq s.key key) (ascends_without eq key slots a.1)
    where
      go : (b : Bool) → Ascends (without eq key slots) → Ascends (if b then slots else s ∷ without eq key slots)
      go true again = a.1
      go false again = (each_without _ eq key slots a.0, again)

  pub ascends_set : (eq : K → K → Bool) (key : K) (v : T) (slots : List (Slot K T)) → Ascends slots → Ascends (with_value eq key v slots)
  ascends_set eq key v [] a = tt
  ascends_set eq key v (s ∷ slots) a = go (eq s.key key) (ascends_set eq key v slots a.1)
    where
      go : (b : Bool) → Ascends (with_value eq key v slots) → Ascends (if b then record s { value = v } ∷ slots else s ∷ with_value eq key v slots)
      go true again = a
      go false again = (each_set _ eq key v slots a.0 (λ t l e. l), again)

  -- ---- a walk from the oldest on, that stops where a slot began after the bound

  module _ (test : T → Bool) where
    abbrev p : Slot K T → Bool
    p s = test s.value

    -- those before that place pass the test
    abbrev pub PassBefore : ℕ → List (Slot K T) → Type 0
    PassBefore zero slots = Unit {0}
    PassBefore (suc n) [] = Unit {0}
    PassBefore (suc n) (s ∷ slots) = (p s ≡ true) × PassBefore n slots

    pass_next : (slots : List (Slot K T)) (n : ℕ) → PassBefore n slots
        → ((s : Slot K T) → slice_get slots n ≡ Some s → p s ≡ true) → PassBefore (suc n) slots
    pass_next [] n b f = tt
    pass_next (s ∷ slots) zero b f = (f s refl, tt)
    pass_next (s ∷ slots) (suc n) b f = (b.0, pass_next slots n b.1 f)

    pub pass_one : (slots : List (Slot K T)) (n : ℕ) → PassBefore n slots
        → ((s : Slot K T) → slice_get slots n ≡ Some s → p s ≡ true) → PassBefore (n + 1) slots
    pass_one slots n b f =
        let e : suc n ≡ n + 1 = omega arith in
        subst (λ k. PassBefore k slots) e (pass_next slots n b f)

    pub all_pass : (slots : List (Slot K T)) (n : ℕ) → PassBefore n slots → length slots ≤ n → EachSlot (λ s. p s ≡ true) slots
    all_pass [] n b l = tt
    all_pass (s ∷ slots) zero b l = absurd (omega (arith, l))
    all_pass (s ∷ slots) (suc n) b l = (b.0, all_pass slots n b.1 (omega (arith, l)))

    -- from a young slot on all are young
    young_pass : (bound : ℕ) (slots : List (Slot K T)) (n : ℕ) (s : Slot K T) → PassBefore n slots → Ascends slots → YoungPass test bound slots
        → slice_get slots n ≡ Some s → bound < s.begin → EachSlot (λ t. p t ≡ true) slots
    young_pass bound [] n s b a y e l = tt
    young_pass bound (t ∷ slots) zero s b a y e l =
        let same : t ≡ s = cc in
        let late : bound < t.begin = subst (λ (u : Slot K T). bound < u.begin) (sym same) l in
        (y.0 late, young_rest slots a.0 y.1 late)
      where
        young_rest : (rest : List (Slot K T)) → EachSlot (λ u. t.begin ≤ u.begin) rest
            → YoungPass test bound rest → bound < t.begin → EachSlot (λ u. p u ≡ true) rest
        young_rest [] a y l = tt
        young_rest (u ∷ rest) a y l = let first = a.0 in (y.0 (omega (arith, first, l)), young_rest rest a.1 y.1 l)
    young_pass bound (t ∷ slots) (suc n) s b a y e l = (b.0, young_pass bound slots n s b.1 a.1 y.1 e l)

    pass_filter : (slots : List (Slot K T)) → EachSlot (λ s. p s ≡ true) slots → filter p slots ≡ slots
    pass_filter [] e = refl
    pass_filter (s ∷ slots) e = rw e.0 (ap (λ l. s ∷ l) (pass_filter slots e.1))

    pass_count : (slots : List (Slot K T)) → EachSlot (λ s. p s ≡ true) slots → count_by p slots ≡ length slots
    pass_count [] e = refl
    pass_count (s ∷ slots) e = let again = pass_count slots e.1 in sum_by-cons (λ z. cond (p z) 1 0) s slots ∙ rw e.0 (omega (arith, again))

    count_within : (slots : List (Slot K T)) → count_by p slots ≤ length slots
    count_within [] = omega arith
    count_within (s ∷ slots) = go (p s) (sum_by-cons (λ z. cond (p z) 1 0) s slots) (count_within slots)
      where
        go : (b : Bool) → count_by p (s ∷ slots) ≡ cond b 1 0 + count_by p slots → count_by p slots ≤ length slots
            → count_by p (s ∷ slots) ≤ suc (length slots)
        go true e l = omega (arith, e, l)
        go false e l = omega (arith, e, l)

    fail_count : (slots : List (Slot K T)) (n : ℕ) (s : Slot K T) → slice_get slots n ≡ Some s → p s ≡ false → count_by p slots < length slots
    fail_count [] n s e f = absurd cc
    fail_count (t ∷ slots) zero s e f =
        let same : t ≡ s = cc in
        let here : ◌≡◌ {A = ℕ} (cond (p t) 1 0) 0 = ap (λ b. cond b 1 0) (ap p same ∙ f) in
        let sum = sum_by-cons (λ z. cond (p z) 1 0) t slots in
        let rest = count_within slots in
        omega (arith, here, sum, rest)
    fail_count (t ∷ slots) (suc n) s e f = go (p t) (sum_by-cons (λ z. cond (p z) 1 0) t slots) (fail_count slots n s e f)
      where
        go : (b : Bool) → count_by p (t ∷ slots) ≡ cond b 1 0 + count_by p slots → count_by p slots < length slots
            → count_by p (t ∷ slots) < suc (length slots)
        go true e l = omega (arith, e, l)
        go false e l = omega (arith, e, l)

    -- one that fails is removed: the others that pass stay, and those before it
    module _ (eq : K → K → Bool) (equal : IsEquivalence eq) where
      apart_at : (key : K) (n : ℕ) (slots : List (Slot K T)) (s : Slot K T) → IsApart eq key slots → slice_get slots n ≡ Some s → eq key s.key ≡ false
      apart_at key n [] s a e = absurd cc
      apart_at key zero (t ∷ slots) s a e = let same : t ≡ s = cc in ap (λ (u : Slot K T). eq key u.key) (sym same) ∙ a.0
      apart_at key (suc n) (t ∷ slots) s a e = apart_at key n slots s a.1 e

      pub drop_filter : (slots : List (Slot K T)) (n : ℕ) (s : Slot K T) → IsDistinct eq slots → slice_get slots n ≡ Some s → p s ≡ false
          → filter p (without eq s.key slots) ≡ filter p slots
      drop_filter [] n s d e f = refl
      drop_filter (t ∷ slots) zero s d e f =
          let same : t ≡ s = cc in
          let fails : p t ≡ false = ap p same ∙ f in
          let here : eq t.key s.key ≡ true = ap (λ (u : Slot K T). eq u.key s.key) same ∙ equal.refl s.key in
          rw (fails, here) refl
      drop_filter (t ∷ slots) (suc n) s d e f =
          let other : eq t.key s.key ≡ false = apart_at t.key n slots s d.0 e in
          rw other (ap (λ l. if p t then t ∷ l else l) (drop_filter slots n s d.1 e f))

      pub drop_before : (slots : List (Slot K T)) (n : ℕ) (s : Slot K T) → IsDistinct eq slots → slice_get slots n ≡ Some s → PassBefore n slots
          → PassBefore n (without eq s.key slots)
      drop_before [] n s d e b = absurd cc
      drop_before (t ∷ slots) zero s d e b = tt
      drop_before (t ∷ slots) (suc n) s d e b =
          let other : eq t.key s.key ≡ false = apart_at t.key n slots s d.0 e in
          rw other (b.0, drop_before slots n s d.1 e b.1)

      pub drop_length : (slots : List (Slot K T)) (n : ℕ) (s : Slot K T) → slice_get slots n ≡ Some s → suc (length (without eq s.key slots)) ≡ length slots
      drop_length [] n s e = absurd cc
      drop_length (t ∷ slots) zero s e =
          let same : t ≡ s = cc in
          let here : eq t.key s.key ≡ true = ap (λ (u : Slot K T). eq u.key s.key) same ∙ equal.refl s.key in
          rw here refl
      drop_length (t ∷ slots) (suc n) s e = go (eq t.key s.key) (drop_length slots n s e)
        where
          go : (b : Bool) → suc (length (without eq s.key slots)) ≡ length slots
              → suc (length (if b then slots else t ∷ without eq s.key slots)) ≡ suc (length slots)
          go true again = refl
          go false again = ap suc again

    -- ---- where the walk ends

    pub swept_all : (old now : List (Slot K T)) (n : ℕ) → filter p now ≡ filter p old → PassBefore n now → length now ≤ n → now ≡ filter p old
    swept_all old now n e b l = sym (pass_filter now (all_pass now n b l)) ∙ e

    -- the slot at this place did not begin by the bound, or does not exist
    abbrev pub IsYoung : ℕ → ℕ → List (Slot K T) → Bool → Type 0
    IsYoung bound n slots b = MatchOption (slice_get slots n) (b ≡ true) (λ s. b ≡ nat_lt bound s.begin)

    young_all : (bound : ℕ) (slots : List (Slot K T)) (n : ℕ) (b : Bool) → PassBefore n slots → Ascends slots → YoungPass test bound slots → n < length slots
        → IsYoung bound n slots b → b ≡ true → EachSlot (λ t. p t ≡ true) slots
    young_all bound slots n b before a y l is t = go (slice_get slots n) refl is
      where
        go : (o : Option (Slot K T)) → slice_get slots n ≡ o → MatchOption o (b ≡ true) (λ s. b ≡ nat_lt bound s.begin) → EachSlot (λ t. p t ≡ true) slots
        go None e is = absurd (some_within slots n l e)
          where
            some_within : (xs : List (Slot K T)) (k : ℕ) → k < length xs → slice_get xs k ≡ None → ⊥
            some_within [] k l e = omega (arith, l)
            some_within (x ∷ xs) zero l e = cc
            some_within (x ∷ xs) (suc k) l e = some_within xs k (omega (arith, l)) e
        go (Some s) e is = let late : nat_lt bound s.begin ≡ true = sym is ∙ t in young_pass bound slots n s before a y e (grind (arith, nat_tests, late))

    pub swept_young : (bound : ℕ) (old now : List (Slot K T)) (n : ℕ) (b : Bool) → filter p now ≡ filter p old → PassBefore n now → Ascends now
        → YoungPass test bound now → n < length now → IsYoung bound n now b → b ≡ true → now ≡ filter p old
    swept_young bound old now n b e before a y l is t = sym (pass_filter now (young_all bound now n b before a y l is t)) ∙ e

    pub count_all : (slots : List (Slot K T)) (n : ℕ) → PassBefore n slots → length slots ≤ n → false ≡ nat_lt (count_by p slots) (length slots)
    count_all slots n b l = let same = pass_count slots (all_pass slots n b l) in grind (arith, nat_tests, same)

    pub count_young : (bound : ℕ) (slots : List (Slot K T)) (n : ℕ) (b : Bool) → PassBefore n slots → Ascends slots → YoungPass test bound slots
        → n < length slots → IsYoung bound n slots b → b ≡ true → false ≡ nat_lt (count_by p slots) (length slots)
    count_young bound slots n b before a y l is t =
        let same = pass_count slots (young_all bound slots n b before a y l is t) in grind (arith, nat_tests, same)

    pub count_failing : (slots : List (Slot K T)) (n : ℕ) (s : Slot K T) → slice_get slots n ≡ Some s → p s ≡ false
        → true ≡ nat_lt (count_by p slots) (length slots)
    count_failing slots n s e f = let less = fail_count slots n s e f in grind (arith, nat_tests, less)

    -- in a table that is not full a slot is free
    pub count_room : (slots : List (Slot K T)) (capacity : ℕ) → length slots < capacity → true ≡ nat_lt (count_by p slots) capacity
    count_room slots capacity l = let within = count_within slots in grind (arith, nat_tests, within, l)
