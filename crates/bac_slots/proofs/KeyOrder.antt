-- The slots in key order: they are sorted, have the same slots, and the n-th of them is the n-th by key.
use Rattle.std.proofs.Common.{◌≡◌, ℕ, zero, suc, ◌+◌, ◌⊎◌, Bool, true, false, List, [], ◌∷◌, ◌++◌, length, Option, Some, None, slice_get}
use Rattle.std.proofs.Common.{if◌then◌else◌, nat_eq, refl, sym, ap, subst, inl, inr, ◌∙◌, arith, cond}
use Rattle.std.specs.Ordering.{ordering_reverse, is_gt, is_eq}
use Rattle.std.specs.Cmp.{IsTotalOrder}
use Rattle.std.specs.declared.cmp.Ordering.{Ordering}
use Rattle.std.specs.declared.cmp.Ordering.TheVariants.{Less, Equal, Greater}
use Rattle.std.specs.List.{insert}
use Rattle.std.proofs.lemmas.Cmp.{tied_itself, tied_back, upto}
use Rattle.std.proofs.lemmas.Grind.{common_steps}
use Rattle.std.proofs.lemmas.Bool.Decides.{nat_tests}
use Rattle.bac_slots.specs.declared.slot.Slot.{Slot}
use Rattle.bac_slots.specs.Slots.{is_less, rank, of_rank, nth_by_key, inserted, in_order, value_at, without, IsApart, IsDistinct, IsAt}

module _ (K T : Type 0) (cmp : K → K → Ordering) (total : IsTotalOrder cmp) where
  abbrev pub Item : Type 0
  Item = Slot K T

  -- each of these slots has the property
  abbrev pub Each : (K → Type 0) → List Item → Type 0
  Each P [] = Unit {0}
  Each P (s ∷ slots) = P s.key × Each P slots

  each_inserted : (P : K → Type 0) (s : Item) (slots : List Item) → P s.key → Each P slots → Each P (inserted cmp s slots)
  each_inserted P s [] h k = (h, tt)
  each_inserted P s (t ∷ slots) h k = go (is_gt (cmp s.key t.key)) (each_inserted P s slots h k.1)
    where
      go : (b : Bool) → Each P (inserted cmp s slots) → Each P (if b then t ∷ inserted cmp s slots else s ∷ t ∷ slots)
      go true again = (k.0, again)
      go false again = (h, k)

  pub each_in_order : (P : K → Type 0) (slots : List Item) → Each P slots → Each P (in_order cmp slots)
  each_in_order P [] k = tt
  each_in_order P (s ∷ slots) k = each_inserted P s (in_order cmp slots) k.0 (each_in_order P slots k.1)

  pub each_so : (P Q : K → Type 0) → ((k : K) → P k → Q k) → (slots : List Item) → Each P slots → Each Q slots
  each_so P Q f [] k = tt
  each_so P Q f (s ∷ slots) k = (f s.key k.0, each_so P Q f slots k.1)

  pub each_at : (P : K → Type 0) (slots : List Item) (n : ℕ) (s : Item) → Each P slots → slice_get slots n ≡ Some s → P s.key
  each_at P [] n s h e = absurd cc
  each_at P (t ∷ slots) zero s h e = let same : t ≡ s = cc in subst (λ (u : Item). P u.key) same h.0
  each_at P (t ∷ slots) (suc n) s h e = each_at P slots n s h.1 e

  -- all keys differ; each is less than those after it
  abbrev pub AreApart : List Item → Type 0
  AreApart [] = Unit {0}
  AreApart (s ∷ slots) = Each (λ k. cmp s.key k ≡ Equal → ⊥) slots × AreApart slots

  abbrev pub IsSorted : List Item → Type 0
  IsSorted [] = Unit {0}
  IsSorted (s ∷ slots) = Each (λ k. cmp s.key k ≡ Less) slots × IsSorted slots

  pub reversed : (k j : K) (o : Ordering) → cmp k j ≡ o → cmp j k ≡ ordering_reverse o
  reversed k j o e = total.antisymm j k ∙ ap ordering_reverse e

  sorted_inserted : (s : Item) (slots : List Item) → Each (λ k. cmp s.key k ≡ Equal → ⊥) slots → IsSorted slots → IsSorted (inserted cmp s slots)
  sorted_inserted s [] a h = (tt, tt)
  sorted_inserted s (t ∷ slots) a h = go (cmp s.key t.key) refl (sorted_inserted s slots a.1 h.1)
    where
      go : (o : Ordering) → cmp s.key t.key ≡ o → IsSorted (inserted cmp s slots) → IsSorted (if is_gt o then t ∷ inserted cmp s slots else s ∷ t ∷ slots)
      go Less e again = ((e, each_so (λ k. cmp t.key k ≡ Less) (λ k. cmp s.key k ≡ Less) (λ k f. total.trans s.key t.key k e f) slots h.0), h)
      go Equal e again = absurd (a.0 e)
      go Greater e again = (each_inserted (λ k. cmp t.key k ≡ Less) s slots (reversed s.key t.key Greater e) h.0, again)

  pub sorted_in_order : (slots : List Item) → AreApart slots → IsSorted (in_order cmp slots)
  sorted_in_order [] h = tt
  sorted_in_order (s ∷ slots) h =
      sorted_inserted s (in_order cmp slots) (each_in_order (λ k. cmp s.key k ≡ Equal → ⊥) slots h.0) (sorted_in_order slots h.1)

  length_inserted : (s : Item) (slots : List Item) → length (inserted cmp s slots) ≡ suc (length slots)
  length_inserted s [] = refl
  length_inserted s (t ∷ slots) = go (is_gt (cmp s.key t.key)) (length_inserted s slots)
    where
      go : (b : Bool) → length (inserted cmp s slots) ≡ suc (length slots)
          → length (if b then t ∷ inserted cmp s slots else s ∷ t ∷ slots) ≡ suc (suc (length slots))
      go true again = ap suc again
      go false again = refl

  pub length_in_order : (slots : List Item) → length (in_order cmp slots) ≡ length slots
  length_in_order [] = refl
  length_in_order (s ∷ slots) = length_inserted s (in_order cmp slots) ∙ ap suc (length_in_order slots)

  -- places in key order

  abbrev pub weight : K → Item → ℕ
  weight key s = cond (is_less (cmp s.key key)) 1 0

  pub rank_more : (key : K) (s : Item) (slots : List Item) → rank cmp key (s ∷ slots) ≡ weight key s + rank cmp key slots
  rank_more key s slots = grind (arith, common_steps)

  rank_inserted : (key : K) (s : Item) (slots : List Item) → rank cmp key (inserted cmp s slots) ≡ rank cmp key (s ∷ slots)
  rank_inserted key s [] = refl
  rank_inserted key s (t ∷ slots) = go (is_gt (cmp s.key t.key)) (rank_inserted key s slots)
    where
      go : (b : Bool) → rank cmp key (inserted cmp s slots) ≡ rank cmp key (s ∷ slots)
          → rank cmp key (if b then t ∷ inserted cmp s slots else s ∷ t ∷ slots) ≡ rank cmp key (s ∷ t ∷ slots)
      go true again =
          rank_more key t (inserted cmp s slots)
          ∙ (let a = rank_more key s slots in let b = rank_more key s (t ∷ slots) in let d = rank_more key t slots in omega (arith, again, a, b, d))
      go false again = refl

  pub rank_in_order : (key : K) (slots : List Item) → rank cmp key (in_order cmp slots) ≡ rank cmp key slots
  rank_in_order key [] = refl
  rank_in_order key (s ∷ slots) =
      rank_inserted key s (in_order cmp slots)
      ∙ (let again = rank_in_order key slots in let a = rank_more key s (in_order cmp slots) in let b = rank_more key s slots in omega (arith, again, a, b))

  pub none_less : (key : K) (slots : List Item) → Each (λ k. cmp key k ≡ Less) slots → rank cmp key slots ≡ 0
  none_less key [] h = refl
  none_less key (t ∷ slots) h =
      let e : cmp t.key key ≡ Greater = reversed key t.key Less h.0 in
      rank_more key t slots ∙ ap (λ o. cond (is_less o) 1 0 + rank cmp key slots) e ∙ (let again = none_less key slots h.1 in omega (arith, again))

  pub rank_sorted : (slots : List Item) (n : ℕ) (s : Item) → IsSorted slots → slice_get slots n ≡ Some s → rank cmp s.key slots ≡ n
  rank_sorted [] n s h e = absurd cc
  rank_sorted (t ∷ slots) zero s h e =
      let same : t ≡ s = cc in
      subst (λ (u : Item). rank cmp u.key (t ∷ slots) ≡ 0) same
      (rank_more t.key t slots ∙ ap (λ o. cond (is_less o) 1 0 + rank cmp t.key slots) (tied_itself total t.key)
      ∙ (let again = none_less t.key slots h.0 in omega (arith, again)))
  rank_sorted (t ∷ slots) (suc n) s h e =
      let less : cmp t.key s.key ≡ Less = each_at (λ k. cmp t.key k ≡ Less) slots n s h.0 e in
      let again = rank_sorted slots n s h.1 e in
      rank_more s.key t slots ∙ ap (λ o. cond (is_less o) 1 0 + rank cmp s.key slots) less
      ∙ (let f : 1 + rank cmp s.key slots ≡ suc n = omega (arith, again) in f)

  -- the same set of slots

  abbrev pub IsIn : Item → List Item → Type 0
  IsIn s [] = ⊥
  IsIn s (t ∷ slots) = (t ≡ s) ⊎ IsIn s slots

  in_inserted : (s t : Item) (slots : List Item) → IsIn s (t ∷ slots) → IsIn s (inserted cmp t slots)
  in_inserted s t [] h = h
  in_inserted s t (u ∷ slots) h = go (is_gt (cmp t.key u.key)) (λ k. in_inserted s t slots k) h
    where
      go : (b : Bool) → (IsIn s (t ∷ slots) → IsIn s (inserted cmp t slots)) → IsIn s (t ∷ u ∷ slots)
          → IsIn s (if b then u ∷ inserted cmp t slots else t ∷ u ∷ slots)
      go true again (inl e) = inr (again (inl e))
      go true again (inr (inl e)) = inl e
      go true again (inr (inr k)) = inr (again (inr k))
      go false again k = k

  pub in_in_order : (s : Item) (slots : List Item) → IsIn s slots → IsIn s (in_order cmp slots)
  in_in_order s [] h = h
  in_in_order s (t ∷ slots) (inl e) = in_inserted s t (in_order cmp slots) (inl e)
  in_in_order s (t ∷ slots) (inr h) = in_inserted s t (in_order cmp slots) (inr (in_in_order s slots h))

  out_inserted : (s t : Item) (slots : List Item) → IsIn s (inserted cmp t slots) → IsIn s (t ∷ slots)
  out_inserted s t [] h = h
  out_inserted s t (u ∷ slots) h = go (is_gt (cmp t.key u.key)) (λ k. out_inserted s t slots k) h
    where
      go : (b : Bool) → (IsIn s (inserted cmp t slots) → IsIn s (t ∷ slots)) → IsIn s (if b then u ∷ inserted cmp t slots else t ∷ u ∷ slots)
          → IsIn s (t ∷ u ∷ slots)
      go true again (inl e) = inr (inl e)
      go true again (inr k) = swap (again k)
        where
          swap : IsIn s (t ∷ slots) → IsIn s (t ∷ u ∷ slots)
          swap (inl e) = inl e
          swap (inr j) = inr (inr j)
      go false again k = k

  pub out_in_order : (s : Item) (slots : List Item) → IsIn s (in_order cmp slots) → IsIn s slots
  out_in_order s [] h = h
  out_in_order s (t ∷ slots) h = go (out_inserted s t (in_order cmp slots) h) (λ k. out_in_order s slots k)
    where
      go : IsIn s (t ∷ in_order cmp slots) → (IsIn s (in_order cmp slots) → IsIn s slots) → IsIn s (t ∷ slots)
      go (inl e) again = inl e
      go (inr k) again = inr (again k)

  pub place_in : (s : Item) (slots : List Item) → IsIn s slots → (n : ℕ) × (slice_get slots n ≡ Some s)
  place_in s [] h = absurd h
  place_in s (t ∷ slots) (inl e) = (0, ap Some e)
  place_in s (t ∷ slots) (inr h) = let again = place_in s slots h in (suc again.0, again.1)

  pub in_place : (slots : List Item) (n : ℕ) (s : Item) → slice_get slots n ≡ Some s → IsIn s slots
  in_place [] n s e = absurd cc
  in_place (t ∷ slots) zero s e = let same : t ≡ s = cc in inl same
  in_place (t ∷ slots) (suc n) s e = inr (in_place slots n s e)

  -- the first slot with a rank, if all slots with that rank are equal

  of_rank_found : (n : ℕ) (all slots : List Item) (s : Item) → IsIn s slots → rank cmp s.key all ≡ n
      → ((t : Item) → IsIn t slots → rank cmp t.key all ≡ n → t ≡ s) → of_rank cmp n all slots ≡ Some s
  of_rank_found n all [] s h e only = absurd h
  of_rank_found n all (t ∷ slots) s h e only = go (nat_eq (rank cmp t.key all) n) refl h (λ k. of_rank_found n all slots s k e (λ u i f. only u (inr i) f))
    where
      go : (b : Bool) → nat_eq (rank cmp t.key all) n ≡ b → IsIn s (t ∷ slots) → (IsIn s slots → of_rank cmp n all slots ≡ Some s)
          → (if b then Some t else of_rank cmp n all slots) ≡ Some s
      go true f h again = ap Some (only t (inl refl) (grind (arith, nat_tests)))
      go false f (inl is) again =
          let same : rank cmp t.key all ≡ n = ap (λ (u : Item). rank cmp u.key all) is ∙ e in
          let no : nat_eq (rank cmp t.key all) n ≡ true = grind (arith, nat_tests) in absurd cc
      go false f (inr k) again = again k

  of_rank_none : (n : ℕ) (all slots : List Item) → ((t : Item) → IsIn t slots → rank cmp t.key all ≡ n → ⊥) → of_rank cmp n all slots ≡ None
  of_rank_none n all [] never = refl
  of_rank_none n all (t ∷ slots) never = go (nat_eq (rank cmp t.key all) n) refl (of_rank_none n all slots (λ u i f. never u (inr i) f))
    where
      go : (b : Bool) → nat_eq (rank cmp t.key all) n ≡ b → of_rank cmp n all slots ≡ None → (if b then Some t else of_rank cmp n all slots) ≡ None
      go true f again = absurd (never t (inl refl) (grind (arith, nat_tests)))
      go false f again = again

  -- a slot's place in key order is its rank
  pub place_ranked : (slots : List Item) (t : Item) → AreApart slots → IsIn t slots → slice_get (in_order cmp slots) (rank cmp t.key slots) ≡ Some t
  place_ranked slots t apart i =
      let there = place_in t (in_order cmp slots) (in_in_order t slots i) in
      let m : there.0 ≡ rank cmp t.key slots =
      sym (rank_sorted (in_order cmp slots) there.0 t (sorted_in_order slots apart) there.1) ∙ rank_in_order t.key slots in
      ap (slice_get (in_order cmp slots)) (sym m) ∙ there.1

  -- the n-th slot in key order is the n-th of the sorted slots
  pub nth_is : (slots : List Item) → AreApart slots → (n : ℕ) → nth_by_key cmp n slots ≡ slice_get (in_order cmp slots) n
  nth_is slots apart n = go (slice_get (in_order cmp slots) n) refl
    where
      go : (o : Option Item) → slice_get (in_order cmp slots) n ≡ o → nth_by_key cmp n slots ≡ o
      go None e = of_rank_none n slots slots (λ t i f.
          let at : slice_get (in_order cmp slots) n ≡ Some t = ap (slice_get (in_order cmp slots)) (sym f) ∙ place_ranked slots t apart i in
          cc)
      go (Some s) e = of_rank_found n slots slots s (out_in_order s slots (in_place (in_order cmp slots) n s e))
          (sym (rank_in_order s.key slots) ∙ rank_sorted (in_order cmp slots) n s (sorted_in_order slots apart) e)
          (λ t i f.
          let at : slice_get (in_order cmp slots) n ≡ Some t = ap (slice_get (in_order cmp slots)) (sym f) ∙ place_ranked slots t apart i in
          let same : Some t ≡ Some s = sym at ∙ e in
          cc)

  -- keys that differ, by equality and by order

  module _ (eq : K → K → Bool) (matches : (x y : K) → eq x y ≡ is_eq (cmp x y)) where
    apart_by_order : (key : K) (slots : List Item) → IsApart eq key slots → Each (λ k. cmp key k ≡ Equal → ⊥) slots
    apart_by_order key [] h = tt
    apart_by_order key (s ∷ slots) h =
        ((λ e. let f : eq key s.key ≡ true = matches key s.key ∙ ap is_eq e in cc), apart_by_order key slots h.1)

    pub are_apart : (slots : List Item) → IsDistinct eq slots → AreApart slots
    are_apart [] h = tt
    are_apart (s ∷ slots) h = (apart_by_order s.key slots h.0, are_apart slots h.1)

    lesser_apart : (key : K) (slots : List Item) → Each (λ k. cmp key k ≡ Less) slots → IsApart eq key slots
    lesser_apart key [] h = tt
    lesser_apart key (s ∷ slots) h = (matches key s.key ∙ ap is_eq h.0, lesser_apart key slots h.1)

    pub sorted_distinct : (slots : List Item) → IsSorted slots → IsDistinct eq slots
    sorted_distinct [] h = tt
    sorted_distinct (s ∷ slots) h = (lesser_apart s.key slots h.0, sorted_distinct slots h.1)

    -- ---- the slots in order after a change of the table

    over : (a b t : K) → is_gt (cmp a t) ≡ true → is_gt (cmp b t) ≡ false → is_gt (cmp a b) ≡ true
    over a b t e f = go (is_gt (cmp a b)) refl
      where
        go : (x : Bool) → is_gt (cmp a b) ≡ x → is_gt (cmp a b) ≡ true
        go true g = g
        go false g = let h = upto total a b t g f in absurd cc

    two : (a b : Item) (l : List Item) → (cmp a.key b.key ≡ Equal → ⊥)
        → (if is_gt (cmp a.key b.key) then b ∷ a ∷ l else a ∷ b ∷ l) ≡ (if is_gt (cmp b.key a.key) then a ∷ b ∷ l else b ∷ a ∷ l)
    two a b l ne = go (cmp a.key b.key) refl
      where
        go : (o : Ordering) → cmp a.key b.key ≡ o → (if is_gt o then b ∷ a ∷ l else a ∷ b ∷ l) ≡ (if is_gt (cmp b.key a.key) then a ∷ b ∷ l else b ∷ a ∷ l)
        go Less e = rw (reversed a.key b.key Less e) refl
        go Equal e = absurd (ne e)
        go Greater e = rw (reversed a.key b.key Greater e) refl

    commuted : (a b : Item) (l : List Item) → (cmp a.key b.key ≡ Equal → ⊥) → inserted cmp a (inserted cmp b l) ≡ inserted cmp b (inserted cmp a l)
    commuted a b [] ne = two a b [] ne
    commuted a b (t ∷ l) ne = go (is_gt (cmp a.key t.key)) (is_gt (cmp b.key t.key)) refl refl (commuted a b l ne)
      where
        go : (x y : Bool) → is_gt (cmp a.key t.key) ≡ x → is_gt (cmp b.key t.key) ≡ y → inserted cmp a (inserted cmp b l) ≡ inserted cmp b (inserted cmp a l)
            → inserted cmp a (if y then t ∷ inserted cmp b l else b ∷ t ∷ l) ≡ inserted cmp b (if x then t ∷ inserted cmp a l else a ∷ t ∷ l)
        go true true e f again = rw (e, f) (ap (λ l. t ∷ l) again)
        go true false e f again = rw (over a.key b.key t.key e f, e, f) refl
        go false true e f again = rw (over b.key a.key t.key f e, e, f) refl
        go false false e f again = rw (e, f) (two a b (t ∷ l) ne)

    absent_apart : (key : K) (slots : List Item) → value_at eq key slots ≡ None → Each (λ k. cmp key k ≡ Equal → ⊥) slots
    absent_apart key [] e = tt
    absent_apart key (s ∷ slots) e = go (eq s.key key) refl e (λ f. absent_apart key slots f)
      where
        go : (b : Bool) → eq s.key key ≡ b → (if b then Some s.value else value_at eq key slots) ≡ None
            → (value_at eq key slots ≡ None → Each (λ k. cmp key k ≡ Equal → ⊥) slots) → Each (λ k. cmp key k ≡ Equal → ⊥) (s ∷ slots)
        go true f e again = absurd cc
        go false f e again = ((λ g. let h : eq s.key key ≡ true = matches s.key key ∙ ap is_eq (tied_back total key s.key g) in cc), again e)

    -- one more slot

    in_order_push : (x : Item) (slots : List Item) → Each (λ k. cmp x.key k ≡ Equal → ⊥) slots
        → in_order cmp (slots ++ x ∷ []) ≡ inserted cmp x (in_order cmp slots)
    in_order_push x [] a = refl
    in_order_push x (s ∷ slots) a =
        ap (λ l. inserted cmp s l) (in_order_push x slots a.1)
        ∙ commuted s x (in_order cmp slots) (λ e. a.0 (tied_back total s.key x.key e))

    inserted_at : (x : Item) (l : List Item) → IsSorted l → Each (λ k. cmp x.key k ≡ Equal → ⊥) l
        → inserted cmp x l ≡ insert l (rank cmp x.key l) x
    inserted_at x [] h a = refl
    inserted_at x (t ∷ l) h a = go (cmp x.key t.key) refl (inserted_at x l h.1 a.1)
      where
        go : (o : Ordering) → cmp x.key t.key ≡ o → inserted cmp x l ≡ insert l (rank cmp x.key l) x
            → (if is_gt o then t ∷ inserted cmp x l else x ∷ t ∷ l) ≡ insert (t ∷ l) (rank cmp x.key (t ∷ l)) x
        go Less e again =
            let r : rank cmp x.key (t ∷ l) ≡ 0 = none_less x.key (t ∷ l)
            (e, each_so (λ k. cmp t.key k ≡ Less) (λ k. cmp x.key k ≡ Less) (λ k f. total.trans x.key t.key k e f) l h.0) in
            sym (ap (λ n. insert (t ∷ l) n x) r)
        go Equal e again = absurd (a.0 e)
        go Greater e again =
            let f : cmp t.key x.key ≡ Less = reversed x.key t.key Greater e in
            let r : rank cmp x.key (t ∷ l) ≡ 1 + rank cmp x.key l = rank_more x.key t l ∙ ap (λ o. cond (is_less o) 1 0 + rank cmp x.key l) f in
            let n : 1 + rank cmp x.key l ≡ suc (rank cmp x.key l) = omega arith in
            ap (λ m. t ∷ m) again ∙ sym (ap (λ m. insert (t ∷ l) m x) (r ∙ n))

    pub in_order_put : (x : Item) (slots : List Item) → IsDistinct eq slots → value_at eq x.key slots ≡ None
        → in_order cmp (slots ++ x ∷ []) ≡ insert (in_order cmp slots) (rank cmp x.key slots) x
    in_order_put x slots d e =
        let a = absent_apart x.key slots e in
        in_order_push x slots a
        ∙ inserted_at x (in_order cmp slots) (sorted_in_order slots (are_apart slots d)) (each_in_order (λ k. cmp x.key k ≡ Equal → ⊥) slots a)
        ∙ ap (λ n. insert (in_order cmp slots) n x) (rank_in_order x.key slots)

    -- one slot fewer

    pub tied : (a b : K) → eq a b ≡ true → cmp a b ≡ Equal
    tied a b e = go (cmp a b) (sym (matches a b) ∙ e)
      where
        go : (o : Ordering) → is_eq o ≡ true → o ≡ Equal
        go Less f = absurd cc
        go Equal f = refl
        go Greater f = absurd cc

    same_right : (a b k : K) → eq a b ≡ true → eq a k ≡ eq b k
    same_right a b k e = matches a k ∙ ap is_eq (total.congr a b k (tied a b e)) ∙ sym (matches b k)

    turned : (a b : K) → eq a b ≡ eq b a
    turned a b = matches a b ∙ go (cmp b a) refl ∙ sym (matches b a)
      where
        go : (o : Ordering) → cmp b a ≡ o → is_eq (cmp a b) ≡ is_eq o
        go Less e = ap is_eq (reversed b a Less e)
        go Equal e = ap is_eq (reversed b a Equal e)
        go Greater e = ap is_eq (reversed b a Greater e)

    -- a key that differs from another differs from each that equals it
    away : (a b k : K) → eq a b ≡ true → eq a k ≡ false → eq k b ≡ false
    away a b k e f = turned k b ∙ sym (same_right a b k e) ∙ f

    pub apart_away : (a b : K) (slots : List Item) → eq a b ≡ true → IsApart eq a slots → Each (λ k. eq k b ≡ false) slots
    apart_away a b [] e h = tt
    apart_away a b (s ∷ slots) e h = (away a b s.key e h.0, apart_away a b slots e h.1)

    inserted_first : (s t : Item) (l : List Item) → IsSorted (t ∷ l) → is_gt (cmp s.key t.key) ≡ false → inserted cmp s l ≡ s ∷ l
    inserted_first s t [] h e = refl
    inserted_first s t (u ∷ l) h e = rw (upto total s.key t.key u.key e (ap is_gt h.0.0)) refl

    without_here : (key : K) (s : Item) (l : List Item) → eq s.key key ≡ true → Each (λ k. eq k key ≡ false) l → without eq key (inserted cmp s l) ≡ l
    without_here key s [] e h = rw e refl
    without_here key s (t ∷ l) e h = go (is_gt (cmp s.key t.key)) (without_here key s l e h.1)
      where
        go : (b : Bool) → without eq key (inserted cmp s l) ≡ l → without eq key (if b then t ∷ inserted cmp s l else s ∷ t ∷ l) ≡ t ∷ l
        go true again = rw h.0 (ap (λ l. t ∷ l) again)
        go false again = rw e refl

    without_later : (key : K) (s : Item) (l : List Item) → eq s.key key ≡ false → IsSorted l
        → without eq key (inserted cmp s l) ≡ inserted cmp s (without eq key l)
    without_later key s [] e h = rw e refl
    without_later key s (t ∷ l) e h = go (eq t.key key) (is_gt (cmp s.key t.key)) refl refl (without_later key s l e h.1)
      where
        go : (d b : Bool) → eq t.key key ≡ d → is_gt (cmp s.key t.key) ≡ b → without eq key (inserted cmp s l) ≡ inserted cmp s (without eq key l)
            → without eq key (if b then t ∷ inserted cmp s l else s ∷ t ∷ l) ≡ inserted cmp s (if d then l else t ∷ without eq key l)
        go true true f g again = rw f refl
        go true false f g again = rw (e, f) (sym (inserted_first s t l h g))
        go false true f g again = rw (f, g) (ap (λ l. t ∷ l) again)
        go false false f g again = rw (e, f, g) refl

    pub in_order_without : (key : K) (slots : List Item) → IsDistinct eq slots → in_order cmp (without eq key slots) ≡ without eq key (in_order cmp slots)
    in_order_without key [] d = refl
    in_order_without key (s ∷ slots) d = go (eq s.key key) refl (in_order_without key slots d.1)
      where
        go : (b : Bool) → eq s.key key ≡ b → in_order cmp (without eq key slots) ≡ without eq key (in_order cmp slots)
            → in_order cmp (if b then slots else s ∷ without eq key slots) ≡ without eq key (inserted cmp s (in_order cmp slots))
        go true e again = sym (without_here key s (in_order cmp slots) e (each_in_order (λ k. eq k key ≡ false) slots (apart_away s.key key slots e d.0)))
        go false e again = ap (λ l. inserted cmp s l) again
            ∙ sym (without_later key s (in_order cmp slots) e (sorted_in_order slots (are_apart slots d.1)))

    -- the n-th slot is the first with its key
    pub first_with : (key : K) (slots : List Item) (n : ℕ) (s : Item) → IsDistinct eq slots → slice_get slots n ≡ Some s → eq s.key key ≡ true
        → IsAt eq key n slots
    first_with key [] n s d e f = absurd cc
    first_with key (t ∷ slots) zero s d e f = let same : t ≡ s = cc in ap (λ (u : Item). eq u.key key) same ∙ f
    first_with key (t ∷ slots) (suc n) s d e f =
        (sym (turned key t.key) ∙ sym (same_right s.key key t.key f) ∙ turned s.key t.key ∙ apart_at slots n s d.0 e, first_with key slots n s d.1 e f)
      where
        apart_at : (slots : List Item) (n : ℕ) (s : Item) → IsApart eq t.key slots → slice_get slots n ≡ Some s → eq t.key s.key ≡ false
        apart_at [] n s a e = absurd cc
        apart_at (u ∷ slots) zero s a e = let same : u ≡ s = cc in ap (λ (v : Item). eq t.key v.key) (sym same) ∙ a.0
        apart_at (u ∷ slots) (suc n) s a e = apart_at slots n s a.1 e

    -- ---- neighbours, and the values at keys

    neighbours : (slots : List Item) (n : ℕ) (s t : Item) → IsSorted slots → slice_get slots n ≡ Some s → slice_get slots (suc n) ≡ Some t
        → cmp s.key t.key ≡ Less
    neighbours [] n s t h e f = absurd cc
    neighbours (u ∷ slots) zero s t h e f =
        let same : u ≡ s = cc in
        ap (λ (v : Item). cmp v.key t.key) (sym same) ∙ each_at (λ k. cmp u.key k ≡ Less) slots zero t h.0 f
    neighbours (u ∷ slots) (suc n) s t h e f = neighbours slots n s t h.1 e f

    pub ascending : (slots : List Item) (n : ℕ) (s t : Item) → IsDistinct eq slots → slice_get (in_order cmp slots) n ≡ Some s
        → slice_get (in_order cmp slots) (n + 1) ≡ Some t → cmp s.key t.key ≡ Less
    ascending slots n s t d e f =
        let next : n + 1 ≡ suc n = omega arith in
        neighbours (in_order cmp slots) n s t (sorted_in_order slots (are_apart slots d)) e (ap (λ k. slice_get (in_order cmp slots) k) (sym next) ∙ f)

    exchanged : (s t : Item) (key : K) (o : Option T) → eq s.key t.key ≡ false → (b d : Bool) → eq s.key key ≡ b → eq t.key key ≡ d
        → (if d then Some t.value else if b then Some s.value else o) ≡ (if b then Some s.value else if d then Some t.value else o)
    exchanged s t key o ne true true e f =
        let same : eq s.key t.key ≡ true = same_right s.key key t.key e ∙ turned key t.key ∙ f in absurd cc
    exchanged s t key o ne true false e f = refl
    exchanged s t key o ne false true e f = refl
    exchanged s t key o ne false false e f = refl

    value_inserted : (key : K) (s : Item) (slots : List Item) → Each (λ k. eq s.key k ≡ false) slots
        → value_at eq key (inserted cmp s slots) ≡ value_at eq key (s ∷ slots)
    value_inserted key s [] h = refl
    value_inserted key s (t ∷ slots) h = go (is_gt (cmp s.key t.key)) (value_inserted key s slots h.1)
      where
        go : (b : Bool) → value_at eq key (inserted cmp s slots) ≡ value_at eq key (s ∷ slots)
            → value_at eq key (if b then t ∷ inserted cmp s slots else s ∷ t ∷ slots) ≡ value_at eq key (s ∷ t ∷ slots)
        go true again = ap (λ o. if eq t.key key then Some t.value else o) again
            ∙ exchanged s t key (value_at eq key slots) h.0 (eq s.key key) (eq t.key key) refl refl
        go false again = refl

    each_apart : (key : K) (slots : List Item) → IsApart eq key slots → Each (λ k. eq key k ≡ false) slots
    each_apart key [] h = tt
    each_apart key (s ∷ slots) h = (h.0, each_apart key slots h.1)

    pub value_in_order : (key : K) (slots : List Item) → IsDistinct eq slots → value_at eq key (in_order cmp slots) ≡ value_at eq key slots
    value_in_order key [] d = refl
    value_in_order key (s ∷ slots) d =
        value_inserted key s (in_order cmp slots) (each_in_order (λ k. eq s.key k ≡ false) slots (each_apart s.key slots d.0))
        ∙ ap (λ o. if eq s.key key then Some s.value else o) (value_in_order key slots d.1)
