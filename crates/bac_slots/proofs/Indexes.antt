-- The index after the calls of a table, and what a search in it knows.
use Rattle.std.proofs.Common.{◌≡◌, ℕ, zero, suc, ◌+◌, ◌-◌, ◌/◌, ◌<◌, ◌≤◌, Bool, true, false, List, [], ◌∷◌, ◌++◌, map, length, Option, Some}
use Rattle.std.proofs.Common.{None, slice_get}
use Rattle.std.proofs.Common.{if◌then◌else◌, nat_lt, ◌^◌, inl, inr, refl, sym, ap, subst, ◌∙◌, arith, cond}
use Rattle.std.specs.Ordering.{is_eq}
use Rattle.std.specs.Int.Digits.{digits_of}
use Rattle.std.specs.Cmp.{IsTotalOrder}
use Rattle.std.specs.List.{insert, remove}
use Rattle.std.specs.declared.cmp.Ordering.{Ordering}
use Rattle.std.specs.declared.cmp.Ordering.TheVariants.{Less, Equal, Greater}
use Rattle.std.proofs.lemmas.Bool.Decides.{nat_tests}
use Rattle.std.proofs.lemmas.Cmp.{alike_right}
use Rattle.std.proofs.lemmas.Int.Digits.{number_digits_of, number_lt, all_below_base_digits_of, length-digits_of-le, length-digits_of_step}
use Rattle.std.proofs.lemmas.List.{length-map}
use Rattle.std.proofs.lemmas.Option.{slice_get_within}
use Rattle.bac_slots.specs.declared.slot.Slot.{Slot}
use Rattle.bac_slots.specs.Slots.{is_less, rank, nth_by_key, in_order, value_at, digits, IsDistinct, IsAt}
use Rattle.bac_slots.specs.Indexes.{AllAbove, AllBelow, IsIndex, Avoids, lowered}
use Rattle.bac_slots.proofs.Slots.{without-IsAt}
use Rattle.bac_slots.proofs.KeyOrder.{Each, IsSorted, IsIn, each_at, sorted_in_order, length_in_order, rank_in_order, rank_more, rank_sorted}
use Rattle.bac_slots.proofs.KeyOrder.{reversed, in_in_order, place_in, in_place, are_apart, sorted_distinct, place_ranked, apart_away}
use Rattle.bac_slots.proofs.KeyOrder.{nth_is, tied, in_order_put, in_order_without, first_with}

-- ---- lists of places and what they name

module _ (X : Type 0) where
  abbrev pub Names : List X → List ℕ → List X → Type 0
  Names xs places ys = map (λ n. slice_get xs n) places ≡ map Some ys

  tail_is : (a b : Option X) (l m : List (Option X)) → a ∷ l ≡ b ∷ m → l ≡ m
  tail_is a b l m e = cc

  head_is : (a b : Option X) (l m : List (Option X)) → a ∷ l ≡ b ∷ m → a ≡ b
  head_is a b l m e = cc

  pub names_length : (xs ys : List X) (places : List ℕ) → Names xs places ys → length places ≡ length ys
  names_length xs ys places e = sym (length-map places (λ n. slice_get xs n)) ∙ ap length e ∙ length-map ys Some

  pub names_at : (xs ys : List X) (places : List ℕ) (n p : ℕ) → Names xs places ys → slice_get places n ≡ Some p → slice_get ys n ≡ slice_get xs p
  names_at xs ys [] n p e f = absurd cc
  names_at xs [] (q ∷ places) n p e f = absurd cc
  names_at xs (y ∷ ys) (q ∷ places) zero p e f =
      let same : q ≡ p = cc in sym (head_is _ _ _ _ e) ∙ ap (λ k. slice_get xs k) same
  names_at xs (y ∷ ys) (q ∷ places) (suc n) p e f = names_at xs ys places n p (tail_is _ _ _ _ e) f

  pub names_within : (xs ys : List X) (places : List ℕ) (n p : ℕ) → Names xs places ys → slice_get places n ≡ Some p → p < length xs
  names_within xs ys [] n p e f = absurd cc
  names_within xs [] (q ∷ places) n p e f = absurd cc
  names_within xs (y ∷ ys) (q ∷ places) zero p e f =
      let same : q ≡ p = cc in slice_get_within xs p y (ap (λ k. slice_get xs k) (sym same) ∙ head_is _ _ _ _ e)
  names_within xs (y ∷ ys) (q ∷ places) (suc n) p e f = names_within xs ys places n p (tail_is _ _ _ _ e) f

  -- one more slot at the end

  get_more : (xs more : List X) (n : ℕ) (x : X) → slice_get xs n ≡ Some x → slice_get (xs ++ more) n ≡ Some x
  get_more [] more n x e = absurd cc
  get_more (y ∷ xs) more zero x e = e
  get_more (y ∷ xs) more (suc n) x e = get_more xs more n x e

  get_last : (xs : List X) (x : X) → slice_get (xs ++ x ∷ []) (length xs) ≡ Some x
  get_last [] x = refl
  get_last (y ∷ xs) x = get_last xs x

  names_more : (xs more ys : List X) (places : List ℕ) → Names xs places ys → Names (xs ++ more) places ys
  names_more xs more [] [] e = refl
  names_more xs more (y ∷ ys) [] e = absurd cc
  names_more xs more [] (p ∷ places) e = absurd cc
  names_more xs more (y ∷ ys) (p ∷ places) e =
      ap (λ a. a ∷ map (λ n. slice_get (xs ++ more) n) places) (get_more xs more p y (head_is _ _ _ _ e))
      ∙ ap (λ l. Some y ∷ l) (names_more xs more ys places (tail_is _ _ _ _ e))

  names_insert : (xs ys : List X) (places : List ℕ) (n p : ℕ) (x : X) → Names xs places ys → slice_get xs p ≡ Some x
      → Names xs (insert places n p) (insert ys n x)
  names_insert xs ys places zero p x e f = ap (λ a. a ∷ map (λ k. slice_get xs k) places) f ∙ ap (λ l. Some x ∷ l) e
  names_insert xs [] [] (suc n) p x e f = ap (λ a. a ∷ []) f
  names_insert xs (y ∷ ys) [] (suc n) p x e f = absurd cc
  names_insert xs [] (q ∷ places) (suc n) p x e f = absurd cc
  names_insert xs (y ∷ ys) (q ∷ places) (suc n) p x e f =
      ap (λ a. a ∷ map (λ k. slice_get xs k) (insert places n p)) (head_is _ _ _ _ e)
      ∙ ap (λ l. Some y ∷ l) (names_insert xs ys places n p x (tail_is _ _ _ _ e) f)

  pub names_put : (xs ys : List X) (places : List ℕ) (n : ℕ) (x : X) → Names xs places ys
      → Names (xs ++ x ∷ []) (insert places n (length xs)) (insert ys n x)
  names_put xs ys places n x e = names_insert (xs ++ x ∷ []) ys places n (length xs) x (names_more xs (x ∷ []) ys places e) (get_last xs x)

  -- one slot removed

  names_remove : (xs ys : List X) (places : List ℕ) (n : ℕ) → Names xs places ys → Names xs (remove places n) (remove ys n)
  names_remove xs [] [] n e = none n
    where
      none : (n : ℕ) → Names xs (remove [] n) (remove [] n)
      none zero = refl
      none (suc n) = refl
  names_remove xs (y ∷ ys) [] n e = absurd cc
  names_remove xs [] (p ∷ places) n e = absurd cc
  names_remove xs (y ∷ ys) (p ∷ places) zero e = tail_is _ _ _ _ e
  names_remove xs (y ∷ ys) (p ∷ places) (suc n) e =
      ap (λ a. a ∷ map (λ k. slice_get xs k) (remove places n)) (head_is _ _ _ _ e)
      ∙ ap (λ l. Some y ∷ l) (names_remove xs ys places n (tail_is _ _ _ _ e))

  get_below : (xs : List X) (gone n : ℕ) → n < gone → slice_get (remove xs gone) n ≡ slice_get xs n
  get_below [] zero n l = absurd (omega arith)
  get_below [] (suc gone) n l = refl
  get_below (x ∷ xs) zero n l = absurd (omega arith)
  get_below (x ∷ xs) (suc gone) zero l = refl
  get_below (x ∷ xs) (suc gone) (suc n) l = get_below xs gone n (omega arith)

  get_above : (xs : List X) (gone n : ℕ) → gone ≤ n → slice_get (remove xs gone) n ≡ slice_get xs (suc n)
  get_above [] zero n l = refl
  get_above [] (suc gone) n l = refl
  get_above (x ∷ xs) zero n l = refl
  get_above (x ∷ xs) (suc gone) zero l = absurd (omega arith)
  get_above (x ∷ xs) (suc gone) (suc n) l = get_above xs gone n (omega arith)

  get_lowered : (xs : List X) (gone n : ℕ) → (n ≡ gone → ⊥) → slice_get (remove xs gone) (lowered gone n) ≡ slice_get xs n
  get_lowered xs gone n ne = go (nat_lt gone n) refl
    where
      above : (n : ℕ) → gone < n → slice_get (remove xs gone) (n - 1) ≡ slice_get xs n
      above zero l = absurd (omega arith)
      above (suc n) l =
          let e : suc n - 1 ≡ n = omega arith in
          ap (λ k. slice_get (remove xs gone) k) e ∙ get_above xs gone n (omega arith)

      go : (b : Bool) → nat_lt gone n ≡ b → slice_get (remove xs gone) (if b then n - 1 else n) ≡ slice_get xs n
      go true e = above n (grind (arith, nat_tests))
      go false e =
          let l : n ≤ gone = grind (arith, nat_tests) in
          get_below xs gone n (omega (arith, l, ne))

  names_lowered : (xs ys : List X) (places : List ℕ) (gone : ℕ) → Avoids gone places → Names xs places ys
      → Names (remove xs gone) (map (lowered gone) places) ys
  names_lowered xs [] [] gone a e = refl
  names_lowered xs (y ∷ ys) [] gone a e = absurd cc
  names_lowered xs [] (p ∷ places) gone a e = absurd cc
  names_lowered xs (y ∷ ys) (p ∷ places) gone a e =
      ap (λ o. o ∷ map (λ n. slice_get (remove xs gone) n) (map (lowered gone) places)) (get_lowered xs gone p a.0 ∙ head_is _ _ _ _ e)
      ∙ ap (λ l. Some y ∷ l) (names_lowered xs ys places gone a.1 (tail_is _ _ _ _ e))

  pub names_taken : (xs ys : List X) (places : List ℕ) (n gone : ℕ) → Avoids gone (remove places n) → Names xs places ys
      → Names (remove xs gone) (map (lowered gone) (remove places n)) (remove ys n)
  names_taken xs ys places n gone a e = names_lowered xs (remove ys n) (remove places n) gone a (names_remove xs ys places n e)

-- ---- the index

module _ (K T : Type 0) (cmp : K → K → Ordering) (total : IsTotalOrder cmp) (eq : K → K → Bool) (matches : (x y : K) → eq x y ≡ is_eq (cmp x y)) where
  abbrev Item : Type 0
  Item = Slot K T

  pub index_length : (slots : List Item) (places : List ℕ) → IsIndex cmp places slots → length places ≡ length slots
  index_length slots places i = names_length Item slots (in_order cmp slots) places i ∙ length_in_order K T cmp total slots

  pub index_at : (slots : List Item) (places : List ℕ) (n p : ℕ) → IsIndex cmp places slots → slice_get places n ≡ Some p
      → slice_get (in_order cmp slots) n ≡ slice_get slots p
  index_at slots places n p i e = names_at Item slots (in_order cmp slots) places n p i e

  pub index_within : (slots : List Item) (places : List ℕ) (n p : ℕ) → IsIndex cmp places slots → slice_get places n ≡ Some p → p < length slots
  index_within slots places n p i e = names_within Item slots (in_order cmp slots) places n p i e

  pub nth_at : (slots : List Item) (n : ℕ) (o : Option Item) → IsDistinct eq slots → slice_get (in_order cmp slots) n ≡ o → nth_by_key cmp n slots ≡ o
  nth_at slots n o d e = nth_is K T cmp total slots (are_apart K T cmp total eq matches slots d) n ∙ e

  pub above_end : (key : K) (slots : List Item) (places : List ℕ) → IsIndex cmp places slots → AllAbove cmp key (length places) (in_order cmp slots)
  above_end key slots places i k s l f =
      let within = slice_get_within (in_order cmp slots) k s f in
      let long = names_length Item slots (in_order cmp slots) places i in
      absurd (omega (arith, within, long, l))

  pub index_put : (x : Item) (slots : List Item) (places : List ℕ) → IsDistinct eq slots → value_at eq x.key slots ≡ None → IsIndex cmp places slots
      → IsIndex cmp (insert places (rank cmp x.key slots) (length slots)) (slots ++ x ∷ [])
  index_put x slots places d absent i =
      names_put Item slots (in_order cmp slots) places (rank cmp x.key slots) x i
      ∙ ap (λ l. map Some l) (sym (in_order_put K T cmp total eq matches x slots d absent))

  apart_names : (key : K) (slots os : List Item) (places : List ℕ) (gone : ℕ) (s : Item) → Names Item slots places os
      → Each K T cmp total (λ k. eq k key ≡ false) os → slice_get slots gone ≡ Some s → eq s.key key ≡ true → Avoids gone places
  apart_names key slots os [] gone s e a f g = tt
  apart_names key slots [] (p ∷ places) gone s e a f g = absurd cc
  apart_names key slots (o ∷ os) (p ∷ places) gone s e a f g = (
    (λ same.
        let here : slice_get slots p ≡ Some o = head_is Item _ _ _ _ e in
        let there : slice_get slots p ≡ Some s = ap (λ n. slice_get slots n) same ∙ f in
        let one : o ≡ s = cc in
        let h : eq s.key key ≡ false = ap (λ (u : Item). eq u.key key) (sym one) ∙ a.0 in
        cc),
    apart_names key slots os places gone s (tail_is Item _ _ _ _ e) a.1 f g,
  )

  apart_removed : (key : K) (os : List Item) (n : ℕ) → IsDistinct eq os → IsAt eq key n os → Each K T cmp total (λ k. eq k key ≡ false) (remove os n)
  apart_removed key [] n d at = absurd at
  apart_removed key (o ∷ os) zero d at = apart_away K T cmp total eq matches o.key key os at d.0
  apart_removed key (o ∷ os) (suc n) d at = (at.0, apart_removed key os n d.1 at.1)

  at_some : (key : K) (slots : List Item) (n : ℕ) → IsAt eq key n slots → (s : Item) × (slice_get slots n ≡ Some s) × (eq s.key key ≡ true)
  at_some key [] n at = absurd at
  at_some key (s ∷ slots) zero at = (s, refl, at)
  at_some key (s ∷ slots) (suc n) at = at_some key slots n at.1

  pub rank_alike : (k j : K) (slots : List Item) → cmp k j ≡ Equal → rank cmp k slots ≡ rank cmp j slots
  rank_alike k j [] e = refl
  rank_alike k j (s ∷ slots) e =
      rank_more K T cmp total k s slots
      ∙ ap (λ o. cond (is_less o) 1 0 + rank cmp k slots) (alike_right total k j s.key e)
      ∙ ap (λ n. cond (is_less (cmp s.key j)) 1 0 + n) (rank_alike k j slots e)
      ∙ sym (rank_more K T cmp total j s slots)

  -- the slot of a key is the one at its place by key, and no other
  key_in_order : (key : K) (slots : List Item) (n p : ℕ) → IsDistinct eq slots → n ≡ rank cmp key slots → IsAt eq key p slots
      → IsDistinct eq (in_order cmp slots) × IsAt eq key n (in_order cmp slots)
  key_in_order key slots n p d ranked at =
      let os : List Item = in_order cmp slots in
      let found = at_some key slots p at in
      let s : Item = found.0 in
      let apart = are_apart K T cmp total eq matches slots d in
      let os_distinct : IsDistinct eq os = sorted_distinct K T cmp total eq matches os (sorted_in_order K T cmp total slots apart) in
      let same : rank cmp s.key slots ≡ n = rank_alike s.key key slots (tied K T cmp total eq matches s.key key found.2) ∙ sym ranked in
      let here : slice_get os n ≡ Some s = ap (λ k. slice_get os k) (sym same)
      ∙ place_ranked K T cmp total slots s apart (in_place K T cmp total slots p s found.1) in
      (os_distinct, first_with K T cmp total eq matches key os n s os_distinct here found.2)

  pub index_avoids : (key : K) (slots : List Item) (places : List ℕ) (n p : ℕ) → IsDistinct eq slots → IsIndex cmp places slots
      → n ≡ rank cmp key slots → IsAt eq key p slots → Avoids p (remove places n)
  index_avoids key slots places n p d i ranked at =
      let os : List Item = in_order cmp slots in
      let found = at_some key slots p at in
      let there = key_in_order key slots n p d ranked at in
      apart_names key slots (remove os n) (remove places n) p found.0 (names_remove Item slots os places n i)
      (apart_removed key os n there.0 there.1) found.1 found.2

  pub index_remove : (key : K) (slots : List Item) (places : List ℕ) (n p : ℕ) → IsDistinct eq slots → IsIndex cmp places slots
      → n ≡ rank cmp key slots → IsAt eq key p slots → IsIndex cmp (map (lowered p) (remove places n)) (remove slots p)
  index_remove key slots places n p d i ranked at =
      let os : List Item = in_order cmp slots in
      let there = key_in_order key slots n p d ranked at in
      let rest : in_order cmp (remove slots p) ≡ remove os n =
      ap (λ l. in_order cmp l) (sym (without-IsAt eq key p slots at))
      ∙ in_order_without K T cmp total eq matches key slots d ∙ without-IsAt eq key n os there.1 in
      names_taken Item slots os places n p (index_avoids key slots places n p d i ranked at) i
      ∙ ap (λ l. map Some l) (sym rest)

  -- ---- the search

  below_at : (key : K) (os : List Item) (n : ℕ) (s : Item) → IsSorted K T cmp total os → slice_get os n ≡ Some s → cmp s.key key ≡ Less
      → (k : ℕ) (t : Item) → k ≤ n → slice_get os k ≡ Some t → cmp t.key key ≡ Less
  below_at key [] n s h e f k t l g = absurd cc
  below_at key (o ∷ os) zero s h e f zero t l g = let same : s ≡ t = cc in ap (λ (u : Item). cmp u.key key) (sym same) ∙ f
  below_at key (o ∷ os) zero s h e f (suc k) t l g = absurd (omega arith)
  below_at key (o ∷ os) (suc n) s h e f zero t l g =
      let same : o ≡ t = cc in
      ap (λ (u : Item). cmp u.key key) (sym same)
      ∙ total.trans o.key s.key key (each_at K T cmp total (λ k. cmp o.key k ≡ Less) os n s h.0 e) f
  below_at key (o ∷ os) (suc n) s h e f (suc k) t l g = below_at key os n s h.1 e f k t (omega arith) g

  above_at : (key : K) (os : List Item) (n : ℕ) (s : Item) → IsSorted K T cmp total os → slice_get os n ≡ Some s → cmp s.key key ≡ Greater
      → (k : ℕ) (t : Item) → n ≤ k → slice_get os k ≡ Some t → cmp t.key key ≡ Greater
  above_at key [] n s h e f k t l g = absurd cc
  above_at key (o ∷ os) zero s h e f zero t l g = let same : s ≡ t = cc in ap (λ (u : Item). cmp u.key key) (sym same) ∙ f
  above_at key (o ∷ os) zero s h e f (suc k) t l g =
      let same : o ≡ s = cc in
      let o_above : cmp o.key key ≡ Greater = ap (λ (u : Item). cmp u.key key) same ∙ f in
      let before : cmp o.key t.key ≡ Less = each_at K T cmp total (λ k. cmp o.key k ≡ Less) os k t h.0 g in
      reversed K T cmp total key t.key Less (total.trans key o.key t.key (reversed K T cmp total o.key key Greater o_above) before)
  above_at key (o ∷ os) (suc n) s h e f zero t l g = absurd (omega arith)
  above_at key (o ∷ os) (suc n) s h e f (suc k) t l g = above_at key os n s h.1 e f k t (omega arith) g

  pub below_more : (key : K) (slots : List Item) (n : ℕ) (s : Item) → IsDistinct eq slots → slice_get (in_order cmp slots) n ≡ Some s
      → cmp s.key key ≡ Less → AllBelow cmp key (n + 1) (in_order cmp slots)
  below_more key slots n s d e f k t l g =
      below_at key (in_order cmp slots) n s (sorted_in_order K T cmp total slots (are_apart K T cmp total eq matches slots d)) e f k t (omega arith) g

  pub above_more : (key : K) (slots : List Item) (n : ℕ) (s : Item) → IsDistinct eq slots → slice_get (in_order cmp slots) n ≡ Some s
      → cmp s.key key ≡ Greater → AllAbove cmp key n (in_order cmp slots)
  above_more key slots n s d e f k t l g =
      above_at key (in_order cmp slots) n s (sorted_in_order K T cmp total slots (are_apart K T cmp total eq matches slots d)) e f k t l g

  rank_between : (key : K) (os : List Item) (n : ℕ) → n ≤ length os → AllBelow cmp key n os → AllAbove cmp key n os → rank cmp key os ≡ n
  rank_between key [] n l below above = omega arith
  rank_between key (o ∷ os) zero l below above =
      let first : cmp o.key key ≡ Greater = above zero o (omega arith) refl in
      let rest = rank_between key os zero (omega arith) (λ k s f. absurd (omega arith)) (λ k s f g. above (suc k) s (omega arith) g) in
      rank_more K T cmp total key o os ∙ ap (λ c. cond (is_less c) 1 0 + rank cmp key os) first ∙ omega (arith, rest)
  rank_between key (o ∷ os) (suc n) l below above =
      let first : cmp o.key key ≡ Less = below zero o (omega arith) refl in
      let rest = rank_between key os n (omega arith) (λ k s f g. below (suc k) s (omega arith) g) (λ k s f g. above (suc k) s (omega arith) g) in
      rank_more K T cmp total key o os ∙ ap (λ c. cond (is_less c) 1 0 + rank cmp key os) first ∙ omega (arith, rest)

  absent_if : (key : K) (slots : List Item) → ((s : Item) → IsIn K T cmp total s slots → eq s.key key ≡ false) → value_at eq key slots ≡ None
  absent_if key [] h = refl
  absent_if key (s ∷ slots) h = rw (h s (inl refl)) (absent_if key slots (λ t i. h t (inr i)))

  pub not_found : (key : K) (slots : List Item) (n : ℕ) → IsDistinct eq slots → n ≤ length slots
      → AllBelow cmp key n (in_order cmp slots) → AllAbove cmp key n (in_order cmp slots) → (n ≡ rank cmp key slots) × (value_at eq key slots ≡ None)
  not_found key slots n d l below above =
      let os : List Item = in_order cmp slots in
      let long = length_in_order K T cmp total slots in (
        sym (sym (rank_in_order K T cmp total key slots) ∙ rank_between key os n (omega (arith, l, long)) below above),
        absent_if key slots (λ s i.
            let there = place_in K T cmp total s os (in_in_order K T cmp total s slots i) in
            matches s.key key ∙ go s there.0 there.1 (nat_lt there.0 n) refl),
      )
    where
      go : (s : Item) (k : ℕ) → slice_get (in_order cmp slots) k ≡ Some s → (b : Bool) → nat_lt k n ≡ b → is_eq (cmp s.key key) ≡ false
      go s k e true f = ap is_eq (below k s (grind (arith, nat_tests)) e)
      go s k e false f = ap is_eq (above k s (grind (arith, nat_tests)) e)

  pub found_is : (key : K) (slots : List Item) (n p : ℕ) (s : Item) → IsDistinct eq slots → slice_get (in_order cmp slots) n ≡ Some s
      → slice_get slots p ≡ Some s → cmp s.key key ≡ Equal → (n ≡ rank cmp key slots) × IsAt eq key p slots
  found_is key slots n p s d e f g =
      let os : List Item = in_order cmp slots in
      let apart = are_apart K T cmp total eq matches slots d in (
        sym (rank_sorted K T cmp total os n s (sorted_in_order K T cmp total slots apart) e)
            ∙ rank_in_order K T cmp total s.key slots ∙ rank_alike s.key key slots g,
        first_with K T cmp total eq matches key slots p s d f (matches s.key key ∙ ap is_eq g),
      )

-- ---- binary digits

pub digits_grow : (m n : ℕ) → m ≤ n → digits m ≤ digits n
digits_grow m n l =
    let ds : List ℕ = digits_of 2 n in
    let bound : n < 2 ^ length ds =
    subst (λ x. x < 2 ^ length ds) (number_digits_of 2 n (omega arith)) (number_lt 2 ds (all_below_base_digits_of 2 n (omega arith))) in
    length-digits_of-le 2 (length ds) m (omega arith) (omega (arith, bound, l))

-- half of a number has one digit less
pub digits_halve : (m n : ℕ) → 0 < n → m ≤ n / 2 → digits m + 1 ≤ digits n
digits_halve m n l h =
    let step = length-digits_of_step 2 n (omega arith) l in
    let less = digits_grow m (n / 2) h in
    omega (arith, step, less)

-- comparisons so far, and how many more there can be: d after one more than c, the part from f to e, o and n at the start

pub few_first : (c e n : ℕ) → e ≡ n → c + digits (e - 0) ≤ c + digits n
few_first c e n same = let less = digits_grow (e - 0) n (omega (arith, same)) in omega (arith, less)

half_above : (f e : ℕ) → f < e → e - (f + (e - f) / 2 + 1) ≤ (e - f) / 2
half_above f e l = omega arith

half_below : (f e : ℕ) → f + (e - f) / 2 - f ≤ (e - f) / 2
half_below f e = omega arith

pub few_above : (c d f e o n : ℕ) → f < e → d ≤ c + 1 → c + digits (e - f) ≤ o + digits n → d + digits (e - (f + (e - f) / 2 + 1)) ≤ o + digits n
few_above c d f e o n l one few =
    let less = digits_halve (e - (f + (e - f) / 2 + 1)) (e - f) (omega arith) (half_above f e l) in omega (arith, less, one, few)

pub few_below : (c d f e o n : ℕ) → f < e → d ≤ c + 1 → c + digits (e - f) ≤ o + digits n → d + digits (f + (e - f) / 2 - f) ≤ o + digits n
few_below c d f e o n l one few =
    let less = digits_halve (f + (e - f) / 2 - f) (e - f) (omega arith) (half_below f e) in omega (arith, less, one, few)

pub few_found : (c d f e o n m : ℕ) → f < e → d ≤ c + 1 → c + digits (e - f) ≤ o + digits n → n ≡ m → d ≤ o + digits m
few_found c d f e o n m l one few same =
    let less = digits_halve 0 (e - f) (omega arith) (omega arith) in
    let grow = digits_grow n m (omega (arith, same)) in
    omega (arith, less, one, few, grow)

pub few_left : (c x o n m : ℕ) → c + digits x ≤ o + digits n → n ≡ m → c ≤ o + digits m
few_left c x o n m few same = let grow = digits_grow n m (omega (arith, same)) in omega (arith, few, grow)

-- the greater half of a part with more than one number
pub few_upper : (c d n o m : ℕ) → 1 < n → d ≤ c + 1 → c + digits (n - 1) ≤ o + m → d + digits (n - n / 2 - 1) ≤ o + m
few_upper c d n o m l one few =
    let less = digits_halve (n - n / 2 - 1) (n - 1) (omega arith) (omega arith) in omega (arith, less, one, few)

-- either half of a part, without the number that was compared
pub few_half : (c d n k o m : ℕ) → 0 < n → k ≤ n / 2 → d ≤ c + 1 → c + digits n ≤ o + m → d + digits k ≤ o + m
few_half c d n k o m l half one few = let less = digits_halve k n l half in omega (arith, less, one, few)
