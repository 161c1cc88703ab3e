-- How many slots have a lesser key: the slot at that place, and the next key.
use Rattle.std.proofs.Common.{◌≡◌, ℕ, ◌+◌, Bool, true, false, List, [], ◌∷◌, Option, Some, None, slice_get}
use Rattle.std.proofs.Common.{if◌then◌else◌, refl, sym, ap, inl, inr, ◌∙◌, arith, cond}
use Rattle.std.specs.Ordering.{is_eq}
use Rattle.std.specs.Cmp.{IsTotalOrder}
use Rattle.std.specs.declared.cmp.Ordering.{Ordering}
use Rattle.std.specs.declared.cmp.Ordering.TheVariants.{Less, Equal, Greater}
use Rattle.bac_slots.specs.declared.slot.Slot.{Slot}
use Rattle.bac_slots.specs.Slots.{is_less, rank, nth_by_key, in_order, value_at, IsDistinct}
use Rattle.bac_slots.proofs.KeyOrder.{Each, IsIn, reversed, rank_more, in_place, out_in_order, place_ranked, nth_is, are_apart, tied, apart_away}
use Rattle.bac_slots.proofs.Indexes.{rank_alike}

module _ (K T : Type 0) (cmp : K → K → Ordering) (total : IsTotalOrder cmp) (eq : K → K → Bool) (matches : (x y : K) → eq x y ≡ is_eq (cmp x y)) where
  abbrev Item : Type 0
  Item = Slot K T

  -- if a key has a value, a slot has both
  held : (key : K) (v : T) (slots : List Item) → value_at eq key slots ≡ Some v
      → (s : Item) × IsIn K T cmp total s slots × (eq s.key key ≡ true) × (s.value ≡ v)
  held key v [] e = absurd cc
  held key v (s ∷ slots) e = go (eq s.key key) refl e (λ f. held key v slots f)
    where
      go : (b : Bool) → eq s.key key ≡ b → (if b then Some s.value else value_at eq key slots) ≡ Some v
          → (value_at eq key slots ≡ Some v → (t : Item) × IsIn K T cmp total t slots × (eq t.key key ≡ true) × (t.value ≡ v))
          → (t : Item) × IsIn K T cmp total t (s ∷ slots) × (eq t.key key ≡ true) × (t.value ≡ v)
      go true f e again = let same : s.value ≡ v = cc in (s, inl refl, f, same)
      go false f e again = let t = again e in (t.0, inr t.1, t.2, t.3)

  -- a present key is in the slot at its place
  pub present : (key : K) (v : T) (slots : List Item) → IsDistinct eq slots → value_at eq key slots ≡ Some v
      → (s : Item) × (nth_by_key cmp (rank cmp key slots) slots ≡ Some s) × (eq s.key key ≡ true) × (s.value ≡ v)
  present key v slots d e =
      let found = held key v slots e in
      let s : Item = found.0 in
      let apart = are_apart K T cmp total eq matches slots d in
      let same : rank cmp s.key slots ≡ rank cmp key slots =
      rank_alike K T cmp total eq matches s.key key slots (tied K T cmp total eq matches s.key key found.2) in (
        s,
        nth_is K T cmp total slots apart (rank cmp key slots) ∙ ap (λ n. slice_get (in_order cmp slots) n) (sym same)
            ∙ place_ranked K T cmp total slots s apart found.1,
        found.2,
        found.3,
      )

  -- the slot at a place has the value of its key
  value_in : (key : K) (slots : List Item) (s : Item) → IsDistinct eq slots → IsIn K T cmp total s slots → eq s.key key ≡ true
      → value_at eq key slots ≡ Some s.value
  value_in key [] s d i f = absurd i
  value_in key (t ∷ slots) s d i f = go (eq t.key key) refl i (λ k. value_in key slots s d.1 k f)
    where
      go : (b : Bool) → eq t.key key ≡ b → IsIn K T cmp total s (t ∷ slots) → (IsIn K T cmp total s slots → value_at eq key slots ≡ Some s.value)
          → (if b then Some t.value else value_at eq key slots) ≡ Some s.value
      go true e (inl same) again = ap (λ (u : Item). Some u.value) same
      go true e (inr k) again =
          let no : eq s.key key ≡ false = each_in slots (apart_away K T cmp total eq matches t.key key slots e d.0) k in absurd cc
        where
          each_in : (rest : List Item) → Each K T cmp total (λ k. eq k key ≡ false) rest → IsIn K T cmp total s rest → eq s.key key ≡ false
          each_in [] h i = absurd i
          each_in (u ∷ rest) h (inl same) = ap (λ (w : Item). eq w.key key) (sym same) ∙ h.0
          each_in (u ∷ rest) h (inr k) = each_in rest h.1 k
      go false e (inl same) again = let yes : eq t.key key ≡ true = ap (λ (u : Item). eq u.key key) same ∙ f in absurd cc
      go false e (inr k) again = again k

  pub here : (key : K) (n : ℕ) (slots : List Item) (s : Item) → IsDistinct eq slots → nth_by_key cmp n slots ≡ Some s → eq s.key key ≡ true
      → value_at eq key slots ≡ Some s.value
  here key n slots s d e f =
      let at : slice_get (in_order cmp slots) n ≡ Some s = sym (nth_is K T cmp total slots (are_apart K T cmp total eq matches slots d) n) ∙ e in
      value_in key slots s d (out_in_order K T cmp total s slots (in_place K T cmp total (in_order cmp slots) n s at)) f

  -- a key is absent if the slot at its place has another key, or does not exist
  pub other : (key : K) (slots : List Item) (s : Item) → IsDistinct eq slots → nth_by_key cmp (rank cmp key slots) slots ≡ Some s
      → eq s.key key ≡ false → value_at eq key slots ≡ None
  other key slots s d e f = go (value_at eq key slots) refl
    where
      go : (o : Option T) → value_at eq key slots ≡ o → o ≡ None
      go None g = refl
      go (Some v) g =
          let t = present key v slots d g in
          let both : Some s ≡ Some t.0 = sym e ∙ t.1 in
          let same : s ≡ t.0 = cc in
          let yes : eq s.key key ≡ true = ap (λ (u : Item). eq u.key key) same ∙ t.2 in absurd cc

  pub past : (key : K) (slots : List Item) → IsDistinct eq slots → nth_by_key cmp (rank cmp key slots) slots ≡ None → value_at eq key slots ≡ None
  past key slots d e = go (value_at eq key slots) refl
    where
      go : (o : Option T) → value_at eq key slots ≡ o → o ≡ None
      go None g = refl
      go (Some v) g = let t = present key v slots d g in let both : None ≡ Some t.0 = sym e ∙ t.1 in absurd cc

  -- ---- the next key

  module _ (key after : K) (less : cmp key after ≡ Less) (between : (k : K) → cmp key k ≡ Less → cmp k after ≡ Less → ⊥) where
    one_more : (k : K) → cond (is_less (cmp k after)) 1 0 ≡ cond (is_less (cmp k key)) 1 0 + cond (eq k key) 1 0
    one_more k = rw (matches k key) (go (cmp k key) refl)
      where
        above : (p : Ordering) → cmp k after ≡ p → cmp k key ≡ Greater → ◌≡◌ {A = ℕ} (cond (is_less p) 1 0) 0
        above Less f e = absurd (between k (reversed K T cmp total k key Greater e) f)
        above Equal f e = refl
        above Greater f e = refl

        go : (o : Ordering) → cmp k key ≡ o → cond (is_less (cmp k after)) 1 0 ≡ cond (is_less o) 1 0 + cond (is_eq o) 1 0
        go Less e = ap (λ p. cond (is_less p) 1 0) (total.trans k key after e less)
        go Equal e = ap (λ p. cond (is_less p) 1 0) (total.congr k key after e ∙ less)
        go Greater e = above (cmp k after) refl e

    none_more : (slots : List Item) → Each K T cmp total (λ k. eq k key ≡ false) slots → rank cmp after slots ≡ rank cmp key slots
    none_more [] h = refl
    none_more (s ∷ slots) h =
        let again = none_more slots h.1 in
        let a = rank_more K T cmp total after s slots in
        let b = rank_more K T cmp total key s slots in
        let one = one_more s.key in
        let no : ◌≡◌ {A = ℕ} (cond (eq s.key key) 1 0) 0 = ap (λ b. cond b 1 0) h.0 in
        omega (arith, again, a, b, one, no)

    pub next : (slots : List Item) (v : T) → IsDistinct eq slots → value_at eq key slots ≡ Some v → rank cmp after slots ≡ rank cmp key slots + 1
    next [] v d e = absurd cc
    next (s ∷ slots) v d e = go (eq s.key key) refl e (λ f. next slots v d.1 f)
      where
        go : (x : Bool) → eq s.key key ≡ x → (if x then Some s.value else value_at eq key slots) ≡ Some v
            → (value_at eq key slots ≡ Some v → rank cmp after slots ≡ rank cmp key slots + 1) → rank cmp after (s ∷ slots) ≡ rank cmp key (s ∷ slots) + 1
        go true f e again =
            let a = rank_more K T cmp total after s slots in
            let b = rank_more K T cmp total key s slots in
            let one = one_more s.key in
            let rest = none_more slots (apart_away K T cmp total eq matches s.key key slots f d.0) in
            let yes : ◌≡◌ {A = ℕ} (cond (eq s.key key) 1 0) 1 = ap (λ b. cond b 1 0) f in
            omega (arith, rest, a, b, one, yes)
        go false f e again =
            let a = rank_more K T cmp total after s slots in
            let b = rank_more K T cmp total key s slots in
            let one = one_more s.key in
            let rest = again e in
            let no : ◌≡◌ {A = ℕ} (cond (eq s.key key) 1 0) 0 = ap (λ b. cond b 1 0) f in
            omega (arith, rest, a, b, one, no)
