-- Slots of an end, and what is found in them.
use Rattle.std.proofs.Common.{◌≡◌, ◌⊎◌, ℕ, Bool, true, false, List, [], ◌∷◌, ◌++◌, map, filter, Option, Some, None, if◌then◌else◌}
use Rattle.std.proofs.Common.{refl, sym, ap, subst, inl, inr, ◌∙◌}
use Rattle.std.specs.Ordering.{is_gt}
use Rattle.std.specs.Cmp.{IsEquivalence}
use Rattle.std.proofs.lemmas.Cmp.{eq_by_cmp_equiv}
use Rattle.std.proofs.lemmas.Map.Views.{tells_apart}
use Rattle.bac_slots.specs.declared.slot.Slot.{Slot}
use Rattle.bac_slots.specs.Slots.{value_at, with_value, inserted, in_order, keep, IsApart, IsDistinct}
use Rattle.bac_slots.proofs.Slots.{IsDistinct-with_value, IsDistinct-push}
use Rattle.bac_slots.proofs.Values.{set_found, set_others, put_found, put_others, distinct_kept, value_kept}
use Rattle.bac_slots.proofs.KeyOrder.{value_in_order}
use Rattle.bac_transaction.specs.Keys.{PeerKey, peer_key_cmp, peer_key_cmp_total, same_key}
use Rattle.bac_transaction.proofs.KeyOrder.{keys_equal}

-- Keys.

pub keys_equivalent : IsEquivalence same_key
keys_equivalent = eq_by_cmp_equiv peer_key_cmp_total

pub key_self : (p : PeerKey) → same_key p p ≡ true
key_self p = keys_equivalent.refl p

pub key_is : (p q : PeerKey) → same_key p q ≡ true → p ≡ q
key_is p q e = tells_apart keys_equal p q e

pub key_other : (p q : PeerKey) → (p ≡ q → ⊥) → same_key p q ≡ false
key_other p q ne = go (same_key p q) refl
  where
    go : (b : Bool) → same_key p q ≡ b → b ≡ false
    go true e = absurd (ne (key_is p q e))
    go false e = refl

pub decide_slot_key : (p q : PeerKey) → (p ≡ q) ⊎ (p ≡ q → ⊥)
decide_slot_key p q = go (same_key p q) refl
  where
    go : (b : Bool) → same_key p q ≡ b → (p ≡ q) ⊎ (p ≡ q → ⊥)
    go true e = inl (key_is p q e)
    go false e = inr (λ is. let t : same_key p q ≡ true = subst (λ (x : PeerKey). same_key p x ≡ true) is (key_self p) in cc)

abbrev pub or_else : {T : Type 0} → Option T → Option T → Option T
or_else None o = o
or_else (Some v) o = Some v

module _ (T : Type 0) where
  abbrev pub Table : Type 0
  Table = List (Slot PeerKey T)

  abbrev pub slot : PeerKey → ℕ → T → Slot PeerKey T
  slot p begin v = record { key = p; begin = begin; value = v }

  passed_if : (b : Bool) (v : T) (o : Option T) → b ≡ false → (if b then Some v else o) ≡ o
  passed_if true v o e = absurd cc
  passed_if false v o e = refl

  pub apart_none : (p : PeerKey) (slots : Table) → IsApart same_key p slots → value_at same_key p slots ≡ None
  apart_none p [] h = refl
  apart_none p (s ∷ slots) h = passed_if (same_key s.key p) s.value (value_at same_key p slots) (keys_equivalent.symm s.key p ∙ h.0) ∙ apart_none p slots h.1

  -- the first slot

  pub found_first : (p : PeerKey) (begin : ℕ) (v : T) (slots : Table) → value_at same_key p (slot p begin v ∷ slots) ≡ Some v
  found_first p begin v slots = ap (λ b. if b then Some v else value_at same_key p slots) (key_self p)

  pub passed_first : (p q : PeerKey) (begin : ℕ) (v : T) (slots : Table) → (p ≡ q → ⊥)
      → value_at same_key q (slot p begin v ∷ slots) ≡ value_at same_key q slots
  passed_first p q begin v slots ne = passed_if (same_key p q) v (value_at same_key q slots) (key_other p q ne)

  -- another value, a slot more, and slots that are left out

  pub with_same : (p : PeerKey) (v old : T) (slots : Table) → value_at same_key p slots ≡ Some old
      → value_at same_key p (with_value same_key p v slots) ≡ Some v
  with_same p v old slots e = set_found PeerKey T same_key keys_equivalent p old v slots e

  pub with_other : (p q : PeerKey) (v : T) (slots : Table) → (p ≡ q → ⊥) → value_at same_key q (with_value same_key p v slots) ≡ value_at same_key q slots
  with_other p q v slots ne = set_others PeerKey T same_key keys_equivalent p q v slots (key_other p q ne)

  pub with_distinct : (p : PeerKey) (v : T) (slots : Table) → IsDistinct same_key slots → IsDistinct same_key (with_value same_key p v slots)
  with_distinct p v slots d = IsDistinct-with_value same_key p v slots d

  pub put_same : (p : PeerKey) (begin : ℕ) (v : T) (slots : Table) → value_at same_key p slots ≡ None
      → value_at same_key p (slots ++ slot p begin v ∷ []) ≡ Some v
  put_same p begin v slots e = put_found PeerKey T same_key keys_equivalent (slot p begin v) slots e

  pub put_other : (p q : PeerKey) (begin : ℕ) (v : T) (slots : Table) → (p ≡ q → ⊥)
      → value_at same_key q (slots ++ slot p begin v ∷ []) ≡ value_at same_key q slots
  put_other p q begin v slots ne = put_others PeerKey T same_key keys_equivalent (slot p begin v) q slots (key_other p q ne)

  pub put_distinct : (p : PeerKey) (begin : ℕ) (v : T) (slots : Table) → IsDistinct same_key slots → value_at same_key p slots ≡ None
      → IsDistinct same_key (slots ++ slot p begin v ∷ [])
  put_distinct p begin v slots d e = IsDistinct-push same_key slots (slot p begin v) d e

  module _ (g : T → Bool) where
    abbrev pub passing : Table → Table
    passing slots = filter (λ (s : Slot PeerKey T). g s.value) slots

    pub passing_value : (p : PeerKey) (slots : Table) → IsDistinct same_key slots
        → value_at same_key p (passing slots) ≡ keep g (value_at same_key p slots)
    passing_value p slots d = value_kept PeerKey T same_key keys_equivalent g p slots d

    pub passing_distinct : (slots : Table) → IsDistinct same_key slots → IsDistinct same_key (passing slots)
    passing_distinct slots d = distinct_kept PeerKey T same_key keys_equivalent g slots d

  -- Of each slot.

  abbrev pub EachSlot : (PeerKey → T → Type 0) → Table → Type 0
  EachSlot P [] = Unit {0}
  EachSlot P (s ∷ slots) = P s.key s.value × EachSlot P slots

  pub each_with : (P : PeerKey → T → Type 0) (p : PeerKey) (v : T) (slots : Table) → P p v → EachSlot P slots
      → EachSlot P (with_value same_key p v slots)
  each_with P p v [] h k = tt
  each_with P p v (s ∷ slots) h k = go (same_key s.key p) refl (each_with P p v slots h k.1)
    where
      go : (b : Bool) → same_key s.key p ≡ b → EachSlot P (with_value same_key p v slots)
          → EachSlot P (if b then record s { value = v } ∷ slots else s ∷ with_value same_key p v slots)
      go true e again = (subst (λ (x : PeerKey). P x v) (sym (key_is s.key p e)) h, k.1)
      go false e again = (k.0, again)

  pub each_passing : (P : PeerKey → T → Type 0) (g : T → Bool) (slots : Table) → EachSlot P slots → EachSlot P (passing g slots)
  each_passing P g [] k = tt
  each_passing P g (s ∷ slots) k = go (g s.value) (each_passing P g slots k.1)
    where
      go : (b : Bool) → EachSlot P (passing g slots) → EachSlot P (if b then s ∷ passing g slots else passing g slots)
      go true again = (k.0, again)
      go false again = again

  pub each_put : (P : PeerKey → T → Type 0) (p : PeerKey) (begin : ℕ) (v : T) (slots : Table) → P p v → EachSlot P slots
      → EachSlot P (slots ++ slot p begin v ∷ [])
  each_put P p begin v [] h k = (h, tt)
  each_put P p begin v (s ∷ slots) h k = (k.0, each_put P p begin v slots h k.1)

  pub each_at : (P : PeerKey → T → Type 0) (p : PeerKey) (v : T) (slots : Table) → EachSlot P slots → value_at same_key p slots ≡ Some v → P p v
  each_at P p v [] k e = absurd cc
  each_at P p v (s ∷ slots) k e = go (same_key s.key p) refl e (λ f. each_at P p v slots k.1 f)
    where
      go : (b : Bool) → same_key s.key p ≡ b → (if b then Some s.value else value_at same_key p slots) ≡ Some v
          → (value_at same_key p slots ≡ Some v → P p v) → P p v
      go true t e again =
          let same : s.value ≡ v = cc in
          subst (λ (x : T). P p x) same (subst (λ (x : PeerKey). P x s.value) (key_is s.key p t) k.0)
      go false t e again = again e

  pub each_so : (P Q : PeerKey → T → Type 0) → ((p : PeerKey) (v : T) → P p v → Q p v) → (slots : Table) → EachSlot P slots → EachSlot Q slots
  each_so P Q f [] k = tt
  each_so P Q f (s ∷ slots) k = (f s.key s.value k.0, each_so P Q f slots k.1)

  each_inserted : (P : PeerKey → T → Type 0) (s : Slot PeerKey T) (slots : Table) → P s.key s.value → EachSlot P slots
      → EachSlot P (inserted peer_key_cmp s slots)
  each_inserted P s [] h k = (h, tt)
  each_inserted P s (t ∷ slots) h k = go (is_gt (peer_key_cmp s.key t.key)) (each_inserted P s slots h k.1)
    where
      go : (b : Bool) → EachSlot P (inserted peer_key_cmp s slots) → EachSlot P (if b then t ∷ inserted peer_key_cmp s slots else s ∷ t ∷ slots)
      go true again = (k.0, again)
      go false again = (h, k)

  pub each_in_order : (P : PeerKey → T → Type 0) (slots : Table) → EachSlot P slots → EachSlot P (in_order peer_key_cmp slots)
  each_in_order P [] k = tt
  each_in_order P (s ∷ slots) k = each_inserted P s (in_order peer_key_cmp slots) k.0 (each_in_order P slots k.1)

  -- Slots in ascending order of keys.

  apart_inserted : (p : PeerKey) (s : Slot PeerKey T) (slots : Table) → same_key p s.key ≡ false → IsApart same_key p slots
      → IsApart same_key p (inserted peer_key_cmp s slots)
  apart_inserted p s [] e h = (e, tt)
  apart_inserted p s (t ∷ slots) e h = go (is_gt (peer_key_cmp s.key t.key)) (apart_inserted p s slots e h.1)
    where
      go : (b : Bool) → IsApart same_key p (inserted peer_key_cmp s slots)
          → IsApart same_key p (if b then t ∷ inserted peer_key_cmp s slots else s ∷ t ∷ slots)
      go true again = (h.0, again)
      go false again = (e, h)

  apart_in_order : (p : PeerKey) (slots : Table) → IsApart same_key p slots → IsApart same_key p (in_order peer_key_cmp slots)
  apart_in_order p [] h = tt
  apart_in_order p (s ∷ slots) h = apart_inserted p s (in_order peer_key_cmp slots) h.0 (apart_in_order p slots h.1)

  distinct_inserted : (s : Slot PeerKey T) (slots : Table) → IsApart same_key s.key slots → IsDistinct same_key slots
      → IsDistinct same_key (inserted peer_key_cmp s slots)
  distinct_inserted s [] a h = (tt, tt)
  distinct_inserted s (t ∷ slots) a h = go (is_gt (peer_key_cmp s.key t.key)) (distinct_inserted s slots a.1 h.1)
    where
      go : (b : Bool) → IsDistinct same_key (inserted peer_key_cmp s slots)
          → IsDistinct same_key (if b then t ∷ inserted peer_key_cmp s slots else s ∷ t ∷ slots)
      go true again = (apart_inserted t.key s slots (keys_equivalent.symm t.key s.key ∙ a.0) h.0, again)
      go false again = (a, h)

  pub distinct_in_order : (slots : Table) → IsDistinct same_key slots → IsDistinct same_key (in_order peer_key_cmp slots)
  distinct_in_order [] h = tt
  distinct_in_order (s ∷ slots) h = distinct_inserted s (in_order peer_key_cmp slots) (apart_in_order s.key slots h.0) (distinct_in_order slots h.1)

  pub found_in_order : (p : PeerKey) (slots : Table) → IsDistinct same_key slots
      → value_at same_key p (in_order peer_key_cmp slots) ≡ value_at same_key p slots
  found_in_order p slots d = value_in_order PeerKey T peer_key_cmp peer_key_cmp_total same_key (λ a b. refl) p slots d

  -- Each value is another one.

  module _ (f : PeerKey → T → T) where
    abbrev pub changed : Table → Table
    changed slots = map (λ (s : Slot PeerKey T). record s { value = f s.key s.value }) slots

    abbrev pub changed_value : PeerKey → Option T → Option T
    changed_value q None = None
    changed_value q (Some v) = Some (f q v)

    apart_changed : (p : PeerKey) (slots : Table) → IsApart same_key p slots → IsApart same_key p (changed slots)
    apart_changed p [] h = tt
    apart_changed p (s ∷ slots) h = (h.0, apart_changed p slots h.1)

    pub distinct_changed : (slots : Table) → IsDistinct same_key slots → IsDistinct same_key (changed slots)
    distinct_changed [] h = tt
    distinct_changed (s ∷ slots) h = (apart_changed s.key slots h.0, distinct_changed slots h.1)

    pub value_changed : (q : PeerKey) (slots : Table) → value_at same_key q (changed slots) ≡ changed_value q (value_at same_key q slots)
    value_changed q [] = refl
    value_changed q (s ∷ slots) = go (same_key s.key q) refl (value_changed q slots)
      where
        go : (b : Bool) → same_key s.key q ≡ b → value_at same_key q (changed slots) ≡ changed_value q (value_at same_key q slots)
            → (if b then Some (f s.key s.value) else value_at same_key q (changed slots))
            ≡ changed_value q (if b then Some s.value else value_at same_key q slots)
        go true e again = ap (λ (p : PeerKey). Some (f p s.value)) (key_is s.key q e)
        go false e again = again

    pub each_changed : (P : PeerKey → T → Type 0) → ((p : PeerKey) (v : T) → P p v → P p (f p v)) → (slots : Table) → EachSlot P slots
        → EachSlot P (changed slots)
    each_changed P g [] k = tt
    each_changed P g (s ∷ slots) k = (g s.key s.value k.0, each_changed P g slots k.1)
