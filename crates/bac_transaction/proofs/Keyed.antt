-- A table's slots and the slots of an end differ by the view of keys alone.
use Rattle.std.proofs.Common.{◌≡◌, Bool, true, false, List, [], ◌∷◌, ◌++◌, filter, Some}
use Rattle.std.proofs.Common.{if◌then◌else◌, refl, ap, ◌∙◌}
use Rattle.std.specs.Ordering.{is_gt}
use Rattle.bac_slots.specs.declared.slot.Slot.{Slot}
use Rattle.bac_slots.specs.Slots.{value_at, with_value, without, inserted, in_order}
use Rattle.bac_transaction.specs.Keys.{peer_key_cmp, same_key}
use Rattle.bac_transaction.specs.Views.{peer_key_view, slot_view, slots_view, code_key_cmp, code_same_key}
use Rattle.bac_transaction.specs.declared.peer_key.PeerKey.{PeerKey}

module _ (T : Type 0) where
  abbrev Item : Type 0
  Item = Slot PeerKey T

  pub value_viewed : (key : PeerKey) (slots : List Item) → value_at code_same_key key slots ≡ value_at same_key (peer_key_view key) (slots_view slots)
  value_viewed key [] = refl
  value_viewed key (s ∷ slots) = ap (λ o. if code_same_key s.key key then Some s.value else o) (value_viewed key slots)

  pub with_value_viewed : (key : PeerKey) (v : T) (slots : List Item)
      → slots_view (with_value code_same_key key v slots) ≡ with_value same_key (peer_key_view key) v (slots_view slots)
  with_value_viewed key v [] = refl
  with_value_viewed key v (s ∷ slots) = go (code_same_key s.key key) (with_value_viewed key v slots)
    where
      go : (b : Bool) → slots_view (with_value code_same_key key v slots) ≡ with_value same_key (peer_key_view key) v (slots_view slots)
          → slots_view (if b then record s { value = v } ∷ slots else s ∷ with_value code_same_key key v slots)
          ≡ (if b then record (slot_view s) { value = v } ∷ slots_view slots else slot_view s ∷ with_value same_key (peer_key_view key) v (slots_view slots))
      go true e = refl
      go false e = ap (λ l. slot_view s ∷ l) e

  pub without_viewed : (key : PeerKey) (slots : List Item)
      → slots_view (without code_same_key key slots) ≡ without same_key (peer_key_view key) (slots_view slots)
  without_viewed key [] = refl
  without_viewed key (s ∷ slots) = go (code_same_key s.key key) (without_viewed key slots)
    where
      go : (b : Bool) → slots_view (without code_same_key key slots) ≡ without same_key (peer_key_view key) (slots_view slots)
          → slots_view (if b then slots else s ∷ without code_same_key key slots)
          ≡ (if b then slots_view slots else slot_view s ∷ without same_key (peer_key_view key) (slots_view slots))
      go true e = refl
      go false e = ap (λ l. slot_view s ∷ l) e

  pub put_viewed : (slots : List Item) (x : Item) → slots_view (slots ++ x ∷ []) ≡ slots_view slots ++ slot_view x ∷ []
  put_viewed [] x = refl
  put_viewed (s ∷ slots) x = ap (λ l. slot_view s ∷ l) (put_viewed slots x)

  -- those whose value passes
  pub filter_viewed : (test : T → Bool) (slots : List Item) → slots_view (filter (λ s. test s.value) slots) ≡ filter (λ s. test s.value) (slots_view slots)
  filter_viewed test [] = refl
  filter_viewed test (s ∷ slots) = go (test s.value) (filter_viewed test slots)
    where
      go : (b : Bool) → slots_view (filter (λ s. test s.value) slots) ≡ filter (λ s. test s.value) (slots_view slots)
          → slots_view (if b then s ∷ filter (λ s. test s.value) slots else filter (λ s. test s.value) slots)
          ≡ (if b then slot_view s ∷ filter (λ s. test s.value) (slots_view slots) else filter (λ s. test s.value) (slots_view slots))
      go true e = ap (λ l. slot_view s ∷ l) e
      go false e = e

  inserted_viewed : (s : Item) (slots : List Item) → slots_view (inserted code_key_cmp s slots) ≡ inserted peer_key_cmp (slot_view s) (slots_view slots)
  inserted_viewed s [] = refl
  inserted_viewed s (t ∷ slots) = go (is_gt (code_key_cmp s.key t.key)) (inserted_viewed s slots)
    where
      go : (b : Bool) → slots_view (inserted code_key_cmp s slots) ≡ inserted peer_key_cmp (slot_view s) (slots_view slots)
          → slots_view (if b then t ∷ inserted code_key_cmp s slots else s ∷ t ∷ slots)
          ≡ (if b then slot_view t ∷ inserted peer_key_cmp (slot_view s) (slots_view slots) else slot_view s ∷ slot_view t ∷ slots_view slots)
      go true e = ap (λ l. slot_view t ∷ l) e
      go false e = refl

  pub in_order_viewed : (slots : List Item) → slots_view (in_order code_key_cmp slots) ≡ in_order peer_key_cmp (slots_view slots)
  in_order_viewed [] = refl
  in_order_viewed (s ∷ slots) =
      inserted_viewed s (in_order code_key_cmp slots) ∙ ap (λ l. inserted peer_key_cmp (slot_view s) l) (in_order_viewed slots)
