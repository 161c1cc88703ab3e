-- A table's slots with keys in code, and the slots of an end.
use Rattle.std.proofs.Common.{◌≡◌, ℕ, suc, ◌+◌, ◌≤◌, Bool, List, [], ◌∷◌, count_by, cond, length, min, Some, refl, ap, sym, ◌∙◌, rules, arith}
use Rattle.std.proofs.lemmas.List.Sums.{sum_by-cons}
use Rattle.std.specs.Cmp.{IsEquivalence}
use Rattle.std.specs.Cmp.Rules.{comparing}
use Rattle.bac_slots.specs.declared.slot.Slot.{Slot}
use Rattle.bac_slots.specs.Slots.{EachSlot, IsApart, IsDistinct, value_at, with_value}
use Rattle.bac_slots.proofs.Values.{set_back}
use Rattle.bac_slots.specs.Ages.{first_due}
use Rattle.bac_transaction.specs.Keys as keys
use Rattle.bac_transaction.specs.Keys.{peer_key_cmp_total, same_key}
use Rattle.bac_transaction.specs.Tables.{IsOrderly}
use Rattle.bac_transaction.specs.Views.{code_same_key, peer_key_view, slot_view, slots_view}
use Rattle.bac_transaction.specs.declared.peer_key.PeerKey.{PeerKey}

pub key_equal : IsEquivalence code_same_key
key_equal = search (peer_key_cmp_total, comparing, rules)

module _ (V : Type 0) where
  -- what was out is back
  pub put_back : (key : PeerKey) (v w : V) (old new : List (Slot PeerKey V)) → value_at code_same_key key old ≡ Some v → w ≡ v
      → new ≡ with_value code_same_key key w old → new ≡ old
  put_back key v w old new at same set =
      set ∙ ap (λ y. with_value code_same_key key y old) same ∙ set_back PeerKey V code_same_key key_equal key v old at

  -- as many pass
  pub count_viewed : (test : V → Bool) (slots : List (Slot PeerKey V))
      → count_by (λ s. test s.value) (slots_view slots) ≡ count_by (λ s. test s.value) slots
  count_viewed test [] = refl
  count_viewed test (s ∷ slots) =
      let f : Slot PeerKey V → ℕ = λ y. cond (test y.value) 1 0 in
      let h : Slot keys.PeerKey V → ℕ = λ y. cond (test y.value) 1 0 in
      sum_by-cons h (slot_view s) (slots_view slots) ∙ ap (λ z. f s + z) (count_viewed test slots) ∙ sym (sum_by-cons f s slots)

  -- keys that differ in code differ in the end
  apart_viewed : (key : PeerKey) (slots : List (Slot PeerKey V)) → IsApart code_same_key key slots → IsApart same_key (peer_key_view key) (slots_view slots)
  apart_viewed key [] apart = tt
  apart_viewed key (s ∷ slots) apart = (apart.0, apart_viewed key slots apart.1)

  distinct_viewed : (slots : List (Slot PeerKey V)) → IsDistinct code_same_key slots → IsDistinct same_key (slots_view slots)
  distinct_viewed [] distinct = tt
  distinct_viewed (s ∷ slots) distinct = (apart_viewed s.key slots distinct.0, distinct_viewed slots distinct.1)

  length_viewed : (slots : List (Slot PeerKey V)) → length (slots_view slots) ≡ length slots
  length_viewed [] = refl
  length_viewed (s ∷ slots) = ap suc (length_viewed slots)

  pub orderly_viewed : (slots : List (Slot PeerKey V)) (capacity len : ℕ) → IsDistinct code_same_key slots → len ≡ length slots → len ≤ capacity
      → IsOrderly V (slots_view slots) capacity
  orderly_viewed slots capacity len distinct count within =
      record { distinct = distinct_viewed slots distinct; within = omega (arith, length_viewed slots, count, within) }

  -- the same is due first
  pub due_viewed : (due : V → ℕ) (slots : List (Slot PeerKey V)) → first_due due (slots_view slots) ≡ first_due due slots
  due_viewed due [] = refl
  due_viewed due (s ∷ slots) = ap (λ m. min (due s.value) m) (due_viewed due slots)

  -- what holds of each value holds of each in the end's slots
  pub each_viewed : (P : V → Type 0) (slots : List (Slot PeerKey V)) → EachSlot (λ s. P s.value) slots → EachSlot (λ s. P s.value) (slots_view slots)
  each_viewed P [] e = tt
  each_viewed P (s ∷ slots) e = (e.0, each_viewed P slots e.1)
