-- When a slot of the reply table gets free: all entries are live before that moment, and from then on one is not.
use Rattle.std.proofs.Common.{◌≡◌, ℕ, ◌+◌, ◌<◌, ◌≤◌, Bool, true, false, List, [], ◌∷◌, cond, count_by, length, max, nat_le, refl, ap, arith}
use Rattle.std.proofs.lemmas.Bool.Decides.{nat_tests}
use Rattle.std.proofs.lemmas.List.{length-map}
use Rattle.std.proofs.lemmas.List.Sums.{count_by-le-length, sum_by-cons}
use Rattle.bac_slots.specs.Ages.{first_due}
use Rattle.bac_slots.specs.declared.slot.Slot.{Slot}
use Rattle.bac_protocol.specs.Server.{ServerTransaction, is_live}
use Rattle.bac_transaction.specs.Ends.{ServerSlot, is_slot_live}
use Rattle.bac_transaction.specs.Views.{slot_view, slots_view}
use Rattle.bac_transaction.specs.declared.peer_key.PeerKey.{PeerKey}
use Rattle.bac_transaction.proofs.Viewed.{due_viewed}
use Rattle.bac_responder.specs.Freeing.{dies}
use Rattle.bac_responder.specs.Timers.{LAST_MOMENT}

module _ (moment : ℕ) where
  abbrev one : ServerSlot → ℕ
  one s = cond (is_live moment s.value) 1 0

  pub all_live : (slots : List ServerSlot) → moment < first_due dies slots → count_by (is_slot_live moment) slots ≡ length slots
  all_live [] before = refl
  all_live (s ∷ slots) before =
      let here : is_live moment s.value ≡ true = grind (arith, nat_tests, before) in
      let rest = all_live slots (omega (arith, before)) in
      let counts : one s ≡ 1 = ap (λ (b : Bool). cond b 1 0) here in
      let sum = sum_by-cons one s slots in
      omega (arith, sum, counts, rest)

  pub one_dead : (slots : List ServerSlot) → first_due dies slots < LAST_MOMENT → first_due dies slots ≤ moment
      → count_by (is_slot_live moment) slots < length slots
  one_dead [] below past = absurd (omega (arith, below))
  one_dead (s ∷ slots) below past = go (nat_le (s.value.begin + 65001) moment) refl (one_dead slots)
    where
      at_most : (b : Bool) → cond b 1 0 ≤ 1
      at_most true = omega arith
      at_most false = omega arith

      go : (b : Bool) → nat_le (s.value.begin + 65001) moment ≡ b
          → (first_due dies slots < LAST_MOMENT → first_due dies slots ≤ moment → count_by (is_slot_live moment) slots < length slots)
          → count_by (is_slot_live moment) (s ∷ slots) < length (s ∷ slots)
      go true dead again =
          let here : is_live moment s.value ≡ false = grind (arith, nat_tests, dead) in
          let counts : one s ≡ 0 = ap (λ (b : Bool). cond b 1 0) here in
          let sum = sum_by-cons one s slots in
          let most = count_by-le-length (is_slot_live moment) slots in
          omega (arith, sum, counts, most)
      go false live again =
          let late : moment < s.value.begin + 65001 = grind (arith, nat_tests, live) in
          let rest = again (omega (arith, below, past, late)) (omega (arith, below, past, late)) in
          let counts = at_most (is_live moment s.value) in
          let sum = sum_by-cons one s slots in
          omega (arith, sum, counts, rest)

-- The table.

module _ (slots : List (Slot PeerKey ServerTransaction)) (capacity : ℕ) where
  abbrev pub live_at : (moment : ℕ) → ℕ
  live_at moment = count_by (is_slot_live moment) (slots_view slots)

  same_first : first_due dies (slots_view slots) ≡ first_due dies slots
  same_first = due_viewed ServerTransaction dies slots

  same_length : length (slots_view slots) ≡ length slots
  same_length = length-map slots slot_view

  -- where each slot is in use, one gets free with the first of their entries that is not live
  module _ (all : capacity ≡ length slots) (from first : ℕ) (is : first ≡ first_due dies slots) where
    pub full_before : (moment : ℕ) → from ≤ moment → moment < max from first → capacity ≤ live_at moment
    full_before moment started before =
        let seen = same_first in
        let count = all_live moment (slots_view slots) (omega (arith, seen, is, started, before)) in
        let long = same_length in
        omega (arith, count, long, all)

    pub free_then : max from first < LAST_MOMENT → live_at (max from first) < capacity
    free_then below =
        let seen = same_first in
        let count = one_dead (max from first) (slots_view slots) (omega (arith, seen, is, below)) (omega (arith, seen, is)) in
        let long = same_length in
        omega (arith, count, long, all)

  -- where one is not in use, it is free
  pub free_now : length slots < capacity → (moment : ℕ) → live_at moment < capacity
  free_now fewer moment =
      let most = count_by-le-length (is_slot_live moment) (slots_view slots) in
      let long = same_length in
      omega (arith, most, long, fewer)
