-- How many slots an address holds, and whether it has a share, in code and in the end.
use Rattle.std.proofs.Common.{◌≡◌, ℕ, ◌+◌, ◌-◌, ◌*◌, ◌<◌, ◌≤◌, Bool, true, false, ◌&&◌, ◌||◌, not, List, [], ◌∷◌, Option, Some, cond, count_by, if◌then◌else◌, length, min, nat_le, slice_get, take, zero, suc}
use Rattle.std.proofs.Common.{refl, ap, sym, ◌∙◌, arith}
use Rattle.std.proofs.lemmas.Bool.Decides.{nat_tests}
use Rattle.std.proofs.lemmas.List.Sums.{count_by-le-length, sum_by-cons}
use Rattle.bac_slots.specs.declared.slot.Slot.{Slot}
use Rattle.bac_slots.specs.Slots.{value_at}
use Rattle.bac_protocol.specs.Server.{ServerTransaction, is_live, is_none_live}
use Rattle.bac_transaction.specs.Ends.{ServerSlot, is_slot_live}
use Rattle.bac_transaction.specs.Sharing.{address_of, free_slots, has_share, held_at, is_held_at}
use Rattle.bac_transaction.specs.Views.{code_same_key, peer_key_view, slot_view, slots_view}
use Rattle.bac_transaction.specs.declared.peer_key.PeerKey.{PeerKey}
use Rattle.bac_transaction.proofs.Keyed.{value_viewed}
use Rattle.bac_transaction.proofs.Viewed.{count_viewed}
use Rattle.bac_responder.specs.Kept.{holds_another}
use Rattle.bac_responder.specs.Sharing.{is_held}
use Rattle.bac_responder.specs.Views.{end_of}

abbrev Slots : Type 0
Slots = List (Slot PeerKey ServerTransaction)

-- Whether an entry may begin.

pub asked : (share has : Bool) → share ≡ true → has ≡ (not share || (false || has))
asked true has is = refl
asked false has is = absurd cc

pub not_asked : (share has : Bool) → share ≡ false → true ≡ (not share || (false || has))
not_asked true has is = absurd cc
not_asked false has is = refl

pub in_turn : (begins share free : Bool) → ((begins && free) && share) ≡ (begins && (share && free))
in_turn false share free = refl
in_turn true true true = refl
in_turn true true false = refl
in_turn true false true = refl
in_turn true false false = refl

pub slot_there : (n : ℕ) (slots : Slots) → n < length slots → (s : Slot PeerKey ServerTransaction) × (slice_get slots n ≡ Some s)
slot_there n [] l = absurd (omega (arith, l))
slot_there zero (s ∷ slots) l = (s, refl)
slot_there (suc n) (s ∷ slots) l = slot_there n slots (omega (arith, l))

module _ (now : ℕ) (link : List ℕ) where
  held_viewed : (slots : Slots) → count_by (is_held_at now (address_of link)) (slots_view slots) ≡ count_by (is_held now link) slots
  held_viewed [] = refl
  held_viewed (s ∷ slots) =
      let f : Slot PeerKey ServerTransaction → ℕ = λ y. cond (is_held now link y) 1 0 in
      let h : ServerSlot → ℕ = λ y. cond (is_held_at now (address_of link) y) 1 0 in
      sum_by-cons h (slot_view s) (slots_view slots) ∙ ap (λ z. f s + z) (held_viewed slots) ∙ sym (sum_by-cons f s slots)

  -- where even all slots in use would be a share, it has one
  pub surely_shares : (slots : Slots) (capacity used room unused : ℕ) → used ≡ length slots → room ≡ capacity → unused ≡ room - used
      → nat_le used (15 * (unused - 1)) ≡ true → (restart : Option ℕ) → has_share now (address_of link) (end_of slots capacity restart) ≡ true
  surely_shares slots capacity used room unused all is left few restart =
      let seen = held_viewed slots in
      let most = count_by-le-length (is_held now link) slots in
      let live = count_viewed ServerTransaction (is_live now) slots in
      let some = count_by-le-length (λ (s : Slot PeerKey ServerTransaction). is_live now s.value) slots in
      let less : used ≤ 15 * (unused - 1) = grind (arith, nat_tests, few) in
      let below : held_at now (address_of link) (end_of slots capacity restart) ≤ 15 * (free_slots now (end_of slots capacity restart) - 1) =
      omega (arith, seen, most, live, some, less, all, is, left) in
      grind (arith, nat_tests, below)

  -- no more slots are counted than a number of the machine can tell
  under_most : (held most : ℕ) → held ≤ 18446744073709551615 → nat_le held (min most 18446744073709551615) ≡ nat_le held most
  under_most held most within = go (nat_le held most) refl
    where
      go : (b : Bool) → nat_le held most ≡ b → nat_le held (min most 18446744073709551615) ≡ b
      go true is =
          let few : held ≤ most = grind (arith, nat_tests, is) in
          let both : held ≤ min most 18446744073709551615 = omega (arith, few, within) in
          grind (arith, nat_tests, both)
      go false is =
          let more : most < held = grind (arith, nat_tests, is) in
          let both : min most 18446744073709551615 < held = omega (arith, more) in
          grind (arith, nat_tests, both)

  pub shares_as_counted : (slots : Slots) (capacity used live room most : ℕ) → used ≡ length slots → used ≤ 18446744073709551615
      → live ≡ count_by (λ s. is_live now s.value) slots → room ≡ capacity → most ≡ min (15 * ((room - live) - 1)) 18446744073709551615 → (restart : Option ℕ)
      → nat_le (count_by (is_held now link) slots) most ≡ has_share now (address_of link) (end_of slots capacity restart)
  shares_as_counted slots capacity used live room most number few all same is restart =
      let some = count_by-le-length (is_held now link) slots in
      let alive : live ≡ count_by (is_slot_live now) (slots_view slots) = all ∙ sym (count_viewed ServerTransaction (is_live now) slots) in
      ap (λ (n : ℕ). nat_le (count_by (is_held now link) slots) n) is
      ∙ under_most (count_by (is_held now link) slots) (15 * ((room - live) - 1)) (omega (arith, some, number, few))
      ∙ ap (λ (n : ℕ). nat_le n (15 * ((room - live) - 1))) (sym (held_viewed slots))
      ∙ ap (λ (n : ℕ). nat_le (held_at now (address_of link) (end_of slots capacity restart)) (15 * ((room - n) - 1))) alive
      ∙ ap (λ (n : ℕ). nat_le (held_at now (address_of link) (end_of slots capacity restart))
      (15 * ((n - count_by (is_slot_live now) (slots_view slots)) - 1))) same

  -- so many at most, and beside the entry of a key none at most
  pub holds_another_so : (key : PeerKey) (slots : Slots) (capacity own : ℕ) (restart : Option ℕ) → link ≡ key.peer.link
      → own ≡ (if is_none_live now (value_at code_same_key key slots) then 0 else 1)
      → not (nat_le (count_by (is_held now link) slots) own) ≡ holds_another now (peer_key_view key) (end_of slots capacity restart)
  holds_another_so key slots capacity own restart at is =
      ap (λ (n : ℕ). not (nat_le n own)) (sym (held_viewed slots))
      ∙ ap (λ (l : List ℕ). not (nat_le (held_at now (address_of l) (end_of slots capacity restart)) own)) at
      ∙ ap (λ (n : ℕ). not (nat_le (held_at now (address_of key.peer.link) (end_of slots capacity restart)) n)) is
      ∙ ap (λ (o : Option ServerTransaction). not (nat_le (held_at now (address_of key.peer.link) (end_of slots capacity restart))
      (if is_none_live now o then 0 else 1))) (value_viewed ServerTransaction key slots)

-- Of the first slots and one more.

module _ (A : Type 0) (p : A → Bool) where
  -- the first ones are no more than all
  pub first_few : (n : ℕ) (xs : List A) → count_by p (take n xs) ≤ count_by p xs
  first_few zero xs = omega arith
  first_few (suc n) [] = omega arith
  first_few (suc n) (x ∷ xs) =
      let f : A → ℕ = λ y. cond (p y) 1 0 in
      let again = first_few n xs in
      let all = sum_by-cons f x xs in
      let first = sum_by-cons f x (take n xs) in
      omega (arith, again, all, first)
