-- What is known of ages stays true when slots are removed.
use Rattle.std.proofs.Common.{◌≡◌, ℕ, Bool, List, Option, Some, None, filter, sym, subst}
use Rattle.bac_slots.specs.declared.slot.Slot.{Slot}
use Rattle.bac_slots.specs.declared.ages.Ages.{Ages}
use Rattle.bac_slots.specs.Slots.{without}
use Rattle.bac_slots.specs.Ages.{AreInOrderIf, HasBegun, IsAged}
use Rattle.bac_slots.proofs.SlotAges.{ascends_kept, ascends_without, each_kept, each_without}

module _ (K V : Type 0) (began : V → ℕ) (Quiet : ℕ → ℕ → V → Type 0) (eq : K → K → Bool) (key : K) where
  in_order_without : (latest : Option ℕ) (slots : List (Slot K V)) → AreInOrderIf began latest slots → AreInOrderIf began latest (without eq key slots)
  in_order_without None slots h = tt
  in_order_without (Some l) slots h = record { ascends = ascends_without eq key slots h.ascends; begun = each_without (HasBegun began l) eq key slots h.begun }

  pub removed_aged : (ages : Ages) (slots after : List (Slot K V)) → after ≡ without eq key slots → IsAged K V began Quiet ages slots
      → IsAged K V began Quiet ages after
  removed_aged ages slots after is h = subst (λ (l : List (Slot K V)). IsAged K V began Quiet ages l) (sym is) (record {
    quiet = each_without (λ s. Quiet ages.from ages.due s.value) eq key slots h.quiet;
    order = in_order_without ages.latest slots h.order;
  })

-- those that fail a test
module _ (K V : Type 0) (began : V → ℕ) (Quiet : ℕ → ℕ → V → Type 0) (lives : V → Bool) where
  in_order_swept : (latest : Option ℕ) (slots : List (Slot K V)) → AreInOrderIf began latest slots
      → AreInOrderIf began latest (filter (λ s. lives s.value) slots)
  in_order_swept None slots h = tt
  in_order_swept (Some l) slots h = record {
    ascends = ascends_kept (λ s. lives s.value) slots h.ascends;
    begun = each_kept (HasBegun began l) (λ s. lives s.value) slots h.begun;
  }

  pub swept_aged : (ages : Ages) (slots after : List (Slot K V)) → after ≡ filter (λ s. lives s.value) slots → IsAged K V began Quiet ages slots
      → IsAged K V began Quiet ages after
  swept_aged ages slots after is h = subst (λ (l : List (Slot K V)). IsAged K V began Quiet ages l) (sym is) (record {
    quiet = each_kept (λ s. Quiet ages.from ages.due s.value) (λ s. lives s.value) slots h.quiet;
    order = in_order_swept ages.latest slots h.order;
  })
