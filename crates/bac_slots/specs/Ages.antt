-- What is known of the ages of a table's slots: kept next to the slots, and not visible in the contracts of both ends.
use Rattle.std.specs.Prelude.{◌≡◌, ℕ, ◌≤◌, List, [], ◌∷◌, Option, Some, None, if◌then◌else◌, min, nat_le}
use Rattle.bac_slots.specs.declared.slot.Slot.{Slot}
use Rattle.bac_slots.specs.Slots.{Ascends, EachSlot}
use Rattle.bac_slots.specs.declared.ages.Ages.{Ages}

-- a slot began when its value did, and not after that moment
abbrev pub HasBegun : {K V : Type 0} → (V → ℕ) → (latest : ℕ) → Slot K V → Type 0
HasBegun began latest s = (s.begin ≡ began s.value) × (s.begin ≤ latest)

-- no slot began after a later one in the list, and none after that moment
pub record AreInOrder (K V : Type 0) (began : V → ℕ) (latest : ℕ) (slots : List (Slot K V)) : Type 0 where
  pub ascends : Ascends slots
  pub begun : EachSlot (HasBegun began latest) slots

-- the same, where there is such a moment
abbrev pub AreInOrderIf : {K V : Type 0} → (V → ℕ) → (latest : Option ℕ) → List (Slot K V) → Type 0
AreInOrderIf began None slots = Unit {0}
AreInOrderIf {K} {V} began (Some latest) slots = AreInOrder K V began latest slots

-- a moment at which a value is added: it is the new latest, or there is no latest any more, if it is before that
abbrev pub later_of : (latest : Option ℕ) → (moment : ℕ) → Option ℕ
later_of None moment = None
later_of (Some latest) moment = if nat_le latest moment then Some moment else None

-- there is a latest moment, and it is not after this one; as long as moments never go back it stays known, and sweeps start at the oldest slot
abbrev pub IsKnownBy : (moment : ℕ) → (latest : Option ℕ) → Type 0
IsKnownBy moment None = ⊥
IsKnownBy moment (Some latest) = latest ≤ moment

-- a tick at or after the one moment and before the other has nothing to do for any of the values
abbrev pub AreQuiet : {K V : Type 0} → (ℕ → ℕ → V → Type 0) → (from due : ℕ) → List (Slot K V) → Type 0
AreQuiet Quiet from due slots = EachSlot (λ s. Quiet from due s.value) slots

-- the first moment at which the value of a slot is due, and the greatest moment if there is no slot
abbrev pub first_due : {K V : Type 0} → (V → ℕ) → List (Slot K V) → ℕ
first_due due [] = 18446744073709551615
first_due due (s ∷ slots) = min (due s.value) (first_due due slots)

-- everything that is known of the ages of these slots
pub record IsAged (K V : Type 0) (began : V → ℕ) (Quiet : ℕ → ℕ → V → Type 0) (ages : Ages) (slots : List (Slot K V)) : Type 0 where
  pub quiet : AreQuiet Quiet ages.from ages.due slots
  pub order : AreInOrderIf began ages.latest slots

-- a slot whose value is replaced by a function of it
abbrev pub changed : {K T : Type 0} → (Slot K T → T) → Slot K T → Slot K T
changed h s = record s { value = h s }

-- a slot's value after a tick
abbrev pub ticked_in : {K V C : Type 0} → (C → ℕ → K → V → V) → C → (now : ℕ) → Slot K V → V
ticked_in ticked c now s = ticked c now s.key s.value
