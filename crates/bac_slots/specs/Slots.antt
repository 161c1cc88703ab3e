-- A table of slots as the list of slots in order of insertion, and the effect of its calls on that list.
use Rattle.std.specs.Prelude.{◌≡◌, ℕ, zero, suc, ◌<◌, ◌≤◌, Bool, true, false, List, [], ◌∷◌, Option, Some, None, length, if◌then◌else◌, nat_eq, count_by}
use Rattle.std.specs.Ordering.{is_gt}
use Rattle.std.specs.Int.Digits.{digits_of}
use Rattle.std.specs.declared.cmp.Ordering.{Ordering}
use Rattle.std.specs.declared.cmp.Ordering.TheVariants.{Less, Equal, Greater}
use Rattle.bac_slots.specs.declared.slot.Slot.{Slot}

-- a slot with the abstract values of its key and its value
abbrev pub slot_seen : {K T A B : Type 0} → (K → A) → (T → B) → Slot K T → Slot A B
slot_seen key value s = record { key = key s.key; begin = s.begin; value = value s.value }

-- the value of a key
abbrev pub value_at : {K T : Type 0} → (K → K → Bool) → K → List (Slot K T) → Option T
value_at eq key [] = None
value_at eq key (s ∷ slots) = if eq s.key key then Some s.value else value_at eq key slots

-- the slots with another value for that key, if it is present
abbrev pub with_value : {K T : Type 0} → (K → K → Bool) → K → T → List (Slot K T) → List (Slot K T)
with_value eq key value [] = []
with_value eq key value (s ∷ slots) = if eq s.key key then record s { value = value } ∷ slots else s ∷ with_value eq key value slots

-- the slots without that key
abbrev pub without : {K T : Type 0} → (K → K → Bool) → K → List (Slot K T) → List (Slot K T)
without eq key [] = []
without eq key (s ∷ slots) = if eq s.key key then slots else s ∷ without eq key slots

abbrev pub is_less : Ordering → Bool
is_less Less = true
is_less Equal = false
is_less Greater = false

-- the place of a key in key order: how many slots have a lesser key
abbrev pub rank : {K T : Type 0} → (K → K → Ordering) → K → List (Slot K T) → ℕ
rank cmp key slots = count_by (λ s. is_less (cmp s.key key)) slots

-- the first of these slots whose rank among all slots is n
abbrev pub of_rank : {K T : Type 0} → (K → K → Ordering) → ℕ → List (Slot K T) → List (Slot K T) → Option (Slot K T)
of_rank cmp n all [] = None
of_rank cmp n all (s ∷ slots) = if nat_eq (rank cmp s.key all) n then Some s else of_rank cmp n all slots

-- the n-th slot in key order
abbrev pub nth_by_key : {K T : Type 0} → (K → K → Ordering) → ℕ → List (Slot K T) → Option (Slot K T)
nth_by_key cmp n slots = of_rank cmp n slots slots

-- no slot of these has that key
abbrev pub IsApart : {K T : Type 0} → (K → K → Bool) → K → List (Slot K T) → Type 0
IsApart eq key [] = Unit {0}
IsApart eq key (s ∷ slots) = (eq key s.key ≡ false) × IsApart eq key slots

-- no two slots have the same key
abbrev pub IsDistinct : {K T : Type 0} → (K → K → Bool) → List (Slot K T) → Type 0
IsDistinct eq [] = Unit {0}
IsDistinct eq (s ∷ slots) = IsApart eq s.key slots × IsDistinct eq slots

-- the fact is true of each slot
abbrev pub EachSlot : {K T : Type 0} → (Slot K T → Type 0) → List (Slot K T) → Type 0
EachSlot P [] = Unit {0}
EachSlot P (s ∷ slots) = P s × EachSlot P slots

-- no slot began after a later one in the list
abbrev pub Ascends : {K T : Type 0} → List (Slot K T) → Type 0
Ascends [] = Unit {0}
Ascends (s ∷ slots) = EachSlot (λ t. s.begin ≤ t.begin) slots × Ascends slots

-- each slot that began after that moment has a value that passes the test
abbrev pub YoungPass : {K T : Type 0} → (T → Bool) → ℕ → List (Slot K T) → Type 0
YoungPass test bound slots = EachSlot (λ s. bound < s.begin → test s.value ≡ true) slots

-- the n-th slot in order of insertion is the first with this key
abbrev pub IsAt : {K T : Type 0} → (K → K → Bool) → K → ℕ → List (Slot K T) → Type 0
IsAt eq key n [] = ⊥
IsAt eq key zero (s ∷ slots) = eq s.key key ≡ true
IsAt eq key (suc n) (s ∷ slots) = (eq s.key key ≡ false) × IsAt eq key n slots

-- a slot inserted into sorted slots: before the first whose key is not less
abbrev pub inserted : {K T : Type 0} → (K → K → Ordering) → Slot K T → List (Slot K T) → List (Slot K T)
inserted cmp s [] = s ∷ []
inserted cmp s (t ∷ slots) = if is_gt (cmp s.key t.key) then t ∷ inserted cmp s slots else s ∷ t ∷ slots

-- the slots in ascending order of their keys
abbrev pub in_order : {K T : Type 0} → (K → K → Ordering) → List (Slot K T) → List (Slot K T)
in_order cmp [] = []
in_order cmp (s ∷ slots) = inserted cmp s (in_order cmp slots)

-- how many binary digits a number has: 0 for 0, 10 for 1,023, 11 for 1,024
abbrev pub digits : ℕ → ℕ
digits n = length (digits_of 2 n)

-- a value that exists and passes the test
abbrev pub keep : {T : Type 0} → (T → Bool) → Option T → Option T
keep test None = None
keep test (Some v) = if test v then Some v else None
