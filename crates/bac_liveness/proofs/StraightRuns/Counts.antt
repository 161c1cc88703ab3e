-- How many slots of a table have a value that passes a test.
use Rattle.std.proofs.Common.{◌≡◌, ◌+◌, ◌≤◌, ℕ, Bool, true, false, List, [], ◌∷◌, ◌++◌, map, filter, count_by, Some, if◌then◌else◌, refl, sym, ap, subst, ◌∙◌}
use Rattle.std.proofs.Common.{arith}
use Rattle.std.proofs.lemmas.List.Recursion.{is_count_by}
use Rattle.bac_slots.specs.declared.slot.Slot.{Slot}
use Rattle.bac_slots.specs.Slots.{value_at, with_value}
use Rattle.bac_transaction.specs.Keys.{PeerKey, same_key}

module _ (T : Type 0) where
  abbrev Table : Type 0
  Table = List (Slot PeerKey T)

  abbrev weight : Bool → ℕ
  weight b = if b then 1 else 0

  weight_le : (a b : Bool) → (a ≡ true → b ≡ true) → weight a ≤ weight b
  weight_le true true so = omega arith
  weight_le true false so = let e : false ≡ true = so refl in absurd cc
  weight_le false b so = go b
    where
      go : (b : Bool) → 0 ≤ weight b
      go true = omega arith
      go false = omega arith

  abbrev counts : (T → Bool) → Table → ℕ
  counts f [] = 0
  counts f (s ∷ slots) = weight (f s.value) + counts f slots

  by_counts : (f : T → Bool) (slots : Table) → counts f slots ≡ count_by (λ (s : Slot PeerKey T). f s.value) slots
  by_counts f slots = is_count_by (counts f) (λ (s : Slot PeerKey T). f s.value) refl (λ s more. go (f s.value) (counts f more)) slots
    where
      go : (b : Bool) (n : ℕ) → weight b + n ≡ (if b then 1 + n else n)
      go true n = refl
      go false n = omega arith

  abbrev pub count : (T → Bool) → Table → ℕ
  count f slots = count_by (λ (s : Slot PeerKey T). f s.value) slots

  to_count : (f g : T → Bool) (new old : Table) → counts f new ≤ counts g old → count f new ≤ count g old
  to_count f g new old le = let a = by_counts f new in let b = by_counts g old in omega arith

  -- fewer pass a stronger test, and where each value is another one that passes only where the old one did
  changed_counts : (f g : T → Bool) (h : Slot PeerKey T → Slot PeerKey T) → ((s : Slot PeerKey T) → g (h s).value ≡ true → f s.value ≡ true) → (slots : Table)
      → counts g (map h slots) ≤ counts f slots
  changed_counts f g h so [] = omega arith
  changed_counts f g h so (s ∷ slots) =
      let again = changed_counts f g h so slots in
      let le = weight_le (g (h s).value) (f s.value) (so s) in
      omega arith

  pub count_changed : (f g : T → Bool) (h : Slot PeerKey T → Slot PeerKey T) → ((s : Slot PeerKey T) → g (h s).value ≡ true → f s.value ≡ true)
      → (slots : Table) → count g (map h slots) ≤ count f slots
  count_changed f g h so slots = to_count g f (map h slots) slots (changed_counts f g h so slots)

  weaker_counts : (f g : T → Bool) → ((v : T) → g v ≡ true → f v ≡ true) → (slots : Table) → counts g slots ≤ counts f slots
  weaker_counts f g so [] = omega arith
  weaker_counts f g so (s ∷ slots) =
      let again = weaker_counts f g so slots in
      let le = weight_le (g s.value) (f s.value) (so s.value) in
      omega arith

  pub count_weaker : (f g : T → Bool) → ((v : T) → g v ≡ true → f v ≡ true) → (slots : Table) → count g slots ≤ count f slots
  count_weaker f g so slots = to_count g f slots slots (weaker_counts f g so slots)

  filtered_counts : (f : T → Bool) (slots : Table) → counts f (filter (λ (s : Slot PeerKey T). f s.value) slots) ≤ counts f slots
  filtered_counts f [] = omega arith
  filtered_counts f (s ∷ slots) = go (f s.value) refl (filtered_counts f slots)
    where
      rest : Table
      rest = filter (λ (s : Slot PeerKey T). f s.value) slots

      go : (a : Bool) → f s.value ≡ a → counts f rest ≤ counts f slots → counts f (if a then s ∷ rest else rest) ≤ weight a + counts f slots
      go true e k = subst (λ (b : Bool). weight b + counts f rest ≤ 1 + counts f slots) (sym e) (omega arith)
      go false e k = omega arith

  -- those that do not pass go
  pub count_passing : (f : T → Bool) (slots : Table) → count f (filter (λ (s : Slot PeerKey T). f s.value) slots) ≤ count f slots
  count_passing f slots = to_count f f (filter (λ (s : Slot PeerKey T). f s.value) slots) slots (filtered_counts f slots)

  put_counts : (f : T → Bool) (s : Slot PeerKey T) (slots : Table) → counts f (slots ++ s ∷ []) ≤ counts f slots + 1
  put_counts f s [] = let le = weight_le (f s.value) true (λ e. refl) in omega arith
  put_counts f s (t ∷ slots) = let again = put_counts f s slots in omega arith

  -- one more comes, and those that do not pass go
  pub count_put : (f : T → Bool) (s : Slot PeerKey T) (slots : Table)
      → count f (filter (λ (t : Slot PeerKey T). f t.value) slots ++ s ∷ []) ≤ count f slots + 1
  count_put f s slots =
      let rest = filter (λ (t : Slot PeerKey T). f t.value) slots in
      let a = by_counts f (rest ++ s ∷ []) in
      let b = by_counts f slots in
      let c = put_counts f s rest in
      let d = filtered_counts f slots in
      omega arith

  with_counts : (f : T → Bool) (p : PeerKey) (v old : T) (slots : Table) → value_at same_key p slots ≡ Some old → f old ≡ true
      → counts f (with_value same_key p v slots) ≤ counts f slots
  with_counts f p v old [] e passes = omega arith
  with_counts f p v old (s ∷ slots) e passes = go (same_key s.key p) e (λ g. with_counts f p v old slots g passes)
    where
      go : (b : Bool) → (if b then Some s.value else value_at same_key p slots) ≡ Some old
          → (value_at same_key p slots ≡ Some old → counts f (with_value same_key p v slots) ≤ counts f slots)
          → counts f (if b then record s { value = v } ∷ slots else s ∷ with_value same_key p v slots) ≤ weight (f s.value) + counts f slots
      go true e again =
          let same : s.value ≡ old = cc in
          let le = weight_le (f v) (f s.value) (λ t. ap f same ∙ passes) in
          omega arith
      go false e again = let k = again e in omega arith

  -- another value for one that passes
  pub count_with : (f : T → Bool) (p : PeerKey) (v old : T) (slots : Table) → value_at same_key p slots ≡ Some old → f old ≡ true
      → count f (with_value same_key p v slots) ≤ count f slots
  count_with f p v old slots e passes = to_count f f (with_value same_key p v slots) slots (with_counts f p v old slots e passes)
