-- The slots of a table and their abstract values.
use Rattle.std.proofs.Common.{◌≡◌, suc, Bool, true, false, List, [], ◌∷◌, ◌++◌, length, Option, Some, None}
use Rattle.std.proofs.Common.{if◌then◌else◌, refl, sym, ap, subst, ◌∙◌, MatchOption, Bor, slice_get, not, ℕ}
use Rattle.std.specs.Option.{option_map}
use Rattle.bac_slots.specs.declared.slot.Slot.{Slot}
use Rattle.bac_slots.specs.Slots.{value_at, with_value, without, slot_seen}
use Rattle.bac_explain.specs.declared.key.TransactionKey.{TransactionKey}
use Rattle.bac_explain.specs.declared.transaction.Transaction.{Transaction}
use Rattle.bac_explain.specs.Keys.{Key, same_key}
use Rattle.bac_explain.specs.KeyViews.{key_view}
use Rattle.bac_explain.proofs.Rooms.{oldest_is}
use Rattle.bac_explain.specs.Tables.{closed_at, closed_in, is_oldest_over, oldest_out}
use Rattle.bac_explain.specs.Transactions.{TransactionView, is_awaited}
use Rattle.bac_explain.specs.Views.{code_same_key, first_key, slots_view, transaction_view}

abbrev pub Item : Type 0
Item = Slot TransactionKey Transaction

abbrev seen : Item → Slot Key TransactionView
seen = slot_seen key_view transaction_view

pub value_seen : (key : TransactionKey) (slots : List Item)
    → option_map transaction_view (value_at code_same_key key slots) ≡ value_at same_key (key_view key) (slots_view slots)
value_seen key [] = refl
value_seen key (s ∷ slots) = go (code_same_key s.key key) (value_seen key slots)
  where
    go : (b : Bool) → option_map transaction_view (value_at code_same_key key slots) ≡ value_at same_key (key_view key) (slots_view slots)
        → option_map transaction_view (if b then Some s.value else value_at code_same_key key slots)
        ≡ (if b then Some (transaction_view s.value) else value_at same_key (key_view key) (slots_view slots))
    go true e = refl
    go false e = e

pub set_seen : (key : TransactionKey) (t : Transaction) (slots : List Item)
    → slots_view (with_value code_same_key key t slots) ≡ with_value same_key (key_view key) (transaction_view t) (slots_view slots)
set_seen key t [] = refl
set_seen key t (s ∷ slots) = go (code_same_key s.key key) (set_seen key t slots)
  where
    go : (b : Bool) → slots_view (with_value code_same_key key t slots) ≡ with_value same_key (key_view key) (transaction_view t) (slots_view slots)
        → slots_view (if b then record s { value = t } ∷ slots else s ∷ with_value code_same_key key t slots)
        ≡ (if b then record (seen s) { value = transaction_view t } ∷ slots_view slots
        else seen s ∷ with_value same_key (key_view key) (transaction_view t) (slots_view slots))
    go true e = refl
    go false e = ap (λ l. seen s ∷ l) e

pub without_seen : (key : TransactionKey) (slots : List Item)
    → slots_view (without code_same_key key slots) ≡ without same_key (key_view key) (slots_view slots)
without_seen key [] = refl
without_seen key (s ∷ slots) = go (code_same_key s.key key) (without_seen key slots)
  where
    go : (b : Bool) → slots_view (without code_same_key key slots) ≡ without same_key (key_view key) (slots_view slots)
        → slots_view (if b then slots else s ∷ without code_same_key key slots)
        ≡ (if b then slots_view slots else seen s ∷ without same_key (key_view key) (slots_view slots))
    go true e = refl
    go false e = ap (λ l. seen s ∷ l) e

pub put_seen : (slots : List Item) (s : Item) → slots_view (slots ++ s ∷ []) ≡ slots_view slots ++ seen s ∷ []
put_seen [] s = refl
put_seen (r ∷ slots) s = ap (λ l. seen r ∷ l) (put_seen slots s)

pub length_seen : (slots : List Item) → length (slots_view slots) ≡ length slots
length_seen [] = refl
length_seen (s ∷ slots) = ap suc (length_seen slots)

-- ---- one key

pub found_seen : (key : TransactionKey) (slots : List Item) (o : Option (Bor Transaction))
    → MatchOption o (value_at code_same_key key slots ≡ None) (λ x. value_at code_same_key key slots ≡ Some x.now)
    → option_map (λ t. transaction_view t.now) o ≡ value_at same_key (key_view key) (slots_view slots)
found_seen key slots None e = sym (ap (option_map transaction_view) e) ∙ value_seen key slots
found_seen key slots (Some x) e = sym (ap (option_map transaction_view) e) ∙ value_seen key slots

pub none_seen : (key : TransactionKey) (slots : List Item) → value_at code_same_key key slots ≡ None
    → value_at same_key (key_view key) (slots_view slots) ≡ None
none_seen key slots e = sym (value_seen key slots) ∙ ap (option_map transaction_view) e

pub seen_none : (key : TransactionKey) (slots : List Item) → value_at same_key (key_view key) (slots_view slots) ≡ None
    → value_at code_same_key key slots ≡ None
seen_none key slots e = none_of (value_at code_same_key key slots) (value_seen key slots ∙ e)
  where
    none_of : (o : Option Transaction) → option_map transaction_view o ≡ None → o ≡ None
    none_of None e = refl
    none_of (Some t) e = absurd cc

pub closed_none : (key : TransactionKey) (slots : List Item) → value_at code_same_key key slots ≡ None
    → None ≡ closed_at (key_view key) (slots_view slots)
closed_none key slots e = sym (ap (closed_in (key_view key)) (none_seen key slots e))

pub closed_some : (key : TransactionKey) (t : Transaction) (slots : List Item) → value_at code_same_key key slots ≡ Some t
    → Some (record { key = key_view key; transaction = transaction_view t }) ≡ closed_at (key_view key) (slots_view slots)
closed_some key t slots e = ap (closed_in (key_view key)) (sym (ap (option_map transaction_view) e) ∙ value_seen key slots)

pub taken_seen : (key : TransactionKey) (old now : List Item) → now ≡ without code_same_key key old
    → slots_view now ≡ without same_key (key_view key) (slots_view old)
taken_seen key old now e = ap slots_view e ∙ without_seen key old

pub set_back_seen : (key : TransactionKey) (t : Transaction) (old now : List Item) → now ≡ with_value code_same_key key t old
    → slots_view now ≡ with_value same_key (key_view key) (transaction_view t) (slots_view old)
set_back_seen key t old now e = ap slots_view e ∙ set_seen key t old

-- ---- the first transaction

pub over_seen : (now : ℕ) (slots : List Item) (s : Item) (b : Bool) → slice_get slots 0 ≡ Some s → b ≡ is_awaited now (transaction_view s.value)
    → not b ≡ is_oldest_over now (slots_view slots)
over_seen now [] s b e is = absurd cc
over_seen now (r ∷ slots) s b e is = ap not (is ∙ sym (ap live_in e))
  where
    live_in : Option Item → Bool
    live_in None = false
    live_in (Some x) = is_awaited now (transaction_view x.value)

pub none_over : (now : ℕ) (slots : List Item) → slice_get slots 0 ≡ None → false ≡ is_oldest_over now (slots_view slots)
none_over now [] e = refl
none_over now (r ∷ slots) e = absurd cc

-- the transaction with the first key is the first one
pub first_seen : (key : TransactionKey) (slots : List Item) → Some key ≡ first_key slots
    → (closed_at (key_view key) (slots_view slots) ≡ (oldest_out (slots_view slots)).0)
    × (without same_key (key_view key) (slots_view slots) ≡ (oldest_out (slots_view slots)).1)
first_seen key [] e = absurd cc
first_seen key (s ∷ slots) e =
    subst (λ (k : TransactionKey). (closed_at (key_view k) (slots_view (s ∷ slots)) ≡ (oldest_out (slots_view (s ∷ slots))).0)
    × (without same_key (key_view k) (slots_view (s ∷ slots)) ≡ (oldest_out (slots_view (s ∷ slots))).1)) (sym (ap key_in e))
    (oldest_is (seen s) (slots_view slots))
  where
    key_in : Option TransactionKey → TransactionKey
    key_in None = s.key
    key_in (Some k) = k
