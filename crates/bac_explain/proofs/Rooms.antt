-- After a transaction is closed there is room for another one, and no transaction with its key.
use Rattle.std.proofs.Common.{◌≡◌, suc, ◌<◌, ◌≤◌, Bool, true, false, [], ◌∷◌, length, Option, Some, None, nat_lt}
use Rattle.std.proofs.Common.{if◌then◌else◌, refl, sym, ap, subst, ◌∙◌, arith}
use Rattle.std.proofs.lemmas.Bool.Decides.{nat_tests}
use Rattle.std.proofs.lemmas.Cmp.{eq_by_cmp_equiv}
use Rattle.bac_slots.specs.declared.slot.Slot.{Slot}
use Rattle.bac_slots.specs.Slots.{value_at, without}
use Rattle.bac_slots.proofs.Slots.{without-none}
use Rattle.bac_explain.specs.declared.table.TheConstants.{OPEN_LIMIT}
use Rattle.bac_explain.specs.Keys.{Key, same_key, key_cmp_total}
use Rattle.bac_explain.specs.Tables.{Transactions, ClosedView, closed_at, closed_in, closed_of, oldest_out, full_out, room_in, room_for}
use Rattle.bac_explain.specs.Transactions.{TransactionView}

pub same_self : (key : Key) → same_key key key ≡ true
same_self key = (eq_by_cmp_equiv key_cmp_total).refl key

-- the first transaction has the key
pub oldest_is : (s : Slot Key TransactionView) (slots : Transactions)
    → (closed_at s.key (s ∷ slots) ≡ Some (closed_of s)) × (without same_key s.key (s ∷ slots) ≡ slots)
oldest_is s slots = go (same_key s.key s.key) (same_self s.key)
  where
    go : (b : Bool) → b ≡ true → (closed_in s.key (if b then Some s.value else value_at same_key s.key slots) ≡ Some (closed_of s))
        × ((if b then slots else s ∷ without same_key s.key slots) ≡ slots)
    go true e = (refl, refl)
    go false e = absurd cc

-- the transaction with a key is removed
taken_length : (key : Key) (t : TransactionView) (slots : Transactions) → value_at same_key key slots ≡ Some t
    → suc (length (without same_key key slots)) ≡ length slots
taken_length key t [] e = absurd cc
taken_length key t (s ∷ slots) e = go (same_key s.key key) e (taken_length key t slots)
  where
    go : (b : Bool) → (if b then Some s.value else value_at same_key key slots) ≡ Some t
        → (value_at same_key key slots ≡ Some t → suc (length (without same_key key slots)) ≡ length slots)
        → suc (length (if b then slots else s ∷ without same_key key slots)) ≡ suc (length slots)
    go true e rest = refl
    go false e rest = ap suc (rest e)

-- the transaction with the key is closed
pub taken_room : (key : Key) (slots now : Transactions) (c : ClosedView) → length slots ≤ OPEN_LIMIT → Some c ≡ closed_at key slots
    → now ≡ without same_key key slots → length now < OPEN_LIMIT
taken_room key slots now c few is left = go (value_at same_key key slots) refl is
  where
    go : (o : Option TransactionView) → value_at same_key key slots ≡ o → Some c ≡ closed_in key o → length now < OPEN_LIMIT
    go None at e = absurd cc
    go (Some t) at e = omega (arith, few, taken_length key t slots at, ap length left)

-- no transaction with the key is open: the oldest is closed if too many are
none_at : (key : Key) (slots : Transactions) → None ≡ closed_at key slots → value_at same_key key slots ≡ None
none_at key slots is = go (value_at same_key key slots) is
  where
    go : (o : Option TransactionView) → None ≡ closed_in key o → o ≡ None
    go None e = refl
    go (Some t) e = absurd cc

full_room : (slots : Transactions) → length slots ≤ OPEN_LIMIT → length (full_out slots).1 < OPEN_LIMIT
full_room slots few = go (nat_lt (length slots) OPEN_LIMIT) refl
  where
    oldest_room : (ss : Transactions) → length ss ≤ OPEN_LIMIT → length (oldest_out ss).1 < OPEN_LIMIT
    oldest_room [] few = omega arith
    oldest_room (s ∷ ss) few = omega (arith, few)

    go : (b : Bool) → nat_lt (length slots) OPEN_LIMIT ≡ b → length (if b then (None, slots) else oldest_out slots).1 < OPEN_LIMIT
    go true e = grind (arith, nat_tests, e)
    go false e = oldest_room slots few

full_absent : (key : Key) (slots : Transactions) → value_at same_key key slots ≡ None → value_at same_key key (full_out slots).1 ≡ None
full_absent key slots none = go (nat_lt (length slots) OPEN_LIMIT)
  where
    oldest_absent : (ss : Transactions) → value_at same_key key ss ≡ None → value_at same_key key (oldest_out ss).1 ≡ None
    oldest_absent [] e = refl
    oldest_absent (s ∷ ss) e = rest (same_key s.key key) e
      where
        rest : (b : Bool) → (if b then Some s.value else value_at same_key key ss) ≡ None → value_at same_key key ss ≡ None
        rest true e = absurd cc
        rest false e = e

    go : (b : Bool) → value_at same_key key (if b then (None, slots) else oldest_out slots).1 ≡ None
    go true = none
    go false = oldest_absent slots none

-- what is left if no transaction with the key is open
pub record IsRoom (key : Key) (slots others : Transactions) : Type 0 where
  pub closes : (full_out others).0 ≡ (room_for key slots).0
  pub left : (full_out others).1 ≡ (room_for key slots).1
  pub absent : value_at same_key key (full_out others).1 ≡ None
  pub room : length (full_out others).1 < OPEN_LIMIT

pub none_room : (key : Key) (slots left : Transactions) → length slots ≤ OPEN_LIMIT → None ≡ closed_at key slots
    → left ≡ without same_key key slots → IsRoom key slots left
none_room key slots left few is e =
    let none = none_at key slots is in
    let same : left ≡ slots = e ∙ without-none same_key key slots none in
    subst (λ (l : Transactions). IsRoom key slots l) (sym same) (record {
      closes = ap (λ o. (room_in o key slots).0) (sym none);
      left = ap (λ o. (room_in o key slots).1) (sym none);
      absent = full_absent key slots none;
      room = full_room slots few;
    })
