-- The abstract values of transactions, and of the slots that contain them.
use Rattle.std.specs.Prelude.{List, [], ◌∷◌, Option, Some, None, Bool, map}
use Rattle.std.specs.Option.{option_map}
use Rattle.std.specs.Ordering.{on}
use Rattle.bac_slots.specs.declared.slot.Slot.{Slot}
use Rattle.bac_slots.specs.Slots.{slot_seen}
use Rattle.bac_explain.specs.declared.key.TransactionKey.{TransactionKey}
use Rattle.bac_explain.specs.declared.transaction.Transaction.{Transaction}
use Rattle.bac_explain.specs.Keys.{same_key}
use Rattle.bac_explain.specs.KeyViews.{key_view}
use Rattle.bac_explain.specs.SentViews.{sent_view}
use Rattle.bac_explain.specs.Transactions.{TransactionView}
use Rattle.bac_explain.specs.Tables.{Transactions}

abbrev pub transaction_view : Transaction → TransactionView
transaction_view t = record {
  request = sent_view t.request;
  reused = t.reused;
  answer = option_map sent_view t.answer;
  broken_off = t.broken_off;
  naks = t.naks;
  gave_up = t.gave_up;
  findings = t.findings;
  told = t.told;
  steps = t.steps.items;
}

abbrev pub slots_view : List (Slot TransactionKey Transaction) → Transactions
slots_view slots = map (slot_seen key_view transaction_view) slots

-- whether two keys in code are equal
abbrev pub code_same_key : TransactionKey → TransactionKey → Bool
code_same_key = on key_view same_key

-- the key of the first of them
abbrev pub first_key : List (Slot TransactionKey Transaction) → Option TransactionKey
first_key [] = None
first_key (s ∷ slots) = Some s.key
