-- The abstract values of a closed transaction, and of the result of an APDU.
use Rattle.std.specs.Prelude.{◌≡◌}
use Rattle.std.specs.Option.{option_map}
use Rattle.bac_explain.specs.declared.table.Closed.{Closed}
use Rattle.bac_explain.specs.KeyViews.{key_view}
use Rattle.bac_explain.specs.declared.key.TransactionKey.{TransactionKey}
use Rattle.bac_explain.specs.declared.transaction.Transaction.{Transaction}
use Rattle.bac_explain.specs.declared.explainer.Heard as code
use Rattle.bac_explain.specs.Tables.{Transactions, ClosedView, Heard}
use Rattle.bac_explain.specs.Views.{transaction_view}

abbrev pub told_view : TransactionKey → Transaction → ClosedView
told_view key t = record { key = key_view key; transaction = transaction_view t }

abbrev pub closed_view : Closed → ClosedView
closed_view c = told_view c.key c.transaction

-- the result of an APDU, and the transactions after it
abbrev pub heard_view : (slots : Transactions) → code.Heard → Heard
heard_view slots h = record { slots = slots; closed = option_map closed_view h.closed; finding = h.finding }

abbrev pub IsHeard : Heard → (slots : Transactions) → code.Heard → Type 0
IsHeard expected slots h = heard_view slots h ≡ expected
