-- The transaction is updated in its slot.
use Rattle.std.proofs.Common.{refl, ap, None, Option}
use Rattle.bac_slots.specs.Slots.{with_value}
use Rattle.bac_explain.specs.Keys.{Key, same_key}
use Rattle.bac_explain.specs.KeyViews.{key_view}
use Rattle.bac_explain.specs.Tables.{Heard, Transactions, awaited, told_in}
use Rattle.bac_explain.specs.Transactions.{TransactionView}
use Rattle.bac_explain.specs.Views.{slots_view}
use Rattle.bac_explain.proofs.Hearing.{alive_of, goes_heard, none_heard}
use Rattle.bac_explain.proofs.explainer.Explainer.tell.Goals as goal

-- the same as the result of an APDU
abbrev told_heard : Key → Option TransactionView → Transactions → Heard
told_heard key t slots = record { slots = told_in key t slots; closed = None; finding = None }

abbrev slots_of : Heard → Transactions
slots_of h = h.slots

pub returns-in_default : goal.returns-in_default
returns-in_default c =
    ap slots_of (none_heard (told_heard (key_view c.args.key.now)) c.args.now c.args.key.now c.self.inside.table.0 _ c.args.self.now None
    c.self.view_is c.in_default.ensures.value c.get_mut.follows.holds-at-none.0 refl)

pub returns : goal.returns
returns c =
    ap slots_of (goes_heard (told_heard (key_view c.args.key.now)) c.args.now c.args.key.now c.self.inside.table.0 _ c.args.self.now
    c.in-Some.transaction.now c.tell.new.self None c.self.view_is
    (alive_of c.is_awaited.result (awaited c.args.now (key_view c.args.key.now) c.args.self.now) c.if-not-is_awaited.false c.is_awaited.ensures)
    c.in-Some.ensures.value (c.get_mut.follows.holds c.tell.new.self).0
    (λ i. record {
      slots = with_value same_key (key_view c.args.key.now) (c.tell.ensures i) (slots_view c.self.inside.table.0);
      closed = None;
      finding = None;
    }))
