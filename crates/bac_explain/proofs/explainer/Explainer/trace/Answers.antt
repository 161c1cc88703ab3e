-- The transaction is updated in its slot; if an allocation fails, it is unchanged.
use Rattle.std.proofs.Common.{◌≡◌, refl, ap, None, Option, Result, Ok, Err, OnOk, OnErr}
use Rattle.std.specs.declared.alloc.AllocError.{AllocError}
use Rattle.bac_slots.specs.Slots.{with_value}
use Rattle.bac_explain.specs.declared.step.Step.{Step}
use Rattle.bac_explain.specs.Keys.{Key, same_key}
use Rattle.bac_explain.specs.Transactions.{TransactionView, traced}
use Rattle.bac_explain.specs.Views.{slots_view, transaction_view}
use Rattle.bac_explain.specs.KeyViews.{key_view}
use Rattle.bac_explain.specs.Tables.{Heard, Transactions, awaited, traced_in, with_step}
use Rattle.bac_explain.proofs.Hearing.{alive_of, goes_heard, none_heard, same_slots}
use Rattle.bac_explain.proofs.explainer.Explainer.trace.Goals as goal

-- the same as the result of an APDU
abbrev step_heard : Key → Step → Option TransactionView → Transactions → Heard
step_heard key step t slots = record { slots = traced_in key step t slots; closed = None; finding = None }

abbrev slots_of : Heard → Transactions
slots_of h = h.slots

pub returns-in_default-clause-ok : goal.returns-in_default-clause-ok
returns-in_default-clause-ok c =
    ap slots_of (none_heard (step_heard (key_view c.args.key.now) c.args.step) c.args.now c.args.key.now c.self.inside.table.0 _ c.args.self.now None
    c.self.view_is c.in_default.ensures.value c.get_mut.follows.holds-at-none.0 refl)

pub returns-clause-ok : goal.returns-clause-ok
returns-clause-ok c = go c.trace.result c.trace.ensures.ok
  where
    go : (r : Result Unit AllocError) → OnOk r (transaction_view c.trace.new.self ≡ traced c.args.step (transaction_view c.in-Some.transaction.now))
        → OnOk r (slots_view (c.get_mut.follows.lender c.trace.new.self).0 ≡ with_step c.args.now (key_view c.args.key.now) c.args.step c.args.self.now)
    go (Err e) is = tt
    go (Ok f) is =
        ap slots_of (goes_heard (step_heard (key_view c.args.key.now) c.args.step) c.args.now c.args.key.now c.self.inside.table.0 _
        c.args.self.now c.in-Some.transaction.now c.trace.new.self None c.self.view_is
        (alive_of c.is_awaited.result (awaited c.args.now (key_view c.args.key.now) c.args.self.now) c.if-not-is_awaited.false c.is_awaited.ensures)
        c.in-Some.ensures.value (c.get_mut.follows.holds c.trace.new.self).0
        (λ i. record {
          slots = with_value same_key (key_view c.args.key.now) (is i) (slots_view c.self.inside.table.0);
          closed = None;
          finding = None;
        }))

pub returns-clause-err : goal.returns-clause-err
returns-clause-err c = go c.trace.result c.trace.ensures.err
  where
    go : (r : Result Unit AllocError) → OnErr r (transaction_view c.trace.new.self ≡ transaction_view c.in-Some.transaction.now)
        → OnErr r (slots_view (c.get_mut.follows.lender c.trace.new.self).0 ≡ c.args.self.now)
    go (Ok f) same = tt
    go (Err e) same =
        same_slots c.args.key.now c.self.inside.table.0 _ c.args.self.now c.in-Some.transaction.now c.trace.new.self c.self.view_is
        c.in-Some.ensures.value (c.get_mut.follows.holds c.trace.new.self).0 same
