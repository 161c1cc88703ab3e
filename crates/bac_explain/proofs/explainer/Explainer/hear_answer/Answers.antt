-- The transaction is updated in its slot; if an allocation fails, it is unchanged.
use Rattle.std.proofs.Common.{◌≡◌, refl, None, Option, Result, Ok, Err, IfOk, OnErr}
use Rattle.std.specs.declared.alloc.AllocError.{AllocError}
use Rattle.bac_slots.specs.Slots.{with_value}
use Rattle.bac_explain.specs.declared.finding.Finding.{Finding}
use Rattle.bac_explain.specs.Keys.{same_key}
use Rattle.bac_explain.specs.Transactions.{answered}
use Rattle.bac_explain.specs.Views.{slots_view, transaction_view}
use Rattle.bac_explain.specs.KeyViews.{key_view}
use Rattle.bac_explain.specs.Tables.{answer_heard, awaited}
use Rattle.bac_explain.proofs.Hearing.{alive_of, goes_heard, none_heard, same_slots}
use Rattle.bac_explain.proofs.explainer.Explainer.hear_answer.Goals as goal

pub returns-in_default-clause-ok : goal.returns-in_default-clause-ok
returns-in_default-clause-ok c =
    none_heard (answer_heard c.args.now (key_view c.args.key.now) c.args.number c.args.octets.now) c.args.now c.args.key.now c.self.inside.table.0 _ c.args.self.now _
    c.self.view_is c.in_default.ensures.value c.get_mut.follows.holds-at-none.0 refl

pub returns-clause-ok : goal.returns-clause-ok
returns-clause-ok c = go c.answered.result c.answered.ensures.seen c.answered.ensures.finding
  where
    go : (r : Result (Option Finding) AllocError)
        → IfOk r (λ f. transaction_view c.answered.new.self ≡ (answered c.args.now c.args.number c.args.octets.now (transaction_view c.in-Some.transaction.now)).0)
        → IfOk r (λ f. f ≡ (answered c.args.now c.args.number c.args.octets.now (transaction_view c.in-Some.transaction.now)).1)
        → IfOk r (λ f. record { slots = slots_view (c.get_mut.follows.lender c.answered.new.self).0; closed = None; finding = f }
        ≡ answer_heard c.args.now (key_view c.args.key.now) c.args.number c.args.octets.now (awaited c.args.now (key_view c.args.key.now) c.args.self.now) c.args.self.now)
    go (Err e) seen finding = tt
    go (Ok f) seen finding =
        goes_heard (answer_heard c.args.now (key_view c.args.key.now) c.args.number c.args.octets.now) c.args.now c.args.key.now c.self.inside.table.0 _
        c.args.self.now c.in-Some.transaction.now c.answered.new.self f c.self.view_is
        (alive_of c.is_awaited.result (awaited c.args.now (key_view c.args.key.now) c.args.self.now) c.if-not-is_awaited.false c.is_awaited.ensures)
        c.in-Some.ensures.value (c.get_mut.follows.holds c.answered.new.self).0
        (λ i. record {
          slots = with_value same_key (key_view c.args.key.now) (seen i) (slots_view c.self.inside.table.0);
          closed = None;
          finding = finding i;
        })

pub returns-clause-err : goal.returns-clause-err
returns-clause-err c = go c.answered.result c.answered.ensures.err
  where
    go : (r : Result (Option Finding) AllocError) → OnErr r (transaction_view c.answered.new.self ≡ transaction_view c.in-Some.transaction.now)
        → OnErr r (slots_view (c.get_mut.follows.lender c.answered.new.self).0 ≡ c.args.self.now)
    go (Ok f) same = tt
    go (Err e) same =
        same_slots c.args.key.now c.self.inside.table.0 _ c.args.self.now c.in-Some.transaction.now c.answered.new.self c.self.view_is
        c.in-Some.ensures.value (c.get_mut.follows.holds c.answered.new.self).0 same
