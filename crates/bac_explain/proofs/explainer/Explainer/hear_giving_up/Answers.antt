-- The transaction is updated in its slot.
use Rattle.std.proofs.Common.{refl, None}
use Rattle.bac_slots.specs.Slots.{with_value}
use Rattle.bac_explain.specs.Keys.{same_key}
use Rattle.bac_explain.specs.Views.{slots_view}
use Rattle.bac_explain.specs.KeyViews.{key_view}
use Rattle.bac_explain.specs.Tables.{giving_up_heard, awaited}
use Rattle.bac_explain.proofs.Hearing.{alive_of, goes_heard, none_heard}
use Rattle.bac_explain.proofs.explainer.Explainer.hear_giving_up.Goals as goal

pub returns-in_default : goal.returns-in_default
returns-in_default c =
    none_heard (giving_up_heard (key_view c.args.key.now)) c.args.now c.args.key.now c.self.inside.table.0 _ c.args.self.now _
    c.self.view_is c.in_default.ensures.value c.get_mut.follows.holds-at-none.0 refl

pub returns : goal.returns
returns c =
    goes_heard (giving_up_heard (key_view c.args.key.now)) c.args.now c.args.key.now c.self.inside.table.0 _ c.args.self.now
    c.in-Some.transaction.now c.given_up.new.self None c.self.view_is
    (alive_of c.is_awaited.result (awaited c.args.now (key_view c.args.key.now) c.args.self.now) c.if-not-is_awaited.false c.is_awaited.ensures)
    c.in-Some.ensures.value (c.get_mut.follows.holds c.given_up.new.self).0
    (λ i. record {
      slots = with_value same_key (key_view c.args.key.now) (c.given_up.ensures i) (slots_view c.self.inside.table.0);
      closed = None;
      finding = None;
    })
