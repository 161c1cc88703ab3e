-- The transaction is updated in its slot.
use Rattle.bac_explain.specs.Transactions.{requested}
use Rattle.bac_explain.proofs.Hearing.{repeat_heard, repeat_none}
use Rattle.bac_explain.proofs.explainer.Explainer.repeat.Goals as goal

pub returns-in_default : goal.returns-in_default
returns-in_default c = λ t is. absurd (repeat_none c.args.key.now c.self.inside.table.0 c.args.self.now c.self.view_is c.in_default.ensures.value t is)

pub returns : goal.returns
returns c =
    repeat_heard c.args.key.now c.self.inside.table.0 _ c.args.self.now c.in-Some.transaction.now c.requested.new.self c.requested.result
    (requested c.args.now c.args.place c.args.number c.args.octets.now) c.self.view_is c.in-Some.ensures.value (c.get_mut.follows.holds c.requested.new.self).0
    c.requested.ensures.seen c.requested.ensures.finding
