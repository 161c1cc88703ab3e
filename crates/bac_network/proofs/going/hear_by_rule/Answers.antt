-- By the rules of its setting it hears as such a node.
use Rattle.std.proofs.Common.{subst}
use Rattle.bac_node.specs.Serving.{NodeServes}
use Rattle.bac_node.specs.Views.{outcome_view}
use Rattle.bac_transaction.specs.Views.{rules_view}
use Rattle.bac_transaction.specs.declared.rules.Rules.{Rules}
use Rattle.bac_network.proofs.Rules.{hears_so, ok_as}
use Rattle.bac_network.proofs.going.hear_by_rule.Goals as goal

pub returns-clause-went : goal.returns-clause-went
returns-clause-went c =
    ok_as c.hear.result
    (λ o h.
    hears_so c.hears_by_rules.ensures.worlds c.hears_by_rules.ensures.given c.args.reuse o.turned_away c.args.now c.args.from c.args.octets.now c.args.node.now
    c.hear.new.self (outcome_view o)
    (subst (λ (r : Rules). NodeServes (rules_view r) o.turned_away c.args.now c.args.from c.args.octets.now c.args.node.now c.hear.new.self (outcome_view o))
    c.of-rules.ensures h)) c.hear.ensures.went
