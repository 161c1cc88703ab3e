-- The strict rules are those of a node that is told none.
use Rattle.std.proofs.Common.{ap}
use Rattle.bac_transaction.specs.Views.{rules_view}
use Rattle.bac_node.proofs.Rules.{as_returned, as_told}
use Rattle.bac_node.proofs.node.Node.on.Goals as goal

pub returns-clause-went : goal.returns-clause-went
returns-clause-went c =
    as_returned (rules_view c.strict.result) (ap rules_view c.strict.ensures) c.args.now c.args.from c.args.octets.now _ _ c.hear.result c.hear.ensures.went

pub returns-clause-away : goal.returns-clause-away
returns-clause-away c =
    as_told (rules_view c.strict.result) (ap rules_view c.strict.ensures) c.args.now c.args.from c.args.octets.now _ _ c.hear.result c.hear.ensures.went
