-- The ending has the number of an ask, and is a node's or a stranger's as that ask is.
use Rattle.std.proofs.Common.{Bool, ◌∷◌, sym, ap, ◌∙◌}
use Rattle.bac_requester.specs.Views.{ended_view}
use Rattle.bac_world.specs.Once.{Fact}
use Rattle.bac_world.specs.World.{ending_fact}
use Rattle.bac_network.specs.Views.{log_view}
use Rattle.bac_network.proofs.Entered.{ending_logged, log_push}
use Rattle.bac_network.proofs.logging.log_ending.Goals as goal

pub returns-clause-log : goal.returns-clause-log
returns-clause-log c =
    let kind = c.ending_fact.ensures ∙ ap (λ (b : Bool). ending_fact b c.in-Some.number (ended_view c.args.finish).how) c.is_away.ensures in
    ending_logged c.args.journal.now.notes c.args.node (ended_view c.args.finish) c.in-Some.number (sym c.in-Some.ensures) _ _
    (ap log_view c.push_reserved.ensures.items ∙ log_push c.args.log.now.items _ ∙ ap (λ (f : Fact). f ∷ log_view c.args.log.now.items) kind)
