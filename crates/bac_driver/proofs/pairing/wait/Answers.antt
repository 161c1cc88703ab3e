use Rattle.std.proofs.Common.{◌∙◌, ap}
use Rattle.bac_requester.specs.TransactionViews.{ending_view}
use Rattle.bac_driver.specs.Asking.{ending_in}
use Rattle.bac_driver.specs.Pairs.{TakesRound, turn_of_first}
use Rattle.bac_driver.proofs.Loops.{none_told, one_more_waited}
use Rattle.bac_driver.proofs.pairing.wait.Goals as goal

pub loop-preserved : goal.loop-preserved
loop-preserved g c =
    one_more_waited TakesRound turn_of_first c.loop.counter c.args.ticket c.in_ok-turn.ensures.taken.round _ _ _ c.loop.invariant
    c.in_ok-turn.ensures.taken.takes
    (none_told ending_view c.ending_in.result _ c.in_default.not-Some (c.ending_in.ensures ∙ ap (ending_in c.args.ticket) c.in_ok-turn.ensures.taken.is))
