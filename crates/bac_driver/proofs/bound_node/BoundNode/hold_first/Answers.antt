-- The first turn.
use Rattle.std.proofs.Common.{◌∙◌, rules}
use Rattle.bac_driver.specs.Runs.{timed}
use Rattle.bac_driver.specs.Views.{turn_view}
use Rattle.bac_driver.proofs.ChangesOfTurns.{unchanged_one}
use Rattle.bac_driver.proofs.RoundsStopped.{first_stops, of_fault}
use Rattle.bac_driver.proofs.RoundsTaken.{held_one, no_calls}
use Rattle.bac_driver.proofs.bound_node.BoundNode.hold_first.Goals as goal

pub returns-then-not-is_before-clause-unsent : goal.returns-then-not-is_before-clause-unsent
returns-then-not-is_before-clause-unsent g c = no_calls _

pub returns-clause-taken : goal.returns-clause-taken
returns-clause-taken g c = λ is.
    held_one g.O.Observer.Sees c.args.wait_limit.now _ _ c.now-began.result (turn_view c.in_ok-turn.turn) _ _ c.node.result.now c.buffer.result.now
    (timed c.args.self.now (g.C.Clock.told c.args.clock.now)) _ _ c.clear.ensures.turns c.add.ensures.turns (search rules) (search rules) c.in_ok-turn.ensures.holds c.node.ensures c.buffer.ensures.octets c.on_turn.ensures

pub returns-clause-same : goal.returns-clause-same
returns-clause-same g c = λ none.
    c.add.ensures.keeper
    ∙ c.in_ok-turn.ensures.same (unchanged_one _ _ _ c.clear.ensures.turns c.add.ensures.turns none)
    ∙ c.clear.ensures.keeper

pub returns-in_err-turn-clause-stopped : goal.returns-in_err-turn-clause-stopped
returns-in_err-turn-clause-stopped g c =
    of_fault _ c.from_residual.result _ c.from_residual.ensures.1
    (first_stops _ c.args.wait_limit.now c.now-began.result (timed c.args.self.now (g.C.Clock.told c.args.clock.now)) _ _ (search rules) (search rules)
    c.in_err-turn.ensures.stopped)
