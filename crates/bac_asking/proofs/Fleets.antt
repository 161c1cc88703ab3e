-- The nodes of a client that asks lines several at once.
use Rattle.std.proofs.Common.{◌≡◌, ℕ, [], ◌∷◌, Option, Some, Result, Ok, Err, ◌∙◌, slice_get, slice_set}
use Rattle.std.specs.Prelude.{IfOk}
use Rattle.bac_driver.specs.BoundNodes.{BoundNode}
use Rattle.bac_driver.specs.Moments.{Told}
use Rattle.bac_driver.specs.Runs.{timed}
use Rattle.bac_driver.specs.declared.fault.TurnFault.{TurnFault}
use Rattle.bac_driver.specs.declared.turn.Turn.{Turn}
use Rattle.bac_driver.specs.declared.wait_limit.WaitLimit.{WaitLimit}
use Rattle.bac_asking.specs.Fleets.{Fleet, IsTurnAt, IsTurnOr, Leaving}

-- the node at that place took a turn, and the others stay
pub turn_there : (at : ℕ) (p : WaitLimit) (r : Result (Option Turn) TurnFault) (before after : Told) (old new : Fleet) (leaving : Leaving) (bound_node : BoundNode)
    → slice_get old.leaving at ≡ Some leaving
    → new ≡ record old { leaving = slice_set old.leaving at (record { number = leaving.number; bound_node = bound_node }) }
    → IfOk r (λ turn. IsTurnOr p turn (timed leaving.bound_node before) (timed bound_node after)) → IfOk r (λ turn. IsTurnAt at p turn before after old new)
turn_there at p (Err fault) before after old new leaving bound_node is fleet turned = tt
turn_there at p (Ok turn) before after old new leaving bound_node is fleet turned =
    record { leaving = leaving; is = is; bound_node = bound_node; turned = turned; fleet = fleet }
