-- The world says why the ask did not happen.
use Rattle.std.proofs.Common.{refl}
use Rattle.bac_apdu.specs.Views.{limits_view}
use Rattle.bac_service.specs.Views.{owned_request_view}
use Rattle.bac_world.specs.World.Event.{Ask}
use Rattle.bac_network.specs.Histories.{as_world}
use Rattle.bac_network.specs.Steps.{IsFault}
use Rattle.bac_network.proofs.WorldRunning.{fault_is}
use Rattle.bac_network.proofs.StraightGoing.{told_why}
use Rattle.bac_network.proofs.running.ask.Goals as goal

pub returns-in_err-step-clause-fault : goal.returns-in_err-step-clause-fault
returns-in_err-step-clause-fault c =
    let w = c.args.world.now in
    let event = Ask c.args.client c.args.server (limits_view c.args.limits) (owned_request_view c.args.request) in
    told_why _ (λ f. IsFault f w.overtake (as_world w) event) _ c.from_residual.result c.from_residual.ensures.1
    (fault_is _ w _ _ refl c.in_err-step.ensures.faults)
