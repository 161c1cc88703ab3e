-- As many copies were delivered as it tells.
use Rattle.bac_network.specs.Going.{IsStuck}
use Rattle.bac_network.proofs.StraightGoing.{told_why}
use Rattle.bac_network.proofs.running.deliver_all.Goals as goal

pub returns-in_err-deliveries : goal.returns-in_err-deliveries
returns-in_err-deliveries c = told_why _ (λ f. IsStuck f c.args.ask c.args.since c.args.first c.args.world.now c.deliver_each.new.world) _
    c.from_residual.result c.from_residual.ensures.1 c.in_err-deliveries.ensures
