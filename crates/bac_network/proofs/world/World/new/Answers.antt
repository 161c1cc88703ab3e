-- Its nodes have no rules of their own.
use Rattle.std.proofs.Common.{◌≡◌, Bool, IfOk, List, subst}
use Rattle.bac_network.specs.Fresh.{ruled_world}
use Rattle.bac_network.proofs.world.World.new.Goals as goal

pub returns-clause-made : goal.returns-clause-made
returns-clause-made c =
    subst (λ (l : List Bool). IfOk c.made.result (λ w. w ≡ ruled_world c.args.overtake l c.args.nodes.items)) c.new.ensures.items c.made.ensures.made
