-- Its nodes have no rules of their own.
use Rattle.std.proofs.Common.{◌≡◌, Bool, IfOk, List, subst}
use Rattle.bac_network.specs.Fresh.{ruled_clock_world}
use Rattle.bac_network.proofs.world.World.with_clocks.Goals as goal

pub returns-clause-made : goal.returns-clause-made
returns-clause-made c =
    subst
    (λ (l : List Bool). IfOk c.with_clocks_and_rules.result
    (λ w. w ≡ ruled_clock_world c.args.overtake l c.args.nodes.items c.args.pace.drift c.args.pace.life c.args.starts.now)) c.new.ensures.items
    c.with_clocks_and_rules.ensures.made
