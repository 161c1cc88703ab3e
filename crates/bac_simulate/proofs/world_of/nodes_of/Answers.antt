use Rattle.std.proofs.Common.{◌≡◌, ◌∙◌, ap, ◌<◌, ◌+◌, ◌-◌, List, [], ◌∷◌, ◌++◌, arith, refl}
use Rattle.bac_network.specs.Fresh.{Maker}
use Rattle.bac_simulate.specs.Houses.{maker_at, makers_from}
use Rattle.bac_simulate.proofs.Making.{one_made}
use Rattle.bac_simulate.proofs.world_of.nodes_of.Goals as goal

pub loop-node-preserved : goal.loop-node-preserved
loop-node-preserved c =
    let window = c.args.setting.now.window in
    let node = c.loop-node.node in
    let count = c.args.setting.now.nodes in
    let below : node < count = omega arith in
    let pushed : c.push.new.self.items ≡ c.loop-node.nodes.items ++ maker_at c.args.limits window node ∷ []
    = c.in_ok-push.ensures.items ∙ rw (c.link_of.ensures, c.in_ok-house.ensures) refl in
    ap (λ (made : List Maker). made ++ makers_from c.args.limits window (node + 1) (count - (node + 1))) pushed
    ∙ one_made c.args.limits window node count c.loop-node.nodes.items (makers_from c.args.limits window 0 count) below c.loop-node.invariant
