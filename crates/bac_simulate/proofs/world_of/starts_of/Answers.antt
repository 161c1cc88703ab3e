use Rattle.std.proofs.Common.{◌≡◌, ◌∙◌, ap, ◌<◌, ◌+◌, ◌-◌, ℕ, List, [], ◌∷◌, ◌++◌, map, arith, refl}
use Rattle.bac_simulate.specs.Houses.{start_after, starts_from}
use Rattle.bac_simulate.specs.Views.{line_view}
use Rattle.bac_simulate.proofs.Starting.{one_more_start}
use Rattle.bac_simulate.proofs.world_of.starts_of.Goals as goal

pub loop-node-preserved : goal.loop-node-preserved
loop-node-preserved c =
    let lines = map line_view c.args.lines.now in
    let node = c.loop-node.node in
    let count = c.args.nodes in
    let below : node < count = omega arith in
    let pushed : c.push.new.self.items ≡ c.loop-node.starts.items ++ start_after node 0 lines ∷ [] = c.in_ok-push.ensures.items ∙ rw (c.start_of.ensures) refl in
    ap (λ (made : List ℕ). made ++ starts_from lines (node + 1) (count - (node + 1))) pushed
    ∙ one_more_start lines node count c.loop-node.starts.items (starts_from lines 0 count) below c.loop-node.invariant
