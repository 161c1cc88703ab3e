-- It is heard, and dropped.
use Rattle.std.proofs.Common.{refl, arith}
use Rattle.std.proofs.lemmas.List.{with_items_is}
use Rattle.std.specs.Vec.{with_items}
use Rattle.bac_node.specs.Views.{outcome_view}
use Rattle.bac_network.specs.Rules.{reuses_by}
use Rattle.bac_network.specs.declared.network.Network.{Network}
use Rattle.bac_network.proofs.Delivered.{noise_heard}
use Rattle.bac_network.proofs.network.Network.drop_noise.Goals as goal

pub returns-clause-heard : goal.returns-clause-heard
returns-clause-heard c =
    let new : Network = record (c.args.self.now) { nodes = with_items c.args.self.now.nodes c.hear.new.nodes; journal = c.act.new.self } in
    noise_heard (reuses_by c.args.reuses.now) c.args.self.now new c.args.node c.args.from c.args.octets.now (outcome_view c.in-Ok._outcome) c.requires.noise c.deref_mut.result.now
    c.deref_mut.ensures.value c.told-now.result c.told-now.ensures c.reuses_at-reuse.result c.reuses_at-reuse.ensures c.hear.new.nodes
    (with_items_is c.args.self.now.nodes c.hear.new.nodes (omega arith)) c.in-Ok.ensures.went c.act.ensures.is c.act.ensures.lives refl
