-- Octets that mean nothing are heard, and others are lost.
use Rattle.std.proofs.Common.{◌≡◌, ◌<◌, length, true, false, refl, inr, arith}
use Rattle.bac_world.specs.Laws.{IsMeaningless}
use Rattle.bac_network.proofs.Delivered.{linked_within, there_is}
use Rattle.bac_network.proofs.network.Network.hear_noise.Goals as goal

pub returns-else-is_meaningless-clause-happens : goal.returns-else-is_meaningless-clause-happens
returns-else-is_meaningless-clause-happens c = λ overtake.
    let within : c.args.node < length c.args.self.now.nodes.items = omega arith in
    let a = there_is c.args.self.now.nodes.items c.args.node within in
    let no : IsMeaningless c.args.from c.args.octets.now → ⊥ =
    λ noise. (let t : false ≡ true = c.if-is_meaningless.ensures.1 noise in cc) in
    (inr (record { node = a.0; at = a.1; unfit = no; same = refl }), λ x. x, λ x. x)

pub drop_noise-requires-clause-noise : goal.drop_noise-requires-clause-noise
drop_noise-requires-clause-noise c = c.if-is_meaningless.ensures.0 refl

pub drop_noise-requires-clause-punctual : goal.drop_noise-requires-clause-punctual
drop_noise-requires-clause-punctual c = (c.requires.2).can.punctual

pub drop_noise-requires-clause-linked : goal.drop_noise-requires-clause-linked
drop_noise-requires-clause-linked c =
    linked_within c.args.self.now.nodes.items c.args.self.now.journal.links (c.requires.2).linked c.args.node (omega arith)
