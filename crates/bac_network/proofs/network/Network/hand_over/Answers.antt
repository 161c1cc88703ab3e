-- What comes of it enters the world.
use Rattle.std.proofs.Common.{ap, arith}
use Rattle.std.proofs.lemmas.List.{with_items_is}
use Rattle.std.specs.Vec.{with_items}
use Rattle.bac_journal.specs.Journals.{JournalView}
use Rattle.bac_network.specs.Clocks.{instant, time_at}
use Rattle.bac_network.specs.Rules.{reuses_by}
use Rattle.bac_network.specs.declared.network.Network.{Network}
use Rattle.bac_network.proofs.Delivered.{copy_enters, arrives, node_read, receiver_there}
use Rattle.bac_network.proofs.network.Network.hand_over.Goals as goal

pub enter-requires : goal.enter-requires
enter-requires c =
    let W = c.args.window in
    let n = c.args.self.now in
    let m = c.requires.ready.2 in
    let there = receiver_there (reuses_by c.args.reuses.now) W c.requires.ready.0 n c.requires.ready.1 c.args.number m _ _ _ _ c.in_ok-to.ensures.heard in
    let at = node_read c.hear_copy.new.nodes _ (with_items_is n.nodes c.hear_copy.new.nodes (omega arith)) _ c.index.result.now there c.index.ensures in
    let k = copy_enters (reuses_by c.args.reuses.now) W c.requires.ready.0 n c.requires.ready.1 c.args.number m c.deref_mut.result.now
    c.deref_mut.ensures.value _ _ _ c.in_ok-to.ensures.heard c.index.result.now at in
    let sends = k.sends in
    let facts = k.facts in
    let room = c.requires.room.journal in
    let log_room = c.requires.room.log in
    record { can = k.can; sender = k.sender; room = omega (arith, sends, room); log_room = omega (arith, facts, log_room) }

pub returns-clause-went : goal.returns-clause-went
returns-clause-went c =
    let n = c.args.self.now in
    let new : Network = record { nodes = with_items n.nodes c.hear_copy.new.nodes; journal = c.enter.new.journal; log = c.enter.new.log } in
    let items = with_items_is n.nodes c.hear_copy.new.nodes (omega arith) in
    let there = receiver_there (reuses_by c.args.reuses.now) c.args.window c.requires.ready.0 n c.requires.ready.1 c.args.number c.requires.ready.2 _ _ _ _ c.in_ok-to.ensures.heard in
    let at = node_read c.hear_copy.new.nodes _ items _ c.index.result.now there c.index.ensures in
    arrives (reuses_by c.args.reuses.now) n new c.args.number _ _ c.deref_mut.result.now c.deref_mut.ensures.value c.hear_copy.new.nodes items c.in_ok-to.ensures.heard c.index.result.now
    (rw items at) (c.enter.ensures.entered n.nodes.items (c.requires.ready.1).linked)
    (copy_enters (reuses_by c.args.reuses.now) c.args.window c.requires.ready.0 n c.requires.ready.1 c.args.number c.requires.ready.2 c.deref_mut.result.now
    c.deref_mut.ensures.value _ _ _ c.in_ok-to.ensures.heard c.index.result.now at).kept
    (ap (λ (j : JournalView). time_at (instant j)) c.enter.ensures.same) (ap (λ (j : JournalView). j.notes) c.enter.ensures.same)
