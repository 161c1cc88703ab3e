-- What comes of it enters the world.
use Rattle.std.proofs.Common.{ap, arith}
use Rattle.std.proofs.lemmas.List.{with_items_is}
use Rattle.std.specs.Vec.{with_items}
use Rattle.bac_node.specs.Views.{outcome_view}
use Rattle.bac_journal.specs.Journals.{JournalView}
use Rattle.bac_network.specs.Clocks.{instant, time_at}
use Rattle.bac_network.specs.declared.network.Network.{Network}
use Rattle.bac_network.proofs.Delivered.{gone_read, tick_enters, ticks}
use Rattle.bac_network.proofs.network.Network.make_tick.Goals as goal

pub enter-requires : goal.enter-requires
enter-requires c =
    let n = c.args.self.now in
    let new : Network = record n { nodes = with_items n.nodes c.commit.new.nodes } in
    let items = with_items_is n.nodes c.commit.new.nodes (omega arith) in
    let at = gone_read new c.args.node _ c.deref_mut.result.now c.commit.new.nodes items c.commit.ensures c.index.result.now c.index.ensures in
    let k = tick_enters c.requires.ready.0 c.requires.ready.1 n new c.requires.ready.2 c.args.node (outcome_view c.args.outcome) c.requires.due
    c.deref_mut.result.now c.deref_mut.ensures.value c.told.result c.told.ensures c.commit.new.nodes items c.commit.ensures c.index.result.now at in
    let facts = k.facts in
    let log_room = c.requires.room.log in
    record { can = k.can; sender = k.sender; room = c.requires.room.journal; log_room = omega (arith, facts, log_room) }

pub returns-clause-ticked : goal.returns-clause-ticked
returns-clause-ticked c =
    let n = c.args.self.now in
    let new : Network = record { nodes = with_items n.nodes c.commit.new.nodes; journal = c.enter.new.journal; log = c.enter.new.log } in
    let moved : Network = record n { nodes = with_items n.nodes c.commit.new.nodes } in
    let items = with_items_is n.nodes c.commit.new.nodes (omega arith) in
    let at = gone_read new c.args.node _ c.deref_mut.result.now c.commit.new.nodes items c.commit.ensures c.index.result.now c.index.ensures in
    ticks n new c.args.node (outcome_view c.args.outcome) c.requires.due c.deref_mut.result.now c.deref_mut.ensures.value c.told.result
    c.told.ensures c.commit.new.nodes items c.commit.ensures c.index.result.now at
    (c.enter.ensures.entered n.nodes.items (c.requires.ready.2).linked)
    (tick_enters c.requires.ready.0 c.requires.ready.1 n moved c.requires.ready.2 c.args.node (outcome_view c.args.outcome) c.requires.due
    c.deref_mut.result.now c.deref_mut.ensures.value c.told.result c.told.ensures c.commit.new.nodes items c.commit.ensures c.index.result.now at).kept
    (ap (λ (j : JournalView). time_at (instant j)) c.enter.ensures.same) (ap (λ (j : JournalView). j.notes) c.enter.ensures.same)
