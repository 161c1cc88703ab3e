-- What comes of it enters the world.
use Rattle.std.proofs.Common.{ap, ◌∙◌, arith}
use Rattle.std.proofs.lemmas.List.{with_items_is}
use Rattle.std.specs.Vec.{with_items}
use Rattle.bac_node.specs.Views.{outcome_view}
use Rattle.bac_journal.specs.Journals.{JournalView}
use Rattle.bac_network.specs.Clocks.{instant, time_at}
use Rattle.bac_network.specs.Networks.{world_with}
use Rattle.bac_network.specs.Rules.{reuses_by}
use Rattle.bac_network.specs.Views.{log_view}
use Rattle.bac_network.specs.declared.network.Network.{Network}
use Rattle.bac_network.proofs.Delivered.{gone_read, stranger_enters, stranger_heard}
use Rattle.bac_network.proofs.Happening.{on_err}
use Rattle.bac_network.proofs.network.Network.hear_with_room.Goals as goal

pub enter-requires : goal.enter-requires
enter-requires c =
    let n = c.args.self.now in
    let new : Network = record n { nodes = with_items n.nodes c.hear.new.nodes } in
    let items = with_items_is n.nodes c.hear.new.nodes (omega arith) in
    let at = gone_read new c.args.node _ c.deref_mut.result.now c.hear.new.nodes items c.in_ok-outcome.ensures.went c.index.result.now c.index.ensures in
    let k = stranger_enters (reuses_by c.args.reuses.now) n new c.args.node c.args.from c.args.octets.now (outcome_view c.in_ok-outcome.outcome)
    c.requires.stranger c.deref_mut.result.now c.deref_mut.ensures.value c.told-now.result c.told-now.ensures c.reuses_at-reuse.result
    c.reuses_at-reuse.ensures c.hear.new.nodes items c.in_ok-outcome.ensures.went c.index.result.now at c.args.window c.requires.ready.0
    c.requires.ready.1 in
    let sends = k.sends in
    let facts = k.facts in
    let room = c.requires.room.journal in
    let log_room = c.requires.room.log in
    record { can = k.can; sender = k.sender; room = omega (arith, sends, room); log_room = omega (arith, facts, log_room) }

pub returns-in_err-outcome-clause-err : goal.returns-in_err-outcome-clause-err
returns-in_err-outcome-clause-err c =
    let n = c.args.self.now in
    on_err c.from_residual.result
    (ap (λ l. world_with l n.journal (log_view n.log.items))
    (with_items_is n.nodes c.hear.new.nodes (omega arith) ∙ c.in_err-outcome.ensures.err ∙ c.deref_mut.ensures.value))

pub returns-clause-went : goal.returns-clause-went
returns-clause-went c =
    let n = c.args.self.now in
    let new : Network = record { nodes = with_items n.nodes c.hear.new.nodes; journal = c.enter.new.journal; log = c.enter.new.log } in
    let moved : Network = record n { nodes = with_items n.nodes c.hear.new.nodes } in
    let items = with_items_is n.nodes c.hear.new.nodes (omega arith) in
    let at = gone_read new c.args.node _ c.deref_mut.result.now c.hear.new.nodes items c.in_ok-outcome.ensures.went c.index.result.now c.index.ensures in
    stranger_heard (reuses_by c.args.reuses.now) n new c.args.node c.args.from c.args.octets.now (outcome_view c.in_ok-outcome.outcome) c.requires.stranger c.deref_mut.result.now
    c.deref_mut.ensures.value c.told-now.result c.told-now.ensures c.reuses_at-reuse.result c.reuses_at-reuse.ensures c.hear.new.nodes items c.in_ok-outcome.ensures.went c.index.result.now at
    (c.enter.ensures.entered n.nodes.items (c.requires.ready.1).linked)
    (stranger_enters (reuses_by c.args.reuses.now) n moved c.args.node c.args.from c.args.octets.now (outcome_view c.in_ok-outcome.outcome) c.requires.stranger
    c.deref_mut.result.now c.deref_mut.ensures.value c.told-now.result c.told-now.ensures c.reuses_at-reuse.result c.reuses_at-reuse.ensures c.hear.new.nodes items c.in_ok-outcome.ensures.went c.index.result.now at
    c.args.window c.requires.ready.0 c.requires.ready.1).kept
    (ap (λ (j : JournalView). time_at (instant j)) c.enter.ensures.same) (ap (λ (j : JournalView). j.notes) c.enter.ensures.same)
