-- Another program begins with that store.
use Rattle.std.proofs.Common.{◌∷◌, ap, ◌∙◌, arith}
use Rattle.std.proofs.lemmas.List.{with_items_is}
use Rattle.std.specs.Vec.{with_items}
use Rattle.bac_world.specs.Once.Fact.{Restarted}
use Rattle.bac_world.specs.World.{with_clock}
use Rattle.bac_journal.specs.Clocks.{restart_at, time_of}
use Rattle.bac_journal.specs.Journals.{JournalView}
use Rattle.bac_journal.specs.Lives.{lives_at}
use Rattle.bac_network.specs.Views.{log_view}
use Rattle.bac_network.specs.declared.network.Network.{Network}
use Rattle.bac_network.proofs.Entered.{log_push}
use Rattle.bac_network.proofs.Restarted.{node_replaced}
use Rattle.bac_network.proofs.network.Network.make_replacement.Goals as goal

pub returns-clause-begun : goal.returns-clause-begun
returns-clause-begun c =
    let new : Network =
    record { nodes = with_items c.args.self.now.nodes c.replace_node.new.nodes; journal = c.restart_clock.new.self; log = c.push_reserved.new.self } in
    node_replaced c.args.self.now new c.args.node c.told_at_restart-now.result c.args.first_id c.args.given c.deref_mut.result.now c.deref_mut.ensures.value
    c.replace_node.new.nodes (with_items_is c.args.self.now.nodes c.replace_node.new.nodes (omega arith)) c.told_at_restart-now.ensures
    c.in_ok-replace_node.ensures.went c.requires.quiet
    (c.restart_clock.ensures.time
    ∙ ap (λ (j : JournalView). with_clock (time_of j.moment j.own) c.args.node (restart_at j.moment j.own)) c.act.ensures.is)
    (ap (λ (j : JournalView). lives_at j.lives) c.restart_clock.ensures.is ∙ c.act.ensures.lives)
    (ap (λ (j : JournalView). j.copies) c.restart_clock.ensures.is ∙ ap (λ (j : JournalView). j.copies) c.act.ensures.is)
    (ap (λ (j : JournalView). j.notes) c.restart_clock.ensures.is ∙ ap (λ (j : JournalView). j.notes) c.act.ensures.is)
    (ap log_view c.push_reserved.ensures.items ∙ log_push c.args.self.now.log.items _
    ∙ ap (λ s. Restarted c.args.node s ∷ log_view c.args.self.now.log.items) c.requires.kept)
