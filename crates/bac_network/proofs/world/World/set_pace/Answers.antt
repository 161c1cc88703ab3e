-- The world is the same, and one clock goes on otherwise.
use Rattle.std.proofs.Common.{◌≡◌, ◌<◌, None, length, slice_get, sym, ap, subst, ◌∙◌, arith}
use Rattle.bac_journal.specs.Journals.{JournalView}
use Rattle.bac_journal.specs.Lives.{lives_at}
use Rattle.bac_network.specs.Histories.{WorldView, as_world}
use Rattle.bac_network.specs.Networks.{world_of}
use Rattle.bac_network.specs.Views.{log_view}
use Rattle.bac_network.specs.declared.network.Network.{Network}
use Rattle.bac_network.proofs.Delivered.{is_there, linked_within}
use Rattle.bac_network.proofs.Histories.{kept_same, ready_now}
use Rattle.bac_network.proofs.world.World.set_pace.Goals as goal

pub set_rate-requires-clause-there : goal.set_rate-requires-clause-there
set_rate-requires-clause-there c =
    let ready = ready_now c.self.inside.window c.self.inside.overtake c.self.inside.opening.items c.self.inside.reuses.items c.self.inside.network c.self.invariant in
    linked_within c.self.inside.network.nodes.items c.self.inside.network.journal.links ready.linked c.args.node (omega arith)

pub invariant_of-self : goal.invariant_of-self
invariant_of-self c =
    let new : Network = record { nodes = c.self.inside.network.nodes; journal = c.set_rate.new.self; log = c.self.inside.network.log } in
    kept_same c.self.inside.window c.self.inside.overtake c.self.inside.opening.items c.self.inside.reuses.items c.self.inside.network new
    (ap (λ (j : JournalView). j.links) c.set_rate.ensures.is) c.self.invariant
    (λ i. record {
      nodes = c.self.inside.network.nodes.items;
      time = c.set_rate.ensures.time i;
      lives = lives_at (c.set_rate.ensures.is i).lives;
      copies = (c.set_rate.ensures.is i).copies;
      log = log_view c.self.inside.network.log.items;
      notes = (c.set_rate.ensures.is i).notes;
    })

pub returns-clause-same : goal.returns-clause-same
returns-clause-same c =
    let new : Network = record { nodes = c.self.inside.network.nodes; journal = c.set_rate.new.self; log = c.self.inside.network.log } in
    let same : world_of new ≡ world_of c.self.inside.network = λ i. record {
      nodes = c.self.inside.network.nodes.items;
      time = c.set_rate.ensures.time i;
      lives = lives_at (c.set_rate.ensures.is i).lives;
      copies = (c.set_rate.ensures.is i).copies;
      log = log_view c.self.inside.network.log.items;
      notes = (c.set_rate.ensures.is i).notes;
    } in
    same ∙ ap as_world c.self.view_is

pub returns-clause-node : goal.returns-clause-node
returns-clause-node c = (
  λ e. absurd cc,
  λ none.
      let within : c.args.node < length c.self.inside.network.nodes.items = omega arith in
      absurd (is_there c.self.inside.network.nodes.items c.args.node within
      (subst (λ (v : WorldView). slice_get v.nodes c.args.node ≡ None) (sym c.self.view_is) none)),
)
