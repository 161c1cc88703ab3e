-- One clock begins anew.
use Rattle.std.proofs.Common.{◌<◌, length, sym, ap, subst, ◌∙◌}
use Rattle.bac_world.specs.World.{with_clock}
use Rattle.bac_journal.specs.Clocks.{restart_at, time_of}
use Rattle.bac_journal.specs.Journals.{JournalView}
use Rattle.bac_journal.proofs.journal.Journal.restart_clock.Goals as goal

pub restart-requires : goal.restart-requires
restart-requires c = (
  c.self.inside.moment,
  length c.self.inside.links.items,
  subst (λ (v : JournalView). c.args.node < length v.links) (sym c.self.view_is) c.requires,
  c.self.invariant.2,
)

pub invariant_of-self : goal.invariant_of-self
invariant_of-self c =
    (c.self.invariant.0, c.self.invariant.1, c.restart.ensures.going c.self.inside.moment (length c.self.inside.links.items) c.self.invariant.2, c.self.invariant.3)

pub returns-clause-time : goal.returns-clause-time
returns-clause-time c =
    c.restart.ensures.time c.self.inside.moment (length c.self.inside.links.items) c.self.invariant.2
    ∙ ap (λ (v : JournalView). with_clock (time_of v.moment v.own) c.args.node (restart_at v.moment v.own)) c.self.view_is
