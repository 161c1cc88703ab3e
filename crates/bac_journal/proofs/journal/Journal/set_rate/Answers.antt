-- One clock has another rate.
use Rattle.std.proofs.Common.{◌<◌, length, sym, ap, subst, ◌∙◌}
use Rattle.bac_journal.specs.Clocks.{time_of}
use Rattle.bac_journal.specs.Journals.{JournalView}
use Rattle.bac_journal.proofs.journal.Journal.set_rate.Goals as goal

pub set_rate-requires-clause-going : goal.set_rate-requires-clause-going
set_rate-requires-clause-going c = (
  c.self.inside.moment,
  length c.self.inside.links.items,
  subst (λ (v : JournalView). c.args.node < length v.links) (sym c.self.view_is) c.requires.there,
  c.self.invariant.2,
)

pub invariant_of-self : goal.invariant_of-self
invariant_of-self c =
    (c.self.invariant.0, c.self.invariant.1, c.set_rate.ensures.going c.self.inside.moment (length c.self.inside.links.items) c.self.invariant.2, c.self.invariant.3)

pub returns-clause-time : goal.returns-clause-time
returns-clause-time c =
    c.set_rate.ensures.time c.self.inside.moment (length c.self.inside.links.items) c.self.invariant.2
    ∙ ap (λ (v : JournalView). time_of v.moment v.own) c.self.view_is
