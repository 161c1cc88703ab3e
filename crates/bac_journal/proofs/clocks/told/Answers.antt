-- The node's own clock tells it.
use Rattle.std.proofs.Common.{sym, ◌∙◌}
use Rattle.bac_journal.specs.Clocks.{clock_of, view_of_own}
use Rattle.bac_journal.proofs.clocks.told.Goals as goal

pub returns-in-Some : goal.returns-in-Some
returns-in-Some c = c.told.ensures c.args.moment ∙ (λ i. (clock_of c.args.moment (view_of_own (sym c.in-Some.is i)) c.args.node).shows)
