-- The n-th slot fails.
use Rattle.std.proofs.Common.{rules}
use Rattle.bac_slots.proofs.sweeping.failing_at.Goals as goal

pub returns-else-passes : goal.returns-else-passes
returns-else-passes g c = (_, c.in-Some.ensures, search rules, search rules)
