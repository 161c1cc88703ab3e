use Rattle.std.proofs.Common.{[], vec_len}
use Rattle.bac_shown.specs.Going.{Follows}
use Rattle.bac_shown.proofs.sending.send.Given as goal

abbrev pub invariant-loop-under : goal.invariant-loop-under
invariant-loop-under g l = Follows (g.W.Write.contents l.initial.under) (g.W.Write.contents l.under) l.initial.waiting.items l.waiting.items []

abbrev pub decreases-loop-under : goal.decreases-loop-under
decreases-loop-under g l = vec_len l.waiting
