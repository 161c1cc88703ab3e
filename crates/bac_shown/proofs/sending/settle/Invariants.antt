use Rattle.std.proofs.Common.{◌≡◌, [], vec_len}
use Rattle.bac_shown.specs.Going.{Puts}
use Rattle.bac_shown.proofs.sending.settle.Given as goal

abbrev pub invariant-loop-waiting : goal.invariant-loop-waiting
invariant-loop-waiting g l = record {
  put : Puts l.form (g.W.Write.contents l.initial.under) (g.W.Write.contents l.under) l.initial.held.items l.held.items [] [];
  sent : l.waiting.items ≡ [];
}

abbrev pub decreases-loop-waiting : goal.decreases-loop-waiting
decreases-loop-waiting g l = vec_len l.held
