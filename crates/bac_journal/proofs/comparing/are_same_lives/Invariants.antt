-- The first so many lives are the same.
use Rattle.bac_store.proofs.Equal.{AreSameUpTo}
use Rattle.bac_journal.specs.declared.lives.Life.{Life}
use Rattle.bac_journal.proofs.comparing.are_same_lives.Given as goal

abbrev pub invariant-loop-at : goal.invariant-loop-at
invariant-loop-at l = AreSameUpTo (λ (c : Life). c) l.at l.ones l.others
