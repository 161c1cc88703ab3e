-- The first so many copies are the same.
use Rattle.bac_store.proofs.Equal.{AreSameUpTo}
use Rattle.bac_journal.specs.Views.{copy_view}
use Rattle.bac_journal.proofs.comparing.are_same_copies.Given as goal

abbrev pub invariant-loop-at : goal.invariant-loop-at
invariant-loop-at l = AreSameUpTo copy_view l.at l.ones l.others
