-- The first so many clocks are the same.
use Rattle.bac_store.proofs.Equal.{AreSameUpTo}
use Rattle.bac_journal.specs.declared.clocks.NodeClock.{NodeClock}
use Rattle.bac_journal.proofs.comparing.are_same_nodes.Given as goal

abbrev pub invariant-loop-at : goal.invariant-loop-at
invariant-loop-at l = AreSameUpTo (λ (c : NodeClock). c) l.at l.ones l.others
