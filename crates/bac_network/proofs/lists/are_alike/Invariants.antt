-- The first so many values are the same.
use Rattle.bac_store.proofs.Equal.{AreSameUpTo}
use Rattle.bac_network.proofs.lists.are_alike.Given as goal

abbrev pub invariant-loop-at : goal.invariant-loop-at
invariant-loop-at g l = AreSameUpTo g.T.Alike.seen l.at l.ones l.others
