use Rattle.bac_store.specs.Views.{data_view}
use Rattle.bac_store.proofs.Equal.{AreSameUpTo}
use Rattle.bac_store.proofs.comparing.are_same_lists.Given as goal

abbrev pub invariant-loop-at : goal.invariant-loop-at
invariant-loop-at l = AreSameUpTo data_view l.at l.listed l.others
