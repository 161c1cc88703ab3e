use Rattle.bac_store.specs.Views.{entry_view}
use Rattle.bac_store.proofs.Equal.{AreSameUpTo}
use Rattle.bac_store.proofs.comparing.are_same_objects.Given as goal

abbrev pub invariant-loop-at : goal.invariant-loop-at
invariant-loop-at l = AreSameUpTo entry_view l.at l.objects l.others
