use Rattle.bac_store.specs.Views.{slot_view}
use Rattle.bac_store.proofs.Equal.{AreSameUpTo}
use Rattle.bac_store.proofs.comparing.are_same_slots.Given as goal

abbrev pub invariant-loop-at : goal.invariant-loop-at
invariant-loop-at l = AreSameUpTo slot_view l.at l.slots l.others
