-- The objects before this place are taken.
use Rattle.std.proofs.Common.{ℕ, ◌<◌, get_or, map, take}
use Rattle.bac_store.specs.Views.{object_view}
use Rattle.bac_store.specs.declared.object.Object.{Object}
use Rattle.bac_c.specs.Taking.{IsTakenAfter}
use Rattle.bac_c.proofs.taking.first_refusal.Given as goal

abbrev pub invariant-loop-at : goal.invariant-loop-at
invariant-loop-at l = (i : ℕ) (d : Object) → i < l.at → IsTakenAfter (map object_view (take i l.objects)) (object_view (get_or l.objects i d))
