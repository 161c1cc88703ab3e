-- No object before this place is the device of a described store.
use Rattle.std.proofs.Common.{◌≡◌, ℕ, ◌<◌, false, get_or}
use Rattle.bac_store.specs.declared.entry.StoredObject.{StoredObject}
use Rattle.bac_store.specs.Targets.{is_lister}
use Rattle.bac_store.specs.Views.{entry_view}
use Rattle.bac_store.proofs.targets.device_place.Given as goal

abbrev pub invariant-loop-at : goal.invariant-loop-at
invariant-loop-at l = (i : ℕ) (d : StoredObject) → i < l.at → is_lister (entry_view (get_or l.objects i d)) ≡ false
