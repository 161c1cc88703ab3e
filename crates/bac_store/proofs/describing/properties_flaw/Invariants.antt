-- The properties before this place are right.
use Rattle.std.proofs.Common.{ℕ, ◌<◌, get_or, map, take}
use Rattle.bac_store.specs.declared.object.Property.{Property}
use Rattle.bac_store.specs.Described.{IsNextProperty}
use Rattle.bac_store.specs.Views.{property_view}
use Rattle.bac_store.proofs.describing.properties_flaw.Given as goal

abbrev pub invariant-loop-at : goal.invariant-loop-at
invariant-loop-at l =
    (i : ℕ) (d : Property) → i < l.at → IsNextProperty l.fn.kind (map property_view (take i l.properties)) (property_view (get_or l.properties i d))
