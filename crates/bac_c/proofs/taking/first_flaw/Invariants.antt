-- The properties before this place have no flaw.
use Rattle.std.proofs.Common.{◌≡◌, ℕ, ◌<◌, None, get_or, map, take}
use Rattle.bac_store.specs.Views.{property_view}
use Rattle.bac_store.specs.declared.object.Property.{Property}
use Rattle.bac_c.specs.Taking.{property_flaw}
use Rattle.bac_c.proofs.taking.first_flaw.Given as goal

abbrev pub invariant-loop-at : goal.invariant-loop-at
invariant-loop-at l =
    (i : ℕ) (d : Property) → i < l.at → property_flaw l.fn.kind (map property_view (take i l.properties)) (property_view (get_or l.properties i d)) ≡ None
