-- All that are left are among the others exactly where all are.
use Rattle.std.proofs.Common.{◌≡◌, drop, map}
use Rattle.std.specs.List.{list_all, list_any}
use Rattle.bac_store.specs.Views.{property_view}
use Rattle.bac_follow.specs.Following.{is_like_property}
use Rattle.bac_follow.proofs.likeness.are_like_properties.Given as goal

abbrev pub invariant-loop-property : goal.invariant-loop-property
invariant-loop-property l =
    list_all (λ p. list_any (is_like_property p) (map property_view l.others)) (map property_view (drop l.property-index l.properties))
    ≡ list_all (λ p. list_any (is_like_property p) (map property_view l.others)) (map property_view l.properties)
