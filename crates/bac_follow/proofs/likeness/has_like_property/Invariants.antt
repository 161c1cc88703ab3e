-- What is among the others from here on is among all of them.
use Rattle.std.proofs.Common.{◌≡◌, drop, map}
use Rattle.std.specs.List.{list_any}
use Rattle.bac_store.specs.Views.{property_view}
use Rattle.bac_follow.specs.Following.{is_like_property}
use Rattle.bac_follow.proofs.likeness.has_like_property.Given as goal

abbrev pub invariant-loop-other : goal.invariant-loop-other
invariant-loop-other l =
    list_any (is_like_property (property_view l.property)) (map property_view (drop l.other-index l.others))
    ≡ list_any (is_like_property (property_view l.property)) (map property_view l.others)
