-- What is left of both is the same exactly where both are.
use Rattle.std.proofs.Common.{◌≡◌, drop, map}
use Rattle.std.specs.Cmp.Lexicographic.{pointwise}
use Rattle.bac_store.specs.Allowing.{are_same}
use Rattle.bac_store.specs.Views.{data_view}
use Rattle.bac_follow.proofs.likeness.are_same_lists.Given as goal

abbrev pub invariant-loop-data : goal.invariant-loop-data
invariant-loop-data l =
    pointwise are_same (map data_view (drop l.data-index l.listed)) (map data_view l.left)
    ≡ pointwise are_same (map data_view l.listed) (map data_view l.others)
