-- The first of those that are left is the first of all.
use Rattle.std.proofs.Common.{◌≡◌, drop, map}
use Rattle.bac_store.specs.Views.{object_view}
use Rattle.bac_follow.specs.Following.{first_unlike}
use Rattle.bac_follow.proofs.likeness.first_unlike.Given as goal

abbrev pub invariant-loop-object : goal.invariant-loop-object
invariant-loop-object l =
    first_unlike (map object_view l.others) (map object_view (drop l.object-index l.objects))
    ≡ first_unlike (map object_view l.others) (map object_view l.objects)
