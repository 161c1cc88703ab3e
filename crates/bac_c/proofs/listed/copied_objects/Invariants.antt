-- The copies are of the objects so far.
use Rattle.std.proofs.Common.{◌≡◌, map, take}
use Rattle.bac_store.specs.Views.{object_view}
use Rattle.bac_c.proofs.listed.copied_objects.Given as goal

abbrev pub invariant-loop-object : goal.invariant-loop-object
invariant-loop-object l = map object_view l.copies.items ≡ map object_view (take l.object-index l.objects)
