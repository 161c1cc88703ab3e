-- The objects so far; the remaining items are read after them.
use Rattle.std.proofs.Common.{◌≡◌, [], drop, map}
use Rattle.bac_store.specs.Views.{object_view}
use Rattle.toml.specs.View.{array_view, items_view}
use Rattle.bac_objects.specs.Described.{objects_on}
use Rattle.bac_objects.proofs.described.objects_of_list.Given as goal

abbrev pub invariant-loop-value : goal.invariant-loop-value
invariant-loop-value l = objects_on [] (array_view l.list) ≡ objects_on (map object_view l.objects.items) (items_view (drop l.value-index l.list.items))
