use Rattle.std.proofs.Common.{◌≡◌, map}
use Rattle.bac_store.specs.Described.{with_list}
use Rattle.bac_store.specs.Views.{object_view}
use Rattle.bac_store.proofs.object_list.with_lists.Given as goal

abbrev pub invariant-loop-object : goal.invariant-loop-object
invariant-loop-object l = map object_view l.listed.items ≡ map (with_list l.fn.list.octets.items) (map object_view l.yielded)
