use Rattle.std.proofs.Common.{◌≡◌, map, take}
use Rattle.bac_value.specs.Views.{object_identifier_view}
use Rattle.bac_store.proofs.object_list.identifiers.Given as goal

abbrev pub invariant-loop-object : goal.invariant-loop-object
invariant-loop-object l = map object_identifier_view l.ids.items ≡ map (λ o. object_identifier_view o.id) (take l.object-index l.objects)
