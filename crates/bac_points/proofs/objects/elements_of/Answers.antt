-- One element more.
use Rattle.std.proofs.Common.{◌≡◌, ◌∷◌, [], ◌++◌, map, arith}
use Rattle.std.proofs.lemmas.Grind.{common_steps}
use Rattle.bac_points.specs.Lists.{element_behind}
use Rattle.bac_value.specs.Views.{object_identifier_view}
use Rattle.bac_service.specs.Views.{property_reference_view}
use Rattle.bac_points.proofs.Batches.{elements_more}
use Rattle.bac_points.proofs.objects.elements_of.Goals as goal

pub loop-place-preserved : goal.loop-place-preserved
loop-place-preserved c =
    let items : map property_reference_view c.push.new.self.items
    ≡ map property_reference_view c.loop-place.elements.items ++ (element_behind (object_identifier_view c.args.device) c.loop-place.place ∷ []) = grind (arith, common_steps) in (
      elements_more (object_identifier_view c.args.device) c.args.behind c.loop-place.place _ _ c.loop-place.invariant.1 c.loop-place.invariant.0 items,
      omega (arith, c.loop-place.invariant.1),
    )
