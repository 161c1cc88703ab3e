use Rattle.std.proofs.Common.{◌<◌}
use Rattle.std.specs.List.{AllAdjacentBelow}
use Rattle.bac_value.specs.Views.{object_identifier_view}
use Rattle.bac_store.specs.Kept.{object_number}
use Rattle.bac_store.proofs.ordering.are_distinct.Given as goal

abbrev pub invariant-loop-at : goal.invariant-loop-at
invariant-loop-at l = AllAdjacentBelow (λ a b. object_number (object_identifier_view a.id) < object_number (object_identifier_view b.id)) l.objects l.at
