use Rattle.std.proofs.Common.{◌≡◌, subst, sym, map, arith}
use Rattle.std.proofs.lemmas.Grind.{common_steps}
use Rattle.bac_store.specs.House.{house}
use Rattle.bac_store.specs.Kept.{IsInOrder}
use Rattle.bac_store.specs.Views.{object_view}
use Rattle.bac_store.proofs.HouseLaws.{house_in_order}
use Rattle.bac_store.proofs.house_objects.house.Goals as goal

pub of_ordered-requires : goal.of_ordered-requires
of_ordered-requires c =
    let is : map object_view c.push-5.new.self.items ≡ house = grind (arith, common_steps) in
    subst IsInOrder (sym is) house_in_order
