use Rattle.std.proofs.Common.{◌≡◌, map, take}
use Rattle.bac_store.specs.Views.{data_view}
use Rattle.bac_store.proofs.allowed.copied_list.Given as goal

abbrev pub invariant-loop-data : goal.invariant-loop-data
invariant-loop-data l = map data_view l.copies.items ≡ map data_view (take l.data-index l.listed)
