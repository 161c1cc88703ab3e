-- What is in the list from here on is in the whole list.
use Rattle.std.proofs.Common.{◌≡◌, drop, map}
use Rattle.std.specs.List.{list_any}
use Rattle.bac_store.specs.Allowing.{are_same}
use Rattle.bac_store.specs.Views.{data_view}
use Rattle.bac_store.proofs.allowing.is_one_of.Given as goal

abbrev pub invariant-loop-data : goal.invariant-loop-data
invariant-loop-data l =
    list_any (are_same l.fn.values) (map data_view (drop l.data-index l.listed)) ≡ list_any (are_same l.fn.values) (map data_view l.listed)
