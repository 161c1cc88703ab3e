-- The values before this place have the kind.
use Rattle.std.proofs.Common.{◌≡◌, drop, map}
use Rattle.std.specs.List.{list_all}
use Rattle.bac_store.specs.Allowing.{has_kind}
use Rattle.bac_store.specs.Views.{data_view}
use Rattle.bac_store.proofs.allowing.have_kind.Given as goal

abbrev pub invariant-loop-data : goal.invariant-loop-data
invariant-loop-data l =
    list_all (has_kind l.fn.kind) (map data_view (drop l.data-index l.listed)) ≡ list_all (has_kind l.fn.kind) (map data_view l.listed)
