use Rattle.std.proofs.Common.{◌≡◌, map, take}
use Rattle.std.specs.List.{flat_map}
use Rattle.bac_point_text.specs.Enumerations.{rows_at}
use Rattle.bac_point_text.specs.Views.{names_view, row_view}
use Rattle.bac_point_text.proofs.enumeration.Enumeration.rows.Given as goal

abbrev pub invariant-loop-number : goal.invariant-loop-number
invariant-loop-number l = map row_view l.rows.items ≡ flat_map (rows_at (names_view l.self)) (take l.number-index l.number-items)
