use Rattle.std.proofs.Common.{◌≡◌, map, take}
use Rattle.std.specs.List.{flat_map}
use Rattle.bac_point_text.specs.Lists.{row_line}
use Rattle.bac_point_text.specs.Views.{row_view}
use Rattle.bac_point_text.proofs.lists.rows_text.Given as goal

abbrev pub invariant-loop-row : goal.invariant-loop-row
invariant-loop-row l = l.text.items ≡ flat_map row_line (map row_view (take l.row-index l.rows))
