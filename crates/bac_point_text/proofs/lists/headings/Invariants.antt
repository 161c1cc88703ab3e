use Rattle.std.proofs.Common.{◌≡◌, map, take}
use Rattle.std.specs.List.{flat_map}
use Rattle.bac_point_text.specs.Lists.{heading_line}
use Rattle.bac_point_text.proofs.lists.headings.Given as goal

abbrev pub invariant-loop-table : goal.invariant-loop-table
invariant-loop-table l = l.text.items ≡ flat_map heading_line (map (λ t. t.now) (take l.table-index l.tables))
