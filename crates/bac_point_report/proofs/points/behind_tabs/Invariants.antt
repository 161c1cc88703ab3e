use Rattle.std.proofs.Common.{◌≡◌, map, take}
use Rattle.std.specs.List.{flat_map}
use Rattle.bac_point_report.specs.Points.{behind_tab}
use Rattle.bac_point_report.proofs.points.behind_tabs.Given as goal

abbrev pub invariant-loop-cell : goal.invariant-loop-cell
invariant-loop-cell l = l.text.items ≡ flat_map behind_tab (map (λ c. c.text.items) (take l.cell-index l.cells))
