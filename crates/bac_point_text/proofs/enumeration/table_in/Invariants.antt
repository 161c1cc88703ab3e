use Rattle.std.proofs.Common.{◌≡◌, drop, map}
use Rattle.std.specs.List.{find}
use Rattle.bac_point_text.specs.Enumerations.{has_heading}
use Rattle.bac_point_text.proofs.enumeration.table_in.Given as goal

abbrev pub invariant-loop-table : goal.invariant-loop-table
invariant-loop-table l =
    find (has_heading l.word) (map (λ t. t.now) l.tables) ≡ find (has_heading l.word) (map (λ t. t.now) (drop l.table-index l.tables))
