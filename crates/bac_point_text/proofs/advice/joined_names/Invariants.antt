-- The names so far, and those of the rows that are left.
use Rattle.std.proofs.Common.{◌≡◌, ◌++◌, length, map}
use Rattle.bac_point_text.specs.Advice.{joined_names}
use Rattle.bac_point_text.specs.Views.{row_view}
use Rattle.bac_point_text.proofs.advice.joined_names.Given as goal

abbrev pub invariant-loop-rest : goal.invariant-loop-rest
invariant-loop-rest l = l.text.items ++ joined_names (map row_view l.rest) ≡ joined_names (map row_view l.rows)

abbrev pub decreases-loop-rest : goal.decreases-loop-rest
decreases-loop-rest l = length l.rest
