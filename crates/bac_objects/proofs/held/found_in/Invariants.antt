-- No word so far is a key.
use Rattle.std.proofs.Common.{◌≡◌, drop}
use Rattle.toml.specs.View.{table_view}
use Rattle.bac_objects.specs.Held.{found_in, plain}
use Rattle.bac_objects.proofs.held.found_in.Given as goal

abbrev pub invariant-loop-row : goal.invariant-loop-row
invariant-loop-row l = found_in (plain l.rows) (table_view l.table) ≡ found_in (plain (drop l.row-index l.rows)) (table_view l.table)
