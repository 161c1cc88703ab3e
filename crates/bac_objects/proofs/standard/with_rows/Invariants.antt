-- The properties so far; the remaining rows are added after them.
use Rattle.std.proofs.Common.{◌≡◌, drop, map}
use Rattle.bac_store.specs.Views.{property_view}
use Rattle.bac_objects.specs.Standard.{plain, with_rows}
use Rattle.bac_objects.proofs.standard.with_rows.Given as goal

abbrev pub invariant-loop-row : goal.invariant-loop-row
invariant-loop-row l =
    with_rows (map property_view l.fn.properties.items) (plain l.rows) ≡ with_rows (map property_view l.done.items) (plain (drop l.row-index l.rows))
