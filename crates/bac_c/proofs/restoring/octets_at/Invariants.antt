-- The parts so far are there, and the last of them is in the cell before the next one.
use Rattle.std.proofs.Common.{◌≡◌, ◌+◌, drop, true}
use Rattle.bac_value.specs.Views.{object_identifier_view}
use Rattle.bac_keep.specs.Cells.{file_place}
use Rattle.bac_keep.specs.Overlay.{joined}
use Rattle.bac_keep.specs.Held.{IsRising, held}
use Rattle.bac_c.specs.Fitting.{has_parts}
use Rattle.bac_c.specs.Kept.{IsPlaceAt}
use Rattle.bac_c.proofs.restoring.octets_at.Given as goal

abbrev pub invariant-loop-part : goal.invariant-loop-part
invariant-loop-part l = record {
  octets : IsRising l.cells → l.octets.items ≡ joined (held (drop l.at l.cells)) (object_identifier_view l.object) l.part;
  parts : IsRising l.cells → has_parts (held l.cells) (object_identifier_view l.object) l.count l.part ≡ true;
  place : IsPlaceAt (file_place (object_identifier_view l.object) l.part) (l.at + l.part) l.cells;
}
