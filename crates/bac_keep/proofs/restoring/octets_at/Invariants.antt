use Rattle.std.proofs.Common.{◌≡◌, ◌<◌, ◌+◌, drop, length}
use Rattle.bac_value.specs.Views.{object_identifier_view}
use Rattle.bac_keep.specs.Cells.{file_place}
use Rattle.bac_keep.specs.Overlay.{joined}
use Rattle.bac_keep.specs.Refused.{IsAt}
use Rattle.bac_keep.specs.Held.{IsRising, held}
use Rattle.bac_keep.proofs.restoring.octets_at.Given as goal

abbrev pub invariant-loop-part : goal.invariant-loop-part
invariant-loop-part l = (IsRising l.cells → l.octets.items ≡ joined (held (drop l.at l.cells)) (object_identifier_view l.object) l.part)
    × (l.at + l.part < length l.cells)
    × IsAt l.cells (l.at + l.part) (file_place (object_identifier_view l.object) l.part)
