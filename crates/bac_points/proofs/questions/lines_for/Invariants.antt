-- The questions for the properties so far.
use Rattle.std.proofs.Common.{◌≡◌, map, take}
use Rattle.bac_npdu.specs.Views.{peer_view}
use Rattle.bac_service.specs.Views.{property_reference_view}
use Rattle.bac_points.specs.Reads.{asked_of, question_in}
use Rattle.bac_points.proofs.questions.lines_for.Given as goal

abbrev pub invariant-loop-place : goal.invariant-loop-place
invariant-loop-place l =
    map question_in l.lines.items ≡ map (asked_of (peer_view l.fn.peer)) (map property_reference_view (take l.place l.references))
