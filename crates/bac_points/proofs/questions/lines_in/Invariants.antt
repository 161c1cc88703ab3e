-- The questions for the words so far.
use Rattle.std.proofs.Common.{◌≡◌, map, take}
use Rattle.bac_npdu.specs.Views.{peer_view}
use Rattle.bac_point_report.specs.Targets.{target_view}
use Rattle.bac_points.specs.Reads.{question_in, read_by}
use Rattle.bac_points.proofs.questions.lines_in.Given as goal

abbrev pub invariant-loop-place : goal.invariant-loop-place
invariant-loop-place g l = map question_in l.lines.items ≡ map (read_by (peer_view l.fn.peer)) (map target_view (take l.place l.targets))
