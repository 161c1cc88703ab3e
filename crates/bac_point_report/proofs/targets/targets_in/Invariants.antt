-- What is named so far, and what the words that are left name.
use Rattle.std.proofs.Common.{◌≡◌, ◌++◌, length, map}
use denote.Shadow.{shadow}
use denote.Text.{Utf8}
use Rattle.bac_point_report.specs.Targets.{target_view, targets_behind, targets_of}
use Rattle.bac_point_report.proofs.targets.targets_in.Given as goal

abbrev pub invariant-loop-rest : goal.invariant-loop-rest
invariant-loop-rest l =
    (map target_view l.targets.items ++ targets_behind l.object l.is_bare (map (λ w. w.now) l.rest) ≡ targets_of (map (λ w. w.now) l.fn.words))
    × shadow (Utf8 l.object)

abbrev pub decreases-loop-rest : goal.decreases-loop-rest
decreases-loop-rest l = length l.rest
