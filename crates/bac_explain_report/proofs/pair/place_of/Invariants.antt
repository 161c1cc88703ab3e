-- None of the pairs before this one is it.
use Rattle.std.proofs.Common.{◌≡◌, ◌+◌, drop, map}
use Rattle.bac_explain_report.specs.PairViews.{pair_view}
use Rattle.bac_explain_report.specs.Pairs.{place_of}
use Rattle.bac_explain_report.proofs.pair.place_of.Given as goal

abbrev pub invariant-loop-place : goal.invariant-loop-place
invariant-loop-place l =
    place_of (pair_view l.pair) (map pair_view l.pairs) ≡ l.place + place_of (pair_view l.pair) (map pair_view (drop l.place l.pairs))
