-- What repeats one of the remaining datagrams repeats one of all.
use Rattle.std.proofs.Common.{◌≡◌, drop, map}
use Rattle.bac_explain_report.specs.Copies.{is_again}
use Rattle.bac_explain_report.specs.CopyViews.{drawn_view}
use Rattle.bac_explain_report.proofs.copies.Drawn.is_again.Given as goal

abbrev pub invariant-loop-earlier : goal.invariant-loop-earlier
invariant-loop-earlier l =
    is_again (drawn_view l.fn.self) (map drawn_view (drop l.earlier-index l.drawn)) ≡ is_again (drawn_view l.fn.self) (map drawn_view l.drawn)
