use Rattle.bac_explain_report.specs.AccountViews.{account_view}
use Rattle.bac_explain_report.proofs.Blocking.{IsSoFar}
use Rattle.bac_explain_report.proofs.reporter.print_rest.Given as goal

abbrev pub invariant-loop : goal.invariant-loop
invariant-loop g l =
    IsSoFar g.F.ReportForm.IsOne (account_view l.initial.account) (account_view l.account) (g.W.Write.contents l.initial.out) (g.W.Write.contents l.out)
