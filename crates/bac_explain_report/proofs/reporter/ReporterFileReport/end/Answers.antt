-- The transactions that are open, and then what comes last.
use Rattle.bac_explain_report.specs.AccountViews.{account_view}
use Rattle.bac_explain_report.proofs.Report.{ended}
use Rattle.bac_explain_report.proofs.reporter.ReporterFileReport.end.Goals as goal

pub returns : goal.returns
returns g c =
    ended g.F.ReportForm.IsOne g.F.ReportForm.AreLast (g.W.Write.contents c.args.out.now) (g.W.Write.contents c.print_rest.new.out)
    (g.W.Write.contents c.print_last.new.out) (account_view c.args.self.now.account) (account_view c.print_rest.new.account).sums c.status.result
    c.in_ok-print_rest.ensures c.in_ok-print_last.ensures c.status.ensures
