use Rattle.bac_explain_report.proofs.Reporting.{frame_printed}
use Rattle.bac_explain_report.proofs.reporter.ReporterFileReport.visit_frame.Goals as goal

pub returns-in-Ok : goal.returns-in-Ok
returns-in-Ok g c = frame_printed g.F.ReportForm.IsTold g.F.ReportForm.IsOne _ _ _ _ _ _ _ _ c.in-Ok.ensures c.print_report.ensures
