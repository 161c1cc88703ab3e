-- The report begins without a transaction, or ends at once if its table cannot be allocated.
use Rattle.std.proofs.Common.{[], subst}
use Rattle.bac_capture.specs.FileReports.{IsReportOf, no_report}
use Rattle.bac_explain_report.specs.Accounts.{Account}
use Rattle.bac_explain_report.specs.Blocks.{IsFramedBlock}
use Rattle.bac_explain_report.specs.Explained.{AreLastLines}
use Rattle.bac_explain_report.specs.FrameReports.{IsFrameReport}
use Rattle.bac_explain_report.specs.Reported.{BreaksFile, EndsFile, SeesFrame, Untimed}
use Rattle.bac_explain_report.proofs.explain.explain_frames_over.Goals as goal

pub returns-in-Ok : goal.returns-in-Ok
returns-in-Ok g c =
    subst (λ (a : Account). IsReportOf Account (SeesFrame (Untimed (IsFrameReport IsFramedBlock)) IsFramedBlock c.args.ports.also) (BreaksFile (Untimed (IsFrameReport IsFramedBlock)) IsFramedBlock) (λ _. [])
    (EndsFile IsFramedBlock AreLastLines) no_report a (g.R.Read.remaining c.args.input.now) (g.O.Write.contents c.args.out.now)
    (g.O.Write.contents c.report_over.new.out) c.report_over.result) c.in-Ok.ensures c.report_over.ensures
