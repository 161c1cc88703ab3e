-- The report is on the first octets, which were read separately, and all that are left.
use Rattle.std.proofs.Common.{sym, ◌∙◌, None, Some}
use Rattle.bac_capture.proofs.FileReports.{found_reported, if_ended}
use Rattle.bac_capture.proofs.report.report_over.Goals as goal

pub returns-in_default-signature_of : goal.returns-in_default-signature_of
returns-in_default-signature_of g c =
    found_reported g.V.FileReport.State (g.V.FileReport.Visits c.args.ports.also) g.V.FileReport.Breaks g.V.FileReport.heading g.V.FileReport.Ends
    (g.V.FileReport.Others (g.V.FileReport.state c.args.report.now)) (g.V.FileReport.state c.args.report.now) (g.R.Read.remaining c.args.input.now) (g.R.Read.remaining c.read_run.new.input) _ (g.O.Write.contents c.args.out.now)
    (g.O.Write.contents c.report_other.new.out) c.read_run.new.kept.items c.deref-front.result.now c.in_default.field-0 c.report_other.result None
    c.in_default.ensures c.deref-front.ensures.value c.chain-whole.ensures.bytes (sym c.in_default-signature_of.is ∙ c.signature_of.ensures) c.report_other.ensures

pub returns-in-Ok : goal.returns-in-Ok
returns-in-Ok g c =
    found_reported g.V.FileReport.State (g.V.FileReport.Visits c.args.ports.also) g.V.FileReport.Breaks g.V.FileReport.heading g.V.FileReport.Ends
    (g.V.FileReport.Others (g.V.FileReport.state c.args.report.now)) (g.V.FileReport.state c.args.report.now) (g.R.Read.remaining c.args.input.now) (g.R.Read.remaining c.read_run.new.input) _ (g.O.Write.contents c.args.out.now)
    (g.O.Write.contents c.report_file.new.out) c.read_run.new.kept.items c.deref-front.result.now c.in_default.field-0 c.in-Ok.status (Some c.in-Some.signature)
    c.in_default.ensures c.deref-front.ensures.value c.chain-whole.ensures.bytes (sym c.in-Some.is ∙ c.signature_of.ensures)
    (if_ended c.in-Ok.status _ c.in-Ok.ensures)
