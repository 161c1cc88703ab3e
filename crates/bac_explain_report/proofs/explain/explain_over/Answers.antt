-- The form is the one that the options ask for.
use Rattle.std.proofs.Common.{◌≡◌, Bool, true, false, subst, sym}
use Rattle.bac_explain_report.specs.Explained.{IsReportWith, block_form}
use Rattle.bac_explain_report.proofs.explain.explain_over.Goals as goal

pub returns-then-options : goal.returns-then-options
returns-then-options g c =
    subst (λ (b : Bool). IsReportWith (block_form b) c.args.options c.args.ports.also (g.R.Read.remaining c.args.input.now)
    (g.O.Write.contents c.args.out.now) (g.O.Write.contents c.explain_frames_over.new.out) c.explain_frames_over.result) (sym c.if-options.true)
    c.explain_frames_over.ensures

pub returns-else-options : goal.returns-else-options
returns-else-options g c =
    subst (λ (b : Bool). IsReportWith (block_form b) c.args.options c.args.ports.also (g.R.Read.remaining c.args.input.now)
    (g.O.Write.contents c.args.out.now) (g.O.Write.contents c.explain_lines_over.new.out) c.explain_lines_over.result) (sym c.if-options.false)
    c.explain_lines_over.ensures
