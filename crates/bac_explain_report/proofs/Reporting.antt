-- The report on a frame was printed, and this is the next state.
use Rattle.std.proofs.Common.{◌≡◌, ℕ, List, Option, Result, Ok, Err, OnOk, ap, subst}
use Rattle.bac_capture.specs.Blocks.{FrameView}
use Rattle.bac_capture.specs.Reports as check
use Rattle.bac_explain_report.specs.Accounts.{Account, FrameReportView, frame_heard}
use Rattle.bac_explain_report.specs.Reported.{IsFrameText, SeesFrame, Telling}
use Rattle.bac_explain_report.specs.Rest.{Printing}
use Rattle.bac_text.specs.Texts.{AppendsText}

pub frame_printed : (IsTold : Telling) (IsOne : Printing) {T E : Type 0} (r : Result T E) (also : Option ℕ) (frame : FrameView) (before next : Account) (v : FrameReportView)
    (old new : Option (List ℕ)) → (v, next) ≡ frame_heard also frame before → OnOk r (AppendsText old new (IsFrameText IsTold IsOne frame.moment v next))
    → OnOk r (check.IsPrinted (SeesFrame IsTold IsOne also) frame old new before next)
frame_printed IsTold IsOne (Err e) also frame before next v old new is p = tt
frame_printed IsTold IsOne (Ok t) also frame before next v old new is p = record {
  text = p.0;
  printed = p.1.1;
  says = record {
    is = ap (λ (q : FrameReportView × Account). q.1) is;
    told = subst (λ (q : FrameReportView × Account). IsFrameText IsTold IsOne frame.moment q.0 next p.0) is p.1.0;
  };
}
