-- Lines and frames that were checked.
use Rattle.std.proofs.Common.{◌≡◌, ◌+◌, ◌∙◌, ℕ, Option, None, List, Result, Ok, Err, OnOk, ap, refl, subst, sym}
use Rattle.bac_capture.specs.declared.fault.FileFault.{FileFault}
use Rattle.bac_capture.specs.Blocks.{FrameView}
use Rattle.bac_capture.specs.Counts as counts
use Rattle.bac_capture.specs.FileReports.{IsEnding}
use Rattle.bac_capture.specs.Reports.{IsPrinted}
use Rattle.bac_json_report.specs.CheckedFiles as file
use Rattle.bac_json_report.specs.CheckedLines as line
use Rattle.bac_json_report.specs.LineReports.{IsEnded, IsVisited}
use Rattle.bac_json_report.specs.Lines.{IsLineOf}
use Rattle.bac_json_report.specs.TimeForms.{IsTimeForm}
use Rattle.bac_text.specs.Lines.{IsJudged, short_capture_at}
use Rattle.bac_capture.specs.Judged.{IsVerdict}
use Rattle.bac_text.specs.Statuses as statuses
use Rattle.bac_text.specs.Texts.{AppendsText}
use Rattle.bac_capture.specs.declared.check_fault.CapturedFault.TheVariants.{File}
use Rattle.bac_capture.specs.declared.check_fault.Verdict.{Verdict}
use Rattle.bac_capture.specs.declared.check_fault.Verdict.TheVariants.{Bad}
use Rattle.bac_text.specs.declared.fault.LineVerdict.{LineVerdict}
use Rattle.bac_text.specs.declared.status.Status.{Status}
use Rattle.serde_json.specs.Data.{Data}

-- ---- lines

pub line_checked : (text : List ℕ) (v : LineVerdict) (latest number : ℕ) (a b : Option (List ℕ)) (before next : line.Count)
    → IsJudged (short_capture_at before.notes text) before.latest v latest → line.IsCounted v latest before next → number ≡ next.lines
    → AppendsText a b (line.IsFaultText number (line.verdict_fault v)) → IsVisited line.SeesLine text a b before next
line_checked text v latest number a b before next judged counted is p = record {
  text = p.0;
  printed = p.1.1;
  told = record {
    verdict = v;
    judged = subst (λ (n : ℕ). IsJudged (short_capture_at before.notes text) before.latest v n) (sym counted.latest_is) judged;
    text_of = subst (λ (n : ℕ). line.IsFaultText n (line.verdict_fault v) p.0) (is ∙ counted.lines) p.1.0;
    counted = record { notes = counted.notes; lines = counted.lines; good = counted.good; bad = counted.bad; latest_is = refl };
  };
}

pub lines_ended : (c : line.Count) (s : Status) (a b : Option (List ℕ)) → AppendsText a b (IsLineOf (λ d. d ≡ line.summary_form c))
    → statuses.IsTallied c.bad s → IsEnded line.EndsLines c a b s
lines_ended c s a b p tallied = record { text = p.0; ends = record { text_of = p.1.0; tallied = tallied }; printed = p.1.1 }

-- ---- frames

pub bad_frame_told : (frame : ℕ) (moment : Option ℕ) (fault time d : Data) → IsTimeForm moment time → d ≡ file.bad_frame_form frame moment time fault
    → file.IsBadFrame frame moment fault d
bad_frame_told frame moment fault time d of is = record { time = time; time_of = of; is = is }

pub frame_counted : (moment : Option ℕ) (v : Verdict) (number : ℕ) (a b : Option (List ℕ)) (before next : counts.Counts) → next ≡ counts.counted before v
    → number ≡ next.frames → AppendsText a b (file.IsFaultText number moment (file.verdict_fault v)) → IsPrinted (file.IsCounted moment) v a b before next
frame_counted moment v number a b before next is here p = record {
  text = p.0;
  printed = p.1.1;
  says = record {
    text_of = subst (λ (n : ℕ). file.IsFaultText n moment (file.verdict_fault v) p.0) (here ∙ ap (λ (c : counts.Counts). c.frames) is) p.1.0;
    is = is;
  };
}

pub frame_seen : {T E : Type 0} (r : Result T E) (also : Option ℕ) (frame : FrameView) (v : Verdict) (a b : Option (List ℕ)) (before next : counts.Counts)
    → IsVerdict also frame v → OnOk r (IsPrinted (file.IsCounted frame.moment) v a b before next) → OnOk r (IsPrinted (file.SeesFrame also) frame a b before next)
frame_seen (Err e) also frame v a b before next judged p = tt
frame_seen (Ok t) also frame v a b before next judged p =
    record { text = p.text; printed = p.printed; says = record { verdict = v; judged = judged; counted = p.says } }

pub file_broken : {T E : Type 0} (r : Result T E) (fault : FileFault) (a b : Option (List ℕ)) (before next : counts.Counts)
    → OnOk r (IsPrinted (file.IsCounted None) (Bad (File fault)) a b before next) → OnOk r (IsPrinted file.BreaksFile fault a b before next)
file_broken (Err e) fault a b before next p = tt
file_broken (Ok t) fault a b before next p = record { text = p.text; printed = p.printed; says = p.says }

pub file_ended : (c : counts.Counts) (s : Status) (a b : Option (List ℕ)) → AppendsText a b (IsLineOf (λ d. d ≡ file.summary_form c))
    → counts.IsTallied c.bad s → IsEnding counts.Counts file.EndsFile c a b s
file_ended c s a b p tallied = record { text = p.0; ends = record { text_of = p.1.0; tallied = tallied }; printed = p.1.1 }
