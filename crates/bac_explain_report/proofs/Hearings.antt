-- The report on an APDU, and the state after it, from their parts.
use Rattle.std.proofs.Common.{◌≡◌, ◌∙◌, ℕ, Bool, Option}
use Rattle.bac_explain.specs.Sightings.{SightingView}
use Rattle.bac_explain.specs.Tables.{ClosedView, Heard, awaited}
use Rattle.bac_explain.specs.declared.finding.Finding.{Finding}
use Rattle.bac_explain_report.specs.Accounts.{Account, FrameReportView, heard_sums, hearing, is_again, is_alone, is_answered, told_by}
use Rattle.bac_explain_report.specs.Accounts.FrameReportView.{HeardReported}
use Rattle.bac_explain_report.specs.Counting.{Sums}
use Rattle.bac_explain_report.specs.Selections.{shown, told_finding}
use Rattle.bac_explain_report.specs.declared.selection.ReportOptions.{ReportOptions}

pub hearing_told : (o : ReportOptions) (now : ℕ) (s : SightingView) (over : Option ClosedView) (h : Heard) (sums : Sums) (v_over v_closed : Option ClosedView)
    (v_finding : Option Finding) (v_again v_answered : Bool) (next : Account) → v_over ≡ shown o.selection over → v_closed ≡ shown o.selection h.closed
    → v_finding ≡ told_finding o.selection s.key (awaited now s.key h.slots) h.finding → v_again ≡ is_again s.role h.finding (awaited now s.key h.slots)
    → v_answered ≡ is_answered o s.key (awaited now s.key h.slots)
    → next ≡ record {
      options = o;
      slots = told_by v_answered now s.key h.slots;
      sums = heard_sums o.selection over h (is_alone (awaited now s.key h.slots) v_finding) sums;
    }
    → (HeardReported (record { key = s.key; over = v_over; closed = v_closed; finding = v_finding; again = v_again; answered = v_answered }), next)
    ≡ hearing o now s over h sums
hearing_told o now s over h sums v_over v_closed v_finding v_again v_answered next po pc pf pg pa pn =
    (λ i. (HeardReported (record { key = s.key; over = po i; closed = pc i; finding = v_finding; again = pg i; answered = v_answered }), pn i))
    ∙ (λ i. (
      HeardReported (record {
        key = s.key;
        over = shown o.selection over;
        closed = shown o.selection h.closed;
        finding = pf i;
        again = is_again s.role h.finding (awaited now s.key h.slots);
        answered = pa i;
      }),
      record {
        options = o;
        slots = told_by (pa i) now s.key h.slots;
        sums = heard_sums o.selection over h (is_alone (awaited now s.key h.slots) (pf i)) sums;
      },
    ))
