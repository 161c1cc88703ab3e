-- The chart of a capture file, and the status.
use Rattle.std.specs.Prelude.{◌≡◌, ℕ, Bool, true, false, List, [], length, Option}
use Rattle.bac_capture.specs.FileReports.{Ending, no_heading, no_report}
use Rattle.bac_capture.specs.FileReports as report
use Rattle.bac_chart.specs.declared.drawing.ChartFormat.{ChartFormat}
use Rattle.bac_explain_report.specs.declared.chart.ChartOptions.{ChartOptions}
use Rattle.bac_text.specs.declared.status.Status.{Status}
use Rattle.bac_text.specs.declared.status.Status.TheVariants.{Done, Faulty}
use Rattle.bac_explain_report.specs.Pairs.{Pairs, BreaksPairs, SeesPair, charts_text, fresh_pairs}
use Rattle.bac_explain_report.specs.Sketches.{Sketch, BreaksFile, SeesFrame, fresh, front_text}

abbrev pub status_of : (is_whole : Bool) → Status
status_of true = Done
status_of false = Faulty

abbrev pub heading : Sketch → List ℕ
heading k = front_text k.form

-- nothing is printed below the frames
abbrev pub EndsFile : Ending Sketch
EndsFile k text status = (text ≡ []) × (status ≡ status_of k.is_whole)

-- a file is drawn frame by frame, and no other input
abbrev pub IsChartOf : ChartFormat → (values : Bool) → Option ℕ → Option (List ℕ) → Option (List ℕ) → Option (List ℕ) → Status → Type 0
IsChartOf shape values also input old new status =
    report.IsReportOf Sketch (SeesFrame also) BreaksFile heading EndsFile no_report (fresh shape values) input old new status

-- the charts of pairs are printed below what is printed of the frames
abbrev pub EndsPairs : Ending Pairs
EndsPairs k text status = (text ≡ charts_text k (length k.pairs)) × (status ≡ status_of k.sketch.is_whole)

-- the same with a chart for each pair of a client and a server
abbrev pub ArePairsOf : ChartFormat → (values : Bool) → Option ℕ → Option (List ℕ) → Option (List ℕ) → Option (List ℕ) → Status → Type 0
ArePairsOf shape values also input old new status =
    report.IsReportOf Pairs (SeesPair also) BreaksPairs no_heading EndsPairs no_report (fresh_pairs shape values) input old new status

abbrev pub IsReportIn : (pairs : Bool) → ChartFormat → (values : Bool) → Option ℕ → Option (List ℕ) → Option (List ℕ) → Option (List ℕ) → Status → Type 0
IsReportIn true shape values also input old new status = ArePairsOf shape values also input old new status
IsReportIn false shape values also input old new status = IsChartOf shape values also input old new status

abbrev pub IsReportOf : ChartOptions → Option ℕ → Option (List ℕ) → Option (List ℕ) → Option (List ℕ) → Status → Type 0
IsReportOf o also input old new status = IsReportIn o.pairs o.form o.values also input old new status
