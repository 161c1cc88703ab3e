-- Which transactions of a capture are printed, and how its datagrams are drawn, by the words that are given.
use Rattle.std.specs.Prelude.{◌≡◌, ◌<◌, ◌≤◌, ℕ, Bool, true, false, codes, decimal, Option, Some, None}
use Rattle.clap.specs.declared.parser.matches.ArgMatches.{ArgMatches}
use Rattle.bac_chart.specs.declared.drawing.ChartFormat.{ChartFormat}
use Rattle.bac_chart.specs.declared.drawing.ChartFormat.TheVariants as form
use Rattle.bac_explain_report.specs.declared.chart.ChartOptions.{ChartOptions}
use Rattle.bac_explain_report.specs.declared.selection.ReportOptions.{ReportOptions}
use Rattle.bac_environment.specs.Given.{IsFlag, words_text}
use Rattle.bac_reading.specs.declared.selecting.TheConstants.{MOST_SLOWER}

-- the milliseconds of the time that is given; of a number alone, these
pub record IsSlower (given : ArgMatches) (is : Option ℕ) : Type 0 where
  pub some : (n : ℕ) → 0 < n → n ≤ MOST_SLOWER → words_text given (codes "slower") ≡ Some (decimal n) → is ≡ Some n
  pub none : words_text given (codes "slower") ≡ None → is ≡ None

pub record AreGivenOptions (given : ArgMatches) (early : Bool) (o : ReportOptions) : Type 0 where
  pub unanswered : IsFlag given (codes "unanswered") o.selection.unanswered
  pub errors : IsFlag given (codes "errors") o.selection.errors
  pub repeated : IsFlag given (codes "repeated") o.selection.repeated
  pub findings : IsFlag given (codes "findings") o.selection.findings
  pub slower : IsSlower given o.selection.slower
  pub strict : IsFlag given (codes "fail") o.strict
  pub frames : IsFlag given (codes "frames") o.frames
  pub strict_ids : IsFlag given (codes "strict-ids") o.strict_ids
  pub is_early : o.early ≡ early

abbrev pub form_by : (mermaid : Bool) → ChartFormat
form_by true = form.Mermaid
form_by false = form.Chart

pub record AreChartOptions (given : ArgMatches) (o : ChartOptions) : Type 0 where
  pub mermaid : Bool
  pub is_mermaid : IsFlag given (codes "mermaid") mermaid
  pub is_form : o.form ≡ form_by mermaid
  pub values : IsFlag given (codes "values") o.values
  pub pairs : IsFlag given (codes "pairs") o.pairs
