-- The text for a frame.
use Rattle.std.specs.Prelude.{◌≡◌, ℕ, Bool, List, [], ◌++◌, codes, decimal, Option, Some, None, if◌then◌else◌}
use Rattle.bac_explain.specs.Keys.{Key}
use Rattle.bac_explain.specs.Texts.{finding_text}
use Rattle.bac_explain.specs.declared.finding.Finding.{Finding}
use Rattle.bac_explain_report.specs.Accounts.{HearingView, FrameReportView}
use Rattle.bac_explain_report.specs.Accounts.FrameReportView.{NothingReported, UnreadReported, HeardReported}
use Rattle.bac_explain_report.specs.Keys.{key_text}
use Rattle.bac_explain_report.specs.Rest.{IsOptional, Printing}
use Rattle.bac_explain_report.specs.Unread.{unread_text}
use Rattle.bac_explain_report.specs.declared.unread.Unread.{Unread}

-- for the frame with this number, from 1
abbrev pub unread_line : ℕ → Unread → List ℕ
unread_line number why = codes "frame " ++ (decimal number ++ (codes ": " ++ (unread_text why ++ codes "\n")))

-- what is wrong with it, and in which transaction; nothing where that is not printed
abbrev pub finding_line : ℕ → Key → Option Finding → List ℕ
finding_line number key None = []
finding_line number key (Some finding) =
    codes "frame " ++ (decimal number ++ (codes ": " ++ (finding_text finding ++ (codes ", " ++ (key_text key ++ codes "\n")))))

-- it comes after its transaction was told
abbrev pub again_line : ℕ → Key → (again : Bool) → List ℕ
again_line number key again = if again then codes "frame " ++ (decimal number ++ (codes ": again, " ++ (key_text key ++ codes "\n"))) else []

-- the transactions that close come first, each in a form
pub record IsHearing (IsOne : Printing) (number : ℕ) (h : HearingView) (text : List ℕ) : Type 0 where
  pub over : List ℕ
  pub closed : List ℕ
  pub is_over : IsOptional IsOne h.over over
  pub is_closed : IsOptional IsOne h.closed closed
  pub is : text ≡ ((over ++ closed) ++ finding_line number h.key h.finding) ++ again_line number h.key h.again

abbrev pub IsFrameReport : Printing → ℕ → FrameReportView → List ℕ → Type 0
IsFrameReport IsOne number NothingReported text = text ≡ []
IsFrameReport IsOne number (UnreadReported why) text = text ≡ unread_line number why
IsFrameReport IsOne number (HeardReported h) text = IsHearing IsOne number h text
