-- What `bac explain --html` prints of a capture file: a page with a row and a picture for each printed transaction.
use Rattle.std.specs.Prelude.{◌≡◌, ℕ, List, [], ◌∷◌, ◌++◌, codes, decimal, Option, Some, None}
use Rattle.bac_explain_report.specs.Accounts.{FrameReportView, HearingView}
use Rattle.bac_explain_report.specs.Accounts.FrameReportView.{NothingReported, UnreadReported, HeardReported}
use Rattle.bac_explain_report.specs.Devices.{DeviceView}
use Rattle.bac_explain_report.specs.Reported as report
use Rattle.bac_explain_report.specs.Rest.{IsOptional}
use Rattle.bac_explain_report.specs.declared.selection.ReportOptions.{ReportOptions}
use Rattle.bac_explain_report.specs.declared.selection.Selection.{Selection}
use Rattle.bac_explain_report.specs.declared.tally.Tally.{Tally}
use Rattle.bac_explain_report.specs.declared.totals.Totals.{Totals}
use Rattle.bac_text.specs.Peers.{peer_text}
use Rattle.bac_text.specs.declared.status.Status.{Status}
use Rattle.bac_explain_html.specs.Notes.{finding_note, unread_note}
use Rattle.bac_explain_html.specs.Rows.{IsEntry}
use Rattle.bac_explain_html.specs.declared.page.TheConstants.{BACK, DEVICES, FRONT}

-- the transactions that close come first
pub record IsHearing (frame : ℕ) (h : HearingView) (text : List ℕ) : Type 0 where
  pub over : List ℕ
  pub closed : List ℕ
  pub is_over : IsOptional IsEntry h.over over
  pub is_closed : IsOptional IsEntry h.closed closed
  pub is : text ≡ (over ++ closed) ++ finding_note frame h.key h.finding

abbrev pub IsFramePart : (frame : ℕ) → FrameReportView → (text : List ℕ) → Type 0
IsFramePart frame NothingReported text = text ≡ []
IsFramePart frame (UnreadReported why) text = text ≡ unread_note frame why
IsFramePart frame (HeardReported h) text = IsHearing frame h text

-- ---- the counts, which the page shows at the top, and its end

abbrev pub count : (name : List ℕ) → (value : List ℕ) → List ℕ
count name value = codes "<div><b>" ++ (value ++ (codes "</b> " ++ (name ++ codes "</div>")))

abbrev pub endings : Totals → List ℕ
endings t =
    count (codes "transactions") (decimal t.transactions) ++ (count (codes "answered") (decimal t.answered) ++ (count (codes "errors") (decimal t.errors)
    ++ (count (codes "rejected") (decimal t.rejected) ++ (count (codes "aborted") (decimal t.aborted) ++ count (codes "unanswered") (decimal t.unanswered)))))

abbrev pub slowest_text : Option ℕ → List ℕ
slowest_text None = codes "-"
slowest_text (Some slowest) = decimal slowest

abbrev pub others : Tally → List ℕ
others t =
    count (codes "ms, the slowest") (slowest_text t.totals.slowest) ++ (count (codes "findings") (decimal t.findings) ++ (count (codes "frames") (decimal t.frames)
    ++ (count (codes "unread") (decimal t.unread) ++ count (codes "shown") (decimal t.shown))))

abbrev pub section : Tally → List ℕ
section t = codes "</table></div>\n<section>" ++ (endings t.totals ++ (others t ++ codes "</section>\n"))

-- how the transactions of a server ended
abbrev pub number_cell : List ℕ → List ℕ
number_cell text = codes "<td class=\"n\">" ++ (text ++ codes "</td>")

abbrev pub device_cells : Totals → List ℕ
device_cells t =
    number_cell (decimal t.transactions) ++ (number_cell (decimal t.answered) ++ (number_cell (decimal t.errors) ++ (number_cell (decimal t.rejected)
    ++ (number_cell (decimal t.aborted) ++ (number_cell (decimal t.unanswered) ++ number_cell (slowest_text t.slowest))))))

abbrev pub device_row : DeviceView → List ℕ
device_row d = codes "<tr><td>" ++ (peer_text d.server ++ (codes "</td>" ++ (device_cells d.totals ++ codes "</tr>\n")))

abbrev pub device_rows : List DeviceView → List ℕ
device_rows [] = []
device_rows (d ∷ devices) = device_row d ++ device_rows devices

abbrev pub last_part : Tally → List DeviceView → List ℕ
last_part t devices = (((section t ++ DEVICES.now) ++ device_rows devices) ++ codes "</tbody></table></div>\n") ++ BACK.now

abbrev pub IsLastPart : Selection → Tally → List DeviceView → (text : List ℕ) → Type 0
IsLastPart s t devices text = text ≡ last_part t devices

-- ---- a file: the records, their order and the status are those of the plain lines

abbrev pub IsReportOf : ReportOptions → (also : Option ℕ) → (input old new : Option (List ℕ)) → Status → Type 0
IsReportOf o also input old new status = report.IsReportOf FRONT.now (report.Untimed IsFramePart) IsEntry IsLastPart o also input old new status
