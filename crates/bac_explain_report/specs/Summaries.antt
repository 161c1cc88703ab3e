-- The summary at the end.
use Rattle.std.specs.Prelude.{ℕ, nat_le, ◌++◌, List, [], ◌∷◌, length, codes, decimal, Option, Some, None, if◌then◌else◌}
use Rattle.bac_explain_report.specs.Devices.{DeviceView}
use Rattle.bac_explain_report.specs.Selections.{is_narrow}
use Rattle.bac_explain_report.specs.declared.selection.Selection.{Selection}
use Rattle.bac_explain_report.specs.declared.tally.Tally.{Tally}
use Rattle.bac_explain_report.specs.declared.totals.Totals.{Totals}
use Rattle.bac_text.specs.Peers.{peer_text}

abbrev pub slowest_text : Option ℕ → List ℕ
slowest_text None = codes "-"
slowest_text (Some slowest) = decimal slowest ++ codes "ms"

abbrev pub endings_text : Totals → List ℕ
endings_text t =
    codes "transactions=" ++ (decimal t.transactions ++ (codes " answered=" ++ (decimal t.answered ++ (codes " errors=" ++ (decimal t.errors
    ++ (codes " rejected=" ++ (decimal t.rejected ++ (codes " aborted=" ++ (decimal t.aborted ++ (codes " unanswered=" ++ decimal t.unanswered))))))))))

abbrev pub totals_text : Totals → List ℕ
totals_text t = endings_text t ++ (codes " slowest=" ++ slowest_text t.slowest)

-- the line of a server
abbrev pub device_line : DeviceView → List ℕ
device_line d = peer_text d.server ++ (codes " " ++ (totals_text d.totals ++ codes "\n"))

abbrev pub device_lines : List DeviceView → List ℕ
device_lines [] = []
device_lines (d ∷ devices) = device_line d ++ device_lines devices

-- of the servers, if there are several
abbrev pub devices_text : List DeviceView → List ℕ
devices_text devices = if nat_le (length devices) 1 then [] else device_lines devices

abbrev pub summary_text : Tally → List ℕ
summary_text t =
    totals_text t.totals ++ (codes " findings=" ++ (decimal t.findings ++ (codes " frames=" ++ (decimal t.frames ++ (codes " unread="
    ++ (decimal t.unread ++ codes "\n"))))))

-- how many of the transactions were printed, where a filter is given
abbrev pub shown_line : Selection → Tally → List ℕ
shown_line s t =
    if is_narrow s then codes "shown=" ++ (decimal t.shown ++ (codes " of " ++ (decimal t.totals.transactions ++ codes "\n"))) else []

abbrev pub last_lines : Selection → Tally → List DeviceView → List ℕ
last_lines s t devices = (devices_text devices ++ shown_line s t) ++ summary_text t
