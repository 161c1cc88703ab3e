use Rattle.std.proofs.Common.{◌≡◌, ◌≤◌, ◌-◌, length}
use Rattle.bac_forms.specs.Gathered.{gathered_view}
use Rattle.bac_forms.specs.Scans.{scanned, scanned_whole}
use Rattle.bac_forms.proofs.scanning.scan_text.Given as goal

abbrev pub invariant-loop-octet : goal.invariant-loop-octet
invariant-loop-octet l =
    (scanned (length l.fn.text - length l.rest) l.scan (gathered_view l.gathered) l.rest ≡ scanned_whole l.fn.begun l.fn.text)
    × (length l.rest ≤ length l.fn.text)

abbrev pub decreases-loop-octet : goal.decreases-loop-octet
decreases-loop-octet l = length l.rest
