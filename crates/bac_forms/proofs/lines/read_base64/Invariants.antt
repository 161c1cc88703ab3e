use Rattle.std.proofs.Common.{◌≡◌, ◌≤◌, ◌-◌, length}
use Rattle.bac_forms.specs.Base64.{base64_whole, lines_of, with_lines}
use Rattle.bac_forms.specs.Reading.{octets_of}
use Rattle.bac_forms.proofs.lines.read_base64.Given as goal

abbrev pub invariant-loop-line : goal.invariant-loop-line
invariant-loop-line l =
    (with_lines (length l.fn.text - length l.rest) (octets_of l.datagrams.items) (lines_of l.rest) ≡ base64_whole l.fn.text)
    × (length l.rest ≤ length l.fn.text)

abbrev pub decreases-loop-line : goal.decreases-loop-line
decreases-loop-line l = length l.rest
