-- The script of the lines from here on is that of all.
use Rattle.std.proofs.Common.{◌≡◌, ◌+◌, ◌≤◌, length}
use Rattle.bac_text.specs.Lines.{lines_of}
use Rattle.bac_simulate.specs.Scripts.{script_from, script_of}
use Rattle.bac_simulate.proofs.script.read_first.Given as goal

abbrev pub invariant-loop-line : goal.invariant-loop-line
invariant-loop-line l =
    (script_from l.fn.notes l.number (lines_of l.left) ≡ script_of l.fn.notes (lines_of l.fn.text)) × (l.number + length l.left ≤ 1 + length l.fn.text)

abbrev pub decreases-loop-line : goal.decreases-loop-line
decreases-loop-line l = length l.left
