-- What the lines from here on give, after those so far, is what all lines give; and each has a line of its own.
use Rattle.std.proofs.Common.{◌≡◌, ◌+◌, ◌≤◌, map, length}
use Rattle.bac_text.specs.Lines.{lines_of}
use Rattle.bac_simulate.specs.Scripts.{limits_in, said_from}
use Rattle.bac_simulate.specs.Views.{line_view}
use Rattle.bac_simulate.proofs.Reading.{after}
use Rattle.bac_simulate.proofs.script.lines_in.Given as goal

abbrev pub invariant-loop-line : goal.invariant-loop-line
invariant-loop-line l =
    (after (map line_view l.lines.items) (said_from l.fn.notes l.in_head (limits_in l.world.nodes) (l.number + 1) (lines_of l.rest))
    ≡ said_from l.fn.notes l.fn.head (limits_in l.world.nodes) (l.before + 1) (lines_of l.fn.text))
    × ((l.number ≡ l.before + length l.lines.items) × (length l.lines.items + length l.rest ≤ length l.fn.text))

abbrev pub decreases-loop-line : goal.decreases-loop-line
decreases-loop-line l = length l.rest
