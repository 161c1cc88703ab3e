-- A run of the lines from here on completes a run of all.
use Rattle.std.proofs.Common.{◌+◌, Bool, List, map, drop}
use Rattle.bac_chart.specs.declared.mark.Mark.{Mark}
use Rattle.bac_network.specs.Histories.{WorldView}
use Rattle.bac_simulate.specs.Drawn.{in_marks}
use Rattle.bac_simulate.specs.Runs.{Runs}
use Rattle.bac_simulate.specs.Traces.{AppendsMarks}
use Rattle.bac_simulate.specs.Views.{line_view}
use Rattle.bac_simulate.proofs.trace.trace_lines.Given as goal

abbrev pub invariant-loop-place : goal.invariant-loop-place
invariant-loop-place g l = (all : Bool) (new : WorldView) (end : List Mark)
    → AppendsMarks l.marks.items end (Runs in_marks (l.before + 1 + l.place) (drop l.place (map line_view l.lines)) all l.world new)
    → AppendsMarks l.fn.marks.items end (Runs in_marks (l.before + 1) (map line_view l.lines) all l.fn.world new)
