-- The head and the marks before this one are drawn.
use Rattle.std.proofs.Common.{◌++◌, map}
use Rattle.std.specs.Io.KnownBytes.{Appends}
use Rattle.bac_chart.specs.Drawings.{head_text, marks_text}
use Rattle.bac_chart.specs.Views.{mark_view}
use Rattle.bac_chart.proofs.drawing.print_drawing.Given as goal

abbrev pub invariant-loop-place : goal.invariant-loop-place
invariant-loop-place g l =
    Appends (g.W.Write.contents l.fn.out) (g.W.Write.contents l.out) (head_text l.form l.nodes ++ marks_text l.form l.nodes (map mark_view l.marks) l.place)
