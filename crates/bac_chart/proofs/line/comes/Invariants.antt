-- What comes at the marks from here on comes at all of them.
use Rattle.std.proofs.Common.{◌≡◌, drop, map}
use Rattle.bac_chart.specs.Marks.{comes}
use Rattle.bac_chart.specs.Views.{mark_view}
use Rattle.bac_chart.proofs.line.comes.Given as goal

abbrev pub invariant-loop-mark : goal.invariant-loop-mark
invariant-loop-mark l = comes l.fn.number (map mark_view (drop l.mark-index l.marks)) ≡ comes l.fn.number (map mark_view l.marks)
