-- The marks so far, with those of the copies from here on, are all.
use Rattle.std.proofs.Common.{◌≡◌, ◌++◌, map, drop}
use Rattle.bac_chart.specs.Views.{mark_view}
use Rattle.bac_journal.specs.Views.{copy_view}
use Rattle.bac_simulate.specs.Traces.{sent_marks}
use Rattle.bac_simulate.proofs.trace.add_copies.Given as goal

abbrev pub invariant-loop-number : goal.invariant-loop-number
invariant-loop-number l =
    map mark_view l.marks.items ++ sent_marks l.parts l.number (drop l.number (map copy_view l.copies))
    ≡ map mark_view l.fn.marks.items ++ sent_marks l.parts l.before (drop l.before (map copy_view l.copies))
