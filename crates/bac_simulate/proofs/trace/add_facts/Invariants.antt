-- The marks so far, with those of the facts from here on, are all.
use Rattle.std.proofs.Common.{◌≡◌, ◌++◌, map, drop}
use Rattle.bac_chart.specs.Views.{mark_view}
use Rattle.bac_journal.specs.Notes.{note_view}
use Rattle.bac_network.specs.Views.{fact_view}
use Rattle.bac_simulate.specs.Traces.{facts_marks}
use Rattle.bac_simulate.proofs.trace.add_facts.Given as goal

abbrev pub invariant-loop-number : goal.invariant-loop-number
invariant-loop-number l =
    map mark_view l.marks.items ++ facts_marks l.now (map note_view l.asks) (drop l.number (map fact_view l.log))
    ≡ map mark_view l.fn.marks.items ++ facts_marks l.now (map note_view l.asks) (drop l.before (map fact_view l.log))
