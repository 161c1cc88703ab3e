-- What is told of the facts from here on completes what is told of all.
use Rattle.std.proofs.Common.{ℕ, List, map, drop}
use Rattle.bac_journal.specs.Notes.{note_view}
use Rattle.bac_network.specs.Views.{fact_view}
use Rattle.bac_simulate.specs.Told.{Adds, AreFactTexts}
use Rattle.bac_simulate.proofs.told.add_facts.Given as goal

abbrev pub invariant-loop-number : goal.invariant-loop-number
invariant-loop-number l = (end : List ℕ)
    → Adds l.text.items end (AreFactTexts l.teller.style (map note_view l.asks) l.teller.moment (drop l.number (map fact_view l.log)))
    → Adds l.fn.text.items end (AreFactTexts l.teller.style (map note_view l.asks) l.teller.moment (drop l.before (map fact_view l.log)))
