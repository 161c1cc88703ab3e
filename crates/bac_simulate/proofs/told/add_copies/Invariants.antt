-- What is told of the copies from here on completes what is told of all.
use Rattle.std.proofs.Common.{ℕ, List, map, drop}
use Rattle.bac_journal.specs.Views.{copy_view}
use Rattle.bac_simulate.specs.Told.{Adds, AreSentTexts}
use Rattle.bac_simulate.proofs.told.add_copies.Given as goal

abbrev pub invariant-loop-number : goal.invariant-loop-number
invariant-loop-number l = (end : List ℕ)
    → Adds l.text.items end (AreSentTexts l.teller.style l.teller.moment l.number (drop l.number (map copy_view l.copies)))
    → Adds l.fn.text.items end (AreSentTexts l.teller.style l.teller.moment l.before (drop l.before (map copy_view l.copies)))
