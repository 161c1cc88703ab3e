-- What is printed of the facts from here on completes what is printed of all.
use Rattle.std.proofs.Common.{ℕ, List, Option, map, drop}
use Rattle.std.specs.Io.KnownBytes.{Appends}
use Rattle.bac_journal.specs.Notes.{note_view}
use Rattle.bac_network.specs.Views.{fact_view}
use Rattle.bac_simulate.specs.Printed.{facts_text}
use Rattle.bac_simulate.proofs.printing.print_facts.Given as goal

abbrev pub invariant-loop-number : goal.invariant-loop-number
invariant-loop-number g l = (end : Option (List ℕ))
    → Appends (g.W.Write.contents l.out) end (facts_text (map note_view l.asks) (drop l.number (map fact_view l.log)))
    → Appends (g.W.Write.contents l.fn.out) end (facts_text (map note_view l.asks) (drop l.before (map fact_view l.log)))
