-- The records of the copies from here on complete those of all.
use Rattle.std.proofs.Common.{ℕ, List, Option, map, drop}
use Rattle.std.specs.Io.KnownBytes.{Appends}
use Rattle.bac_journal.specs.Views.{copy_view}
use Rattle.bac_simulate.specs.Captures.{records_of}
use Rattle.bac_simulate.proofs.capture.print_copies.Given as goal

abbrev pub invariant-loop-number : goal.invariant-loop-number
invariant-loop-number g l = (end : Option (List ℕ))
    → Appends (g.W.Write.contents l.out) end (records_of l.parts (drop l.number (map copy_view l.copies)))
    → Appends (g.W.Write.contents l.fn.out) end (records_of l.parts (map copy_view l.copies))
