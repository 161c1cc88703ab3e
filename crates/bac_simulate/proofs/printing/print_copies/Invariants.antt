-- What is printed of the copies from here on completes what is printed of all.
use Rattle.std.proofs.Common.{ℕ, List, Option, map, drop}
use Rattle.std.specs.Io.KnownBytes.{Appends}
use Rattle.bac_journal.specs.Views.{copy_view}
use Rattle.bac_simulate.specs.Printed.{copies_text}
use Rattle.bac_simulate.proofs.printing.print_copies.Given as goal

abbrev pub invariant-loop-number : goal.invariant-loop-number
invariant-loop-number g l = (end : Option (List ℕ))
    → Appends (g.W.Write.contents l.out) end (copies_text l.number (drop l.number (map copy_view l.copies)))
    → Appends (g.W.Write.contents l.fn.out) end (copies_text l.before (drop l.before (map copy_view l.copies)))
