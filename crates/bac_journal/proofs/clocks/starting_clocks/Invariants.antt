-- The clocks so far.
use Rattle.std.proofs.Common.{◌≡◌, ℕ, map, take}
use Rattle.bac_journal.specs.Clocks.{starting, AreSane}
use Rattle.bac_journal.proofs.clocks.starting_clocks.Given as goal

abbrev pub invariant-loop-start : goal.invariant-loop-start
invariant-loop-start l =
    record {
      are : l.clocks.items ≡ map starting (take l.start-index l.starts);
      sane : (drift : ℕ) → AreSane 0 drift l.clocks.items;
    }
