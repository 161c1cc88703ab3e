-- Those counted so far, with those from here on, are all.
use Rattle.std.proofs.Common.{◌≡◌, ◌+◌, ◌≤◌, drop, map}
use Rattle.bac_journal.specs.Views.{copy_view, key_view}
use Rattle.bac_world.specs.World.{count_of}
use Rattle.bac_simulate.proofs.marks.count_of.Given as goal

abbrev pub invariant-loop-copy : goal.invariant-loop-copy
invariant-loop-copy l =
    (l.count + count_of (key_view l.transaction) (map copy_view (drop l.copy-index l.copies)) ≡ count_of (key_view l.transaction) (map copy_view l.copies))
    × (l.count ≤ l.copy-index)
