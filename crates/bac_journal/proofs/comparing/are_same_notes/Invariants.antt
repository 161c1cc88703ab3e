-- The first so many notes are the same.
use Rattle.bac_store.proofs.Equal.{AreSameUpTo}
use Rattle.bac_journal.specs.Notes.{note_view}
use Rattle.bac_journal.proofs.comparing.are_same_notes.Given as goal

abbrev pub invariant-loop-at : goal.invariant-loop-at
invariant-loop-at l = AreSameUpTo note_view l.at l.ones l.others
