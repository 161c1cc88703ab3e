-- The newest note is seen first.
use Rattle.std.proofs.Common.{◌≡◌, map}
use Rattle.bac_journal.specs.Notes.{note_view}
use Rattle.bac_journal.proofs.Noted.{notes_mapped}
use Rattle.bac_journal.proofs.journal.Journal.same.Goals as goal

pub returns-then-not-are_same_notes : goal.returns-then-not-are_same_notes
returns-then-not-are_same_notes c = rw (← c.self.view_is, ← c.other.view_is) (
  λ t. absurd cc,
  λ s.
      let ours = c.deref-5.ensures.value in
      let theirs = c.deref-6.ensures.value in
      let mapped = notes_mapped c.self.inside.notes.items c.other.inside.notes.items s.notes in
      let same : map note_view c.deref-5.result.now ≡ map note_view c.deref-6.result.now = cc in
      absurd (c.if-not-are_same_notes.ensures same),
)
