-- The nodes are there, and so is room.
use Rattle.std.proofs.Common.{◌≡◌, ◌≤◌, ◌+◌, Some, length, slice_get, sym, ap, subst}
use Rattle.std.specs.Prelude.{vec_capacity}
use Rattle.bac_journal.specs.declared.asks.Cell.{Cell}
use Rattle.bac_journal.specs.declared.asks.Row.{Row}
use Rattle.bac_journal.specs.Entering.{tickets_of}
use Rattle.bac_journal.specs.Index.{cell_at, IsOpenTo}
use Rattle.bac_journal.specs.Notes.{notes_view}
use Rattle.bac_journal.specs.Views.{key_view}
use Rattle.bac_journal.proofs.Pages.{open_cell}
use Rattle.bac_journal.proofs.Rooms.{open_there}
use Rattle.bac_journal.proofs.journal.Journal.note.Goals as goal

pub add_note-requires-clause-ticket_room : goal.add_note-requires-clause-ticket_room
add_note-requires-clause-ticket_room c =
    let value = c.deref_mut.ensures.value in
    let same : c.self.inside.rows.items ≡ c.deref_mut.result.now = cc in
    let rows = c.self.inside.rows.items in
    let client = c.args.note.transaction.client in
    let ticket = c.args.note.ticket in
    let room : IsOpenTo rows client c.args.note.transaction.server = open_there rows client c.args.note.transaction.server c.args.self.now
    (ap (λ v. v.note_room.clients) (sym c.self.view_is)) c.requires.room in
    let next : ticket ≤ tickets_of client (notes_view c.self.inside.notes.items) =
    subst (λ v. ticket ≤ tickets_of client v.notes) (sym c.self.view_is) c.requires.ticket in
    let within : ticket ≤ length room.0.numbers.items =
    subst (λ k. ticket ≤ k) (sym (c.self.invariant.0.counted client room.0 room.1)) next in
    subst (λ all. (r : Row) × (slice_get all client ≡ Some r) × (length r.numbers.items + 1 ≤ vec_capacity r.numbers) × (ticket ≤ length r.numbers.items)) same
    (room.0, room.1, (room.2).ticket, within)

pub add_note-requires-clause-there : goal.add_note-requires-clause-there
add_note-requires-clause-there c =
    let value = c.deref_mut.ensures.value in
    let same : c.self.inside.rows.items ≡ c.deref_mut.result.now = cc in
    let rows = c.self.inside.rows.items in
    let key = key_view c.args.note.transaction in
    let room : IsOpenTo rows c.args.note.transaction.client c.args.note.transaction.server =
    open_there rows c.args.note.transaction.client c.args.note.transaction.server c.args.self.now
    (ap (λ v. v.note_room.clients) (sym c.self.view_is)) c.requires.room in
    subst (λ l. (k : Cell) × (cell_at l key ≡ Some k)) same (open_cell rows key room c.fits.ensures)
