-- There is room for it.
use Rattle.std.proofs.Common.{◌≡◌, ◌≤◌, ◌+◌, Some, length, slice_get, sym, ap, subst}
use Rattle.std.specs.Prelude.{vec_capacity}
use Rattle.bac_journal.specs.declared.asks.Row.{Row}
use Rattle.bac_journal.specs.Entering.{tickets_of}
use Rattle.bac_journal.specs.Notes.{notes_view}
use Rattle.bac_journal.proofs.Rooms.{HasTicketRoom, ticket_there}
use Rattle.bac_journal.proofs.journal.Journal.note_stranger.Goals as goal

pub add_stranger_note-requires-clause-ticket_room : goal.add_stranger_note-requires-clause-ticket_room
add_stranger_note-requires-clause-ticket_room c =
    let value = c.deref_mut.ensures.value in
    let same : c.self.inside.rows.items ≡ c.deref_mut.result.now = cc in
    let rows = c.self.inside.rows.items in
    let client = c.args.note.transaction.client in
    let ticket = c.args.note.ticket in
    let room : HasTicketRoom rows client = ticket_there rows client c.args.self.now
    (ap (λ v. v.note_room.clients) (sym c.self.view_is)) c.requires.room in
    let next : ticket ≤ tickets_of client (notes_view c.self.inside.notes.items) =
    subst (λ v. ticket ≤ tickets_of client v.notes) (sym c.self.view_is) c.requires.ticket in
    let within : ticket ≤ length room.0.numbers.items =
    subst (λ k. ticket ≤ k) (sym (c.self.invariant.0.counted client room.0 room.1)) next in
    subst (λ all. (r : Row) × (slice_get all client ≡ Some r) × (length r.numbers.items + 1 ≤ vec_capacity r.numbers) × (ticket ≤ length r.numbers.items)) same
    (room.0, room.1, room.2, within)
