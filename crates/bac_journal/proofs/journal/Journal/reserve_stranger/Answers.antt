-- There is room for the note, and in its client's row.
use Rattle.std.proofs.Common.{◌≡◌, length, map, slice_get, ap, ◌∙◌, arith}
use Rattle.bac_journal.specs.Journals.{room_of}
use Rattle.bac_journal.proofs.Rooms.{on_ok, refilled, ticket_seen}
use Rattle.bac_journal.proofs.journal.Journal.reserve_stranger.Goals as goal

pub returns-clause-ok : goal.returns-clause-ok
returns-clause-ok c = on_ok c.reserve_ticket.result (λ ok.
    let h = c.reserve_ticket.ensures.ok ok in
    let rows = c.reserve_ticket.new.rows in
    let value = c.deref_mut.ensures.value in
    let many = c.reserve_ticket.ensures.many in
    let long : length rows ≡ length c.self.inside.rows.items = cc in
    let seen = ticket_seen rows c.args.client h in
    record {
      note = omega (arith, c.in_ok-reserve.ensures.ok, c.reserve.new.self.ok.0);
      room = room_of h.0;
      at = ap (λ l. slice_get (map room_of l) c.args.client)
          (refilled c.self.inside.rows.len rows c.self.inside.rows.items long c.self.inside.rows.ok.0) ∙ seen.0;
      ticket = seen.1;
    })
