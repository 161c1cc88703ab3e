-- A copy more is counted.
use Rattle.std.proofs.Common.{◌≡◌, ◌+◌, ◌<◌, length, sym, subst, refl, arith, ◌≤◌}
use Rattle.bac_journal.specs.Records.{IsKept}
use Rattle.bac_journal.specs.Views.{key_view}
use Rattle.bac_journal.proofs.Index.{sent_few, kept_copy}
use Rattle.bac_journal.proofs.Rooms.{cell_leaves_room}
use Rattle.bac_journal.proofs.sending.add_copy.Goals as goal

pub returns-clause-kept : goal.returns-clause-kept
returns-clause-kept c = λ notes h.
    let key = key_view c.args.copy.transaction in
    let there = sym c.in-Some.ensures in
    let few = sent_few c.args.rows.now c.args.copies.now.items notes h key c.in-Some.found there c.fits.ensures in
    let room : length c.args.copies.now.items + 1 ≤ c.args.copies.now.cap = c.requires.room in
    let small : c.args.copies.now.cap < 9223372036854775808 = c.args.copies.now.small in
    let one : c.saturating_add.result ≡ c.in-Some.found.sent + 1 = omega (arith, c.saturating_add.ensures, few, room, small) in
    subst (λ l. IsKept c.set_known.new.rows l notes) (sym c.push_reserved.ensures.items)
    (kept_copy c.args.rows.now c.set_known.new.rows key _ c.set_known.ensures c.args.copies.now.items _ refl c.in-Some.found there refl one refl c.fits.ensures notes h)

pub returns-clause-rooms : goal.returns-clause-rooms
returns-clause-rooms c = cell_leaves_room c.args.rows.now c.set_known.new.rows c.args.copy.transaction.client _ _ _ c.set_known.ensures
