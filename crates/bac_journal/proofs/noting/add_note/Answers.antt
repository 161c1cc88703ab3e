-- One ask more is noted.
use Rattle.std.proofs.Common.{◌≡◌, ◌∷◌, Option, None, refl, sym, ap, subst, ◌∙◌}
use Rattle.std.specs.Option.{option_map}
use Rattle.bac_npdu.specs.Peers.{PeerView}
use Rattle.bac_npdu.specs.Views.{peer_view}
use Rattle.bac_world.specs.World.{Note}
use Rattle.bac_journal.specs.Records.{IsKept}
use Rattle.bac_journal.specs.Views.{key_view}
use Rattle.bac_journal.specs.Notes.{note_view, notes_view}
use Rattle.bac_journal.proofs.Noted.{kept_note, numbers_kept, notes_push, notes_many}
use Rattle.bac_journal.proofs.noting.add_note.Goals as goal

pub add_number-requires : goal.add_number-requires
add_number-requires c =
    numbers_kept c.args.rows.now c.set_known.new.rows c.args.note.transaction.client _ _ c.args.note.ticket _ c.set_known.ensures c.requires.ticket_room

pub returns-clause-notes : goal.returns-clause-notes
returns-clause-notes c = ap notes_view c.push_reserved.ensures.items ∙ notes_push c.args.notes.now.items c.args.note

pub returns-clause-kept : goal.returns-clause-kept
returns-clause-kept c = λ copies ticket h.
    let key = key_view c.args.note.transaction in
    let there = sym c.in-Some.ensures in
    let asked : Option PeerView → Note = λ o. record { key = key; ticket = c.args.note.ticket; away = o } in
    let noted : asked None ≡ note_view c.args.note = ap asked (ap (option_map peer_view) (sym c.requires.node)) in
    subst (IsKept c.add_number.new.rows copies)
    (sym (ap notes_view c.push_reserved.ensures.items ∙ notes_push c.args.notes.now.items c.args.note))
    (subst (λ n. IsKept c.add_number.new.rows copies (n ∷ notes_view c.args.notes.now.items)) noted
    (kept_note c.args.rows.now c.set_known.new.rows c.add_number.new.rows key _ c.in-Some.found _ c.set_known.ensures
    c.args.note.ticket c.add_number.ensures c.fits.ensures there refl refl copies (notes_view c.args.notes.now.items)
    (c.len-number.ensures ∙ c.args.notes.now.ok.0 ∙ notes_many c.args.notes.now.items) h))
