-- One ask more of a stranger is noted.
use Rattle.std.proofs.Common.{sym, ap, subst, ◌∙◌}
use Rattle.std.specs.Option.{option_map}
use Rattle.bac_npdu.specs.Views.{peer_view}
use Rattle.bac_journal.specs.Records.{IsKept}
use Rattle.bac_journal.specs.Views.{key_view}
use Rattle.bac_journal.specs.Notes.{notes_view}
use Rattle.bac_journal.proofs.Noted.{kept_away, is_asked, notes_push, notes_many}
use Rattle.bac_journal.proofs.noting.add_stranger_note.Goals as goal

pub add_number-requires : goal.add_number-requires
add_number-requires c = c.requires.ticket_room

pub returns-clause-notes : goal.returns-clause-notes
returns-clause-notes c = ap notes_view c.push_reserved.ensures.items ∙ notes_push c.args.notes.now.items c.args.note

pub returns-clause-kept : goal.returns-clause-kept
returns-clause-kept c = λ copies ticket h.
    subst (IsKept c.add_number.new.rows copies)
    (sym (ap notes_view c.push_reserved.ensures.items ∙ notes_push c.args.notes.now.items c.args.note))
    (kept_away c.args.rows.now c.add_number.new.rows (key_view c.args.note.transaction) _ c.args.note.ticket c.add_number.ensures
    (option_map peer_view c.args.note.stranger) (is_asked c.args.note.stranger c.requires.stranger) copies (notes_view c.args.notes.now.items)
    (c.len-number.ensures ∙ c.args.notes.now.ok.0 ∙ notes_many c.args.notes.now.items) h)
