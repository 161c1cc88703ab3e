-- The note of that number says it.
use Rattle.std.proofs.Common.{◌≡◌, Option, Some, None, length, sym, ap, refl, ◌∙◌, arith}
use Rattle.std.proofs.lemmas.Option.{slice_get_read, slice_get_past}
use Rattle.std.specs.Prelude.{is_some}
use Rattle.std.specs.Option.{option_map}
use Rattle.bac_npdu.specs.declared.peer.Peer.{Peer}
use Rattle.bac_npdu.specs.Views.{peer_view}
use Rattle.bac_journal.specs.Notes.{note_view}
use Rattle.bac_journal.proofs.Noted.{asked_away, away_at}
use Rattle.bac_journal.proofs.noting.is_of_stranger.Goals as goal

same_stranger : (o : Option Peer) → is_some o ≡ is_some (option_map peer_view o)
same_stranger None = refl
same_stranger (Some p) = refl

pub returns-in-Some : goal.returns-in-Some
returns-in-Some c =
    let notes = c.args.notes.now in
    let note = c.in-Some.note.now in
    let there = slice_get_read notes (length notes) c.args.number note refl c.in-Some.ensures.lookup.3.0 c.in-Some.ensures.lookup.1 in
    c.is_some.ensures ∙ same_stranger c.in-Some.note.now.stranger
    ∙ sym (away_at c.args.notes.now c.args.number ∙ ap (λ o. asked_away (option_map note_view o)) there)

pub returns-in-None : goal.returns-in-None
returns-in-None c =
    let past = slice_get_past c.args.notes.now c.args.number (omega (arith, c.in-None.ensures.lookup.3)) in
    sym (away_at c.args.notes.now c.args.number ∙ ap (λ o. asked_away (option_map note_view o)) past)
