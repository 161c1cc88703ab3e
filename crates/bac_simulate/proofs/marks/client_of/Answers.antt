use Rattle.std.proofs.Common.{◌≤◌, length, refl, sym, ap, ◌∙◌, arith}
use Rattle.std.proofs.lemmas.Option.{slice_get_past, slice_get_read, slice_get-map}
use Rattle.std.specs.Option.{option_map}
use Rattle.bac_journal.specs.Notes.{note_view}
use Rattle.bac_world.specs.World.{Note}
use Rattle.bac_simulate.proofs.marks.client_of.Goals as goal

pub returns-in-Some : goal.returns-in-Some
returns-in-Some c =
    let asks = c.args.asks.now in
    let n = c.in-Some.noted.now in
    let at = slice_get_read asks (length asks) c.args.ask n refl c.in-Some.ensures.lookup.3.0 c.in-Some.ensures.lookup.1 in
    sym (ap (option_map (λ (m : Note). m.key.client)) (slice_get-map note_view asks c.args.ask ∙ ap (option_map note_view) at))

pub returns-in-None : goal.returns-in-None
returns-in-None c =
    let asks = c.args.asks.now in
    let past : length asks ≤ c.args.ask = omega (arith, c.in-None.ensures.lookup.3) in
    sym (ap (option_map (λ (m : Note). m.key.client)) (slice_get-map note_view asks c.args.ask ∙ ap (option_map note_view) (slice_get_past asks c.args.ask past)))
