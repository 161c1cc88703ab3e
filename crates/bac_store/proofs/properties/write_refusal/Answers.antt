use Rattle.std.proofs.Common.{◌∙◌, sym, ap, Some, map, arith}
use Rattle.std.proofs.lemmas.List.{length-map}
use Rattle.bac_service.specs.Views.{property_reference_view}
use Rattle.bac_store.specs.Lookups.{found_in}
use Rattle.bac_store.specs.Replies.{at_property, write_reply}
use Rattle.bac_store.specs.Views.{entry_view, slot_view}
use Rattle.bac_store.proofs.Places.{slice_get-map, slice_get-within}
use Rattle.bac_store.proofs.properties.write_refusal.Goals as goal

pub returns-in-Some-Computed : goal.returns-in-Some-Computed
returns-in-Some-Computed c =
    let o = entry_view c.args.entry.now in
    let values = c.args.values.now in
    let is = (c.in-Some-Computed.ensures).1 ∙ ap (found_in o) c.in-Some-Computed.field-0-is in
    c.own_refusal.ensures
    ∙ sym (ap (λ p. at_property p (write_reply (property_reference_view c.args.reference) values)) is)

pub returns-in-Some-Listed : goal.returns-in-Some-Listed
returns-in-Some-Listed c =
    let o = entry_view c.args.entry.now in
    let slots = c.args.entry.now.slots.items in
    let at = c.in-Some-Listed.at in
    let values = c.args.values.now in
    let within = slice_get-within (map slot_view slots) at (rw c.in-Some-Listed.field-0-is at (c.in-Some-Listed.ensures).0) in
    let is =
    (c.in-Some-Listed.ensures).1
    ∙ ap (found_in o) c.in-Some-Listed.field-0-is
    ∙ slice_get-map slot_view slots at c.index.result.now (omega (arith, within, length-map slots slot_view))
    ∙ ap (λ x. Some (slot_view x)) (sym c.index.ensures) in
    c.slot_refusal.ensures ∙ sym (ap (λ p. at_property p (write_reply (property_reference_view c.args.reference) values)) is)
