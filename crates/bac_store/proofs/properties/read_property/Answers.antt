use Rattle.std.proofs.Common.{◌≡◌, ◌≤◌, ◌∙◌, ℕ, sym, ap, subst, Option, Some, OnErr, map, length, arith}
use Rattle.std.proofs.lemmas.List.{length-map}
use Rattle.bac_service.specs.Replies.{held_by}
use Rattle.bac_service.specs.Views.{property_reference_view}
use Rattle.bac_store.specs.Lookups.{found_in}
use Rattle.bac_store.specs.Replies.{at_property, indexed_reply, read_reply}
use Rattle.bac_store.specs.Stores.{Property}
use Rattle.bac_store.specs.Views.{entry_view, slot_view}
use Rattle.bac_store.proofs.Places.{slice_get-map, slice_get-within}
use Rattle.bac_store.proofs.properties.read_property.Goals as goal

pub returns-in-Listed-clause-held : goal.returns-in-Listed-clause-held
returns-in-Listed-clause-held c =
    let o = entry_view c.args.entry.now in
    let r = property_reference_view c.args.reference in
    let slots = c.args.entry.now.slots.items in
    let at = c.in-Listed.at in
    let within = slice_get-within (map slot_view slots) at (rw c.in-Listed.is at (c.in-Some.ensures).0) in
    let is =
    (c.in-Some.ensures).1
    ∙ ap (found_in o) c.in-Listed.is
    ∙ slice_get-map slot_view slots at c.index.result.now (omega (arith, within, length-map slots slot_view))
    ∙ ap (λ x. Some (slot_view x)) (sym c.index.ensures) in
    let index : c.args.reference.index ≡ Some c.in-Some-index.index = c.in-Some-index.is in
    subst (λ (x : Option Property). OnErr c.read_element.result (1 ≤ length (held_by (at_property x (read_reply r))))) (sym is)
    (subst (λ (i : Option ℕ). OnErr c.read_element.result (1 ≤ length (held_by (indexed_reply r (slot_view c.index.result.now) i)))) (sym index)
    c.read_element.ensures.held)
