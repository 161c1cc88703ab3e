use Rattle.std.proofs.Common.{◌∙◌, sym}
use Rattle.std.proofs.lemmas.List.{map-set}
use Rattle.bac_store.specs.Changes.{with_own_values}
use Rattle.bac_store.specs.Stores.{is_number}
use Rattle.bac_store.specs.Views.{slot_view}
use Rattle.bac_store.proofs.Places.{where_that-none, where_that-only}
use Rattle.bac_store.proofs.changing.set_slot.Goals as goal

pub returns-in-Some : goal.returns-in-Some
returns-in-Some c =
    map-set slot_view c.args.slots.now c.in-Some.at _
    ∙ sym (where_that-only slot_view (is_number c.args.number) (with_own_values c.args.values.octets.items) c.args.slots.now c.in-Some.at
    c.index-slots-at.result c.in-Some.ensures)

pub returns-in-None : goal.returns-in-None
returns-in-None c = sym (where_that-none slot_view (is_number c.args.number) (with_own_values c.args.values.octets.items) c.args.slots.now c.in-None.ensures)
