use Rattle.std.proofs.Common.{Some, sym, ap}
use Rattle.bac_store.specs.Stores.{is_number}
use Rattle.bac_store.specs.Views.{slot_view}
use Rattle.bac_store.proofs.Places.{first_that-none, first_that-only}
use Rattle.bac_store.proofs.store_lookups.slot_of.Goals as goal

pub returns-in-Some : goal.returns-in-Some
returns-in-Some c =
    rw (first_that-only slot_view (is_number c.args.number) c.args.slots.now c.in-Some.at c.index-slots-at.result c.in-Some.ensures)
    (ap (λ s. Some (slot_view s)) c.index-slots-at.is)

pub returns-in-None : goal.returns-in-None
returns-in-None c = sym (first_that-none slot_view (is_number c.args.number) c.args.slots.now c.in-None.ensures)
