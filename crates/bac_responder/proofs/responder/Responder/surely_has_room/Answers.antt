-- There is room by what is known, or it needs none.
use Rattle.bac_apdu.specs.Views.{apdu_view}
use Rattle.bac_responder.proofs.KeptWithin.{no_more, room_for}
use Rattle.bac_responder.proofs.responder.Responder.surely_has_room.Goals as goal

pub returns-in-None-clause-within : goal.returns-in-None-clause-within
returns-in-None-clause-within g c =
    rw (← c.self.view_is) (λ yes now peer. no_more now peer (apdu_view c.args.apdu.now) c.args.room (g.S.SlotTable.slots c.self.inside.aged.table)
    (g.S.SlotTable.capacity c.self.inside.aged.table) c.self.inside.restart c.len-entries.ensures.distinct c.in-None.ensures)

pub returns-in-Some-clause-within : goal.returns-in-Some-clause-within
returns-in-Some-clause-within g c =
    rw (← c.self.view_is) (λ yes now peer. room_for now peer (apdu_view c.args.apdu.now) c.args.room (g.S.SlotTable.slots c.self.inside.aged.table)
    (g.S.SlotTable.capacity c.self.inside.aged.table) c.self.inside.restart c.len-entries.ensures.distinct c.self.inside.kept c.in-Some.len c.self.invariant.1
    c.in-Some.ensures (c.fits.ensures.0 yes))
