-- The numbers from the place on move by one.
use Rattle.std.proofs.Common.{◌+◌, ◌∙◌, ap, arith, take}
use Rattle.std.proofs.lemmas.List.{length-take-le}
use Rattle.bac_slots.proofs.InBlocks.{inserted}
use Rattle.bac_slots.proofs.block.Block.insert.Goals as goal

pub returns : goal.returns
returns c =
    let i = c.self.inside in
    let whole = c.self.invariant.0 in
    let long = length-take-le i.len i.cells (omega (arith, c.self.invariant.1, whole)) in
    let within = rw (← c.self.view_is) at c.requires.within in
    let room = rw (← c.self.view_is) at c.requires.room in
    rw (← c.self.view_is)
    (ap (λ l. take (i.len + 1) l) c.exchange.ensures
    ∙ inserted i.cells i.len c.args.n c.args.number (omega (arith, within, long)) (omega (arith, room, long, whole)))
