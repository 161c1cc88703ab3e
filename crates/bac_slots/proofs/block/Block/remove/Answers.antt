-- The numbers behind the place move by one.
use Rattle.std.proofs.Common.{◌-◌, ◌∙◌, ap, arith, take}
use Rattle.std.proofs.lemmas.List.{length-take-le}
use Rattle.bac_slots.proofs.InBlocks.{removed}
use Rattle.bac_slots.proofs.block.Block.remove.Goals as goal

pub returns : goal.returns
returns c =
    let i = c.self.inside in
    let whole = c.self.invariant.0 in
    let small = c.self.invariant.1 in
    let long = length-take-le i.len i.cells (omega (arith, small, whole)) in
    let within = rw (← c.self.view_is) at c.requires in
    rw (← c.self.view_is)
    (ap (λ l. take (i.len - 1) l) c.exchange.ensures
    ∙ removed i.cells i.len c.args.n 0 (omega (arith, within, long)) (omega (arith, small, whole)))
