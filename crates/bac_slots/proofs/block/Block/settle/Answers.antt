-- Each number is settled where it is.
use Rattle.std.proofs.Common.{◌-◌, ◌∙◌, ap, take}
use Rattle.std.proofs.lemmas.List.{take-map}
use Rattle.bac_slots.specs.Indexes.{lowered}
use Rattle.bac_slots.proofs.block.Block.settle.Goals as goal

pub returns : goal.returns
returns c =
    let i = c.self.inside in
    rw (← c.self.view_is)
    (ap (λ l. take i.len l) c.settle.ensures ∙ take-map (λ n. lowered c.args.gone (n - c.args.first)) i.len i.cells)
