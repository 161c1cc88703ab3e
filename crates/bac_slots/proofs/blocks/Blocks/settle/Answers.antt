-- Each number is settled where it is.
use Rattle.std.proofs.Common.{◌-◌, ◌∙◌, ℕ, length, ap, arith}
use Rattle.std.specs.List.{concat}
use Rattle.std.proofs.lemmas.List.{length-map}
use Rattle.bac_slots.specs.Indexes.{lowered}
use Rattle.bac_slots.proofs.InBlocks.{concat_map, length_settled}
use Rattle.bac_slots.proofs.blocks.Blocks.settle.Goals as goal

pub invariant_of-self : goal.invariant_of-self
invariant_of-self c =
    let i = c.self.inside in
    let f : ℕ → ℕ = λ n. lowered c.args.gone (n - c.args.first) in
    let many = ap length c.settle_blocks.ensures.blocks ∙ length_settled f i.blocks.items in
    let long = ap length (ap concat c.settle_blocks.ensures.blocks ∙ concat_map f i.blocks.items) ∙ length-map (concat i.blocks.items) f in (
      omega (arith, many, c.self.invariant.0),
      omega (arith, many, c.settle_blocks.ensures.room, c.self.invariant.1),
      omega (arith, long, c.self.invariant.2),
      omega (arith, c.settle_blocks.ensures.room, c.self.invariant.3),
    )

pub returns-clause-numbers : goal.returns-clause-numbers
returns-clause-numbers c =
    let i = c.self.inside in
    let f : ℕ → ℕ = λ n. lowered c.args.gone (n - c.args.first) in
    rw (← c.self.view_is) (ap concat c.settle_blocks.ensures.blocks ∙ concat_map f i.blocks.items)
