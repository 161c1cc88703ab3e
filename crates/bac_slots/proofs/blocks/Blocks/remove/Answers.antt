-- The number leaves its block.
use Rattle.std.proofs.Common.{◌∙◌, ℕ, List, length, refl, ap, arith}
use Rattle.std.specs.List.{concat}
use Rattle.std.proofs.lemmas.List.{length-set}
use Rattle.std.proofs.lemmas.List.Edits.{length-remove}
use Rattle.std.proofs.lemmas.Option.{slice_get_read}
use Rattle.bac_slots.proofs.InBlocks.{held_in, held_read, rank_below, taken_out}
use Rattle.bac_slots.proofs.blocks.Blocks.remove.Goals as goal

pub index_mut-requires : goal.index_mut-requires
index_mut-requires c =
    let bs = c.self.inside.blocks in
    let held = rw (← c.self.view_is) at c.requires in
    omega (arith, held_in bs.items c.args.spot.block c.args.spot.at held, bs.ok.0)

pub remove-requires : goal.remove-requires
remove-requires c =
    let bs = c.self.inside.blocks in
    let held = rw (← c.self.view_is) at c.requires in
    let within = held_in bs.items c.args.spot.block c.args.spot.at held in
    held_read bs.items c.args.spot.block c.args.spot.at c.index_mut.result.now held
    (slice_get_read bs.items _ c.args.spot.block c.index_mut.result.now refl within c.index_mut.ensures.value)

pub overflow_sub-self : goal.overflow_sub-self
overflow_sub-self c =
    let bs = c.self.inside.blocks in
    let held = rw (← c.self.view_is) at c.requires in
    let below = rank_below bs.items c.args.spot.block c.args.spot.at held in
    omega (arith, below, c.self.invariant.2)

pub close-requires : goal.close-requires
close-requires c =
    let bs = c.self.inside.blocks in
    let held = rw (← c.self.view_is) at c.requires in
    let within = held_in bs.items c.args.spot.block c.args.spot.at held in
    let long = length-set bs.items c.args.spot.block c.remove.new.self in
    omega (arith, within, long)

pub invariant_of-self : goal.invariant_of-self
invariant_of-self c =
    let bs = c.self.inside.blocks in
    let b : ℕ = c.args.spot.block in
    let r : List ℕ = c.index_mut.result.now in
    let held = rw (← c.self.view_is) at c.requires in
    let within = held_in bs.items b c.args.spot.at held in
    let at = slice_get_read bs.items _ b r refl within c.index_mut.ensures.value in
    let below = rank_below bs.items b c.args.spot.at held in
    let long = length-set bs.items b c.remove.new.self in
    let left = ap length (c.close.ensures.same
    ∙ taken_out bs.items b c.args.spot.at r c.remove.new.self at (held_read bs.items b c.args.spot.at r held at) c.remove.ensures) in
    let fewer = length-remove (concat bs.items) _ below in (
      c.close.ensures.some,
      omega (arith, c.close.ensures.fewer, c.close.ensures.room, long, c.self.invariant.1),
      omega (arith, left, fewer, below, c.self.invariant.2),
      omega (arith, c.close.ensures.room, c.self.invariant.3),
    )

pub returns-clause-numbers : goal.returns-clause-numbers
returns-clause-numbers c =
    let bs = c.self.inside.blocks in
    let b : ℕ = c.args.spot.block in
    let r : List ℕ = c.index_mut.result.now in
    let held = rw (← c.self.view_is) at c.requires in
    let within = held_in bs.items b c.args.spot.at held in
    let at = slice_get_read bs.items _ b r refl within c.index_mut.ensures.value in
    rw (← c.self.view_is)
    (c.close.ensures.same
    ∙ taken_out bs.items b c.args.spot.at r c.remove.new.self at (held_read bs.items b c.args.spot.at r held at) c.remove.ensures)
