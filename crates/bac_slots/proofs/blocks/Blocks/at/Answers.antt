-- The number is in that block.
use Rattle.std.proofs.Common.{refl, arith}
use Rattle.std.proofs.lemmas.Option.{slice_get_read}
use Rattle.bac_slots.proofs.InBlocks.{held_in, held_read, rank_read}
use Rattle.bac_slots.proofs.blocks.Blocks.at.Goals as goal

pub index-requires : goal.index-requires
index-requires c =
    let bs = c.self.inside.blocks in
    let held = rw (← c.self.view_is) at c.requires in
    omega (arith, held_in bs.items c.args.spot.block c.args.spot.at held, bs.ok.0)

pub at-requires : goal.at-requires
at-requires c =
    let bs = c.self.inside.blocks in
    let held = rw (← c.self.view_is) at c.requires in
    let within = held_in bs.items c.args.spot.block c.args.spot.at held in
    held_read bs.items c.args.spot.block c.args.spot.at c.index.result.now held
    (slice_get_read bs.items _ c.args.spot.block c.index.result.now refl within c.index.ensures)

pub returns : goal.returns
returns c =
    let bs = c.self.inside.blocks in
    let held = rw (← c.self.view_is) at c.requires in
    let within = held_in bs.items c.args.spot.block c.args.spot.at held in
    let at = slice_get_read bs.items _ c.args.spot.block c.index.result.now refl within c.index.ensures in
    rw (← c.self.view_is)
    (rank_read bs.items c.args.spot.block c.args.spot.at c.at.result c.index.result.now at
    (held_read bs.items c.args.spot.block c.args.spot.at c.index.result.now held at) c.at.ensures)
