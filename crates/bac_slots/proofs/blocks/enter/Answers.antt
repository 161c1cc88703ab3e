-- The number enters its block, which may become two.
use Rattle.std.proofs.Common.{◌∙◌, ℕ, List, refl, ap, arith}
use Rattle.std.specs.List.{concat}
use Rattle.std.proofs.lemmas.List.{length-set}
use Rattle.std.proofs.lemmas.Option.{slice_get_read}
use Rattle.bac_slots.proofs.InBlocks.{within_in, within_read, put_in, put_split}
use Rattle.bac_slots.proofs.blocks.enter.Goals as goal

pub index_mut-requires : goal.index_mut-requires
index_mut-requires c =
    let bs = c.args.blocks.now in
    omega (arith, within_in bs.items c.args.spot.block c.args.spot.at c.requires.within, bs.ok.0)

pub enter-requires : goal.enter-requires
enter-requires c =
    let bs = c.args.blocks.now in
    let within = within_in bs.items c.args.spot.block c.args.spot.at c.requires.within in
    within_read bs.items c.args.spot.block c.args.spot.at c.index_mut.result.now c.requires.within
    (slice_get_read bs.items _ c.args.spot.block c.index_mut.result.now refl within c.index_mut.ensures.value)

pub put_behind-requires-clause-within : goal.put_behind-requires-clause-within
put_behind-requires-clause-within c =
    let bs = c.args.blocks.now in
    let within = within_in bs.items c.args.spot.block c.args.spot.at c.requires.within in
    let long = length-set bs.items c.args.spot.block c.enter.new.self in
    omega (arith, within, long)

pub returns-in-None-clause-numbers : goal.returns-in-None-clause-numbers
returns-in-None-clause-numbers c =
    let bs = c.args.blocks.now in
    let b : ℕ = c.args.spot.block in
    let r : List ℕ = c.index_mut.result.now in
    let within = within_in bs.items b c.args.spot.at c.requires.within in
    let at = slice_get_read bs.items _ b r refl within c.index_mut.ensures.value in
    put_in c.args.number bs.items b c.args.spot.at r c.enter.new.self at (within_read bs.items b c.args.spot.at r c.requires.within at) c.in-None.ensures

pub returns-in-Some-clause-numbers : goal.returns-in-Some-clause-numbers
returns-in-Some-clause-numbers c =
    let bs = c.args.blocks.now in
    let b : ℕ = c.args.spot.block in
    let r : List ℕ = c.index_mut.result.now in
    let within = within_in bs.items b c.args.spot.at c.requires.within in
    let at = slice_get_read bs.items _ b r refl within c.index_mut.ensures.value in
    ap concat c.put_behind.ensures.blocks
    ∙ put_split c.args.number bs.items b c.args.spot.at r c.enter.new.self c.in-Some.more at
    (within_read bs.items b c.args.spot.at r c.requires.within at) c.in-Some.ensures
