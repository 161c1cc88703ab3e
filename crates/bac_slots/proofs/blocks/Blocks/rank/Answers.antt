-- One more block is counted.
use Rattle.std.proofs.Common.{◌≡◌, ◌+◌, ◌<◌, ℕ, List, length, map, refl, arith}
use Rattle.std.proofs.lemmas.Option.{slice_get_read}
use Rattle.bac_slots.specs.Indexes.{rank_at}
use Rattle.bac_slots.proofs.InBlocks.{within_in, rank_add, rank_grows, rank_within}
use Rattle.bac_slots.proofs.blocks.Blocks.rank.Goals as goal

pub index-requires : goal.index-requires
index-requires c =
    let bs = c.self.inside.blocks in
    let within = rw (← c.self.view_is) at c.requires in
    omega (arith, within_in bs.items c.args.spot.block c.args.spot.at within, c.loop-n-test.true, bs.ok.0)

pub overflow_add-rank : goal.overflow_add-rank
overflow_add-rank c =
    let bs = c.self.inside.blocks in
    let n : ℕ = c.loop-n.n in
    let r : List ℕ = c.index.result.now in
    let within = rw (← c.self.view_is) at c.requires in
    let inside : n < length bs.items = omega (arith, within_in bs.items c.args.spot.block c.args.spot.at within, c.loop-n-test.true) in
    let add = rank_add bs.items n c.args.spot.at r (slice_get_read bs.items _ n r refl inside c.index.ensures) in
    let grows = rank_grows (map length bs.items) (n + 1) c.args.spot.block c.args.spot.at (omega (arith, c.loop-n-test.true)) in
    let whole = rank_within bs.items c.args.spot.block c.args.spot.at within in
    let all = rw (← c.self.view_is) at c.len-len.ensures in
    let now : c.loop-n.rank ≡ rank_at (map length bs.items) n c.args.spot.at = c.loop-n.invariant in
    omega (arith, now, add, grows, whole, all, c.len-rank.ensures.number, c.len-len.type_inv)

pub loop-n-preserved : goal.loop-n-preserved
loop-n-preserved c =
    let bs = c.self.inside.blocks in
    let n : ℕ = c.loop-n.n in
    let r : List ℕ = c.index.result.now in
    let within = rw (← c.self.view_is) at c.requires in
    let inside : n < length bs.items = omega (arith, within_in bs.items c.args.spot.block c.args.spot.at within, c.loop-n-test.true) in
    let add = rank_add bs.items n c.args.spot.at r (slice_get_read bs.items _ n r refl inside c.index.ensures) in
    let now : c.loop-n.rank ≡ rank_at (map length bs.items) n c.args.spot.at = c.loop-n.invariant in
    let then : c.loop-n.rank + c.len-rank.result ≡ rank_at (map length bs.items) (n + 1) c.args.spot.at =
    omega (arith, now, add, c.len-rank.ensures.number) in
    then
