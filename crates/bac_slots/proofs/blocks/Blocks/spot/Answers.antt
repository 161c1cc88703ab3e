-- One more block is passed over, or the number is in it.
use Rattle.std.proofs.Common.{◌≡◌, ◌+◌, ◌-◌, ◌<◌, ◌≤◌, ◌∙◌, ℕ, List, length, map, Some, refl, ap, sym, arith}
use Rattle.std.specs.List.{concat}
use Rattle.std.proofs.lemmas.Option.{slice_get_read}
use Rattle.bac_slots.specs.Indexes.{rank_at}
use Rattle.bac_slots.proofs.InBlocks.{held_at, more_blocks, rank_on}
use Rattle.bac_slots.proofs.blocks.Blocks.spot.Goals as goal

pub loop-at-preserved : goal.loop-at-preserved
loop-at-preserved c =
    let bs = c.self.inside.blocks in
    let b : ℕ = c.loop-at.block in
    let i = c.loop-at.invariant in
    let r : List ℕ = c.index.result.now in
    let q : List ℕ = c.index-in-loop-at.result.now in
    let there = slice_get_read bs.items _ b r refl i.within c.index.ensures in
    let here = slice_get_read bs.items _ b q refl i.within c.index-in-loop-at.ensures in
    let same : r ≡ q = let both : Some r ≡ Some q = sym there ∙ here in cc in
    let long = ap length same in
    let large : length q ≤ c.loop-at.at = omega (arith, c.loop-at-test.true, c.len.ensures.number, long) in
    let small = rw (← c.self.view_is) at c.requires in
    let below : rank_at (map length bs.items) b c.loop-at.at < length (concat bs.items) = omega (arith, i.same, small) in
    record {
      within = more_blocks bs.items b c.loop-at.at q here large below;
      same = ap (λ m. rank_at (map length bs.items) (b + 1) (c.loop-at.at - m)) c.len-at.ensures.number
          ∙ rank_on bs.items b c.loop-at.at q here large ∙ i.same;
    }

pub returns-clause-held : goal.returns-clause-held
returns-clause-held c =
    let bs = c.self.inside.blocks in
    let b : ℕ = c.loop-at.block in
    let r : List ℕ = c.index.result.now in
    let there = slice_get_read bs.items _ b r refl c.loop-at.invariant.within c.index.ensures in
    rw (← c.self.view_is) (held_at bs.items b c.loop-at.at r there (omega (arith, c.loop-at-test.false, c.len.ensures.number)))
