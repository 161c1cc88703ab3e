-- The spot is behind that of the number before.
use Rattle.std.proofs.Common.{arith}
use Rattle.bac_slots.proofs.InBlocks.{within_first, within_next, rank_more, at_least}
use Rattle.bac_slots.proofs.blocks.Blocks.gap.Goals as goal

pub returns-then-n-eq0-clause-within : goal.returns-then-n-eq0-clause-within
returns-then-n-eq0-clause-within c = rw (← c.self.view_is) (within_first c.self.inside.blocks.items c.self.invariant.0)

pub overflow_add-result : goal.overflow_add-result
overflow_add-result c =
    let small = at_least c.args.self.now.2 c.spot-last.result.block c.spot-last.result.at in
    omega (arith, small, c.spot-last.ensures.rank, c.if-n-eq0.false)

pub returns-clause-within : goal.returns-clause-within
returns-clause-within c = within_next c.args.self.now.2 c.spot-last.result.block c.spot-last.result.at c.spot-last.ensures.held

pub returns-clause-rank : goal.returns-clause-rank
returns-clause-rank c =
    let more = rank_more c.args.self.now.2 c.spot-last.result.block c.spot-last.result.at 1 in
    omega (arith, more, c.spot-last.ensures.rank, c.if-n-eq0.false)
