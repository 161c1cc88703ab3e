-- The part is halved; it begins at the same block or in the middle.
use Rattle.std.proofs.Common.{◌-◌, length, arith}
use Rattle.bac_slots.proofs.Indexes.{digits_grow, few_upper}
use Rattle.bac_slots.proofs.guide.Guide.block_of.Goals.{then-is_after, else-is_after}
use Rattle.bac_slots.proofs.guide.Guide.block_of.Goals as goal

pub loop-count-init : goal.loop-count-init
loop-count-init g c =
    let less = digits_grow (c.len-count.result - 1) (length c.args.self.now.firsts.items) (omega (arith, c.len-count.ensures)) in
    record { part = omega (arith, c.len-count.ensures); few = omega (arith, less) }

pub loop-count-preserved : goal.loop-count-preserved
loop-count-preserved g c =
    let i = c.loop-count.invariant in
    record {
      part = elim c.if-is_after.branch [
        | then-is_after w ↦ omega (arith, w.block-is, i.part)
        | else-is_after w ↦ omega (arith, w.block-is, i.part)
      ];
      few = few_upper c.loop-count.compared.comparisons c.add.new.self.comparisons c.loop-count.count c.args.compared.now.comparisons _
          c.loop-count-test.true (omega (arith, c.add.ensures.sum)) i.few;
    }
