-- The part is halved; it begins at the same place or behind the middle.
use Rattle.std.proofs.Common.{◌-◌, ◌/◌, length, arith}
use Rattle.bac_slots.proofs.Indexes.{digits_grow, few_half}
use Rattle.bac_slots.proofs.index_slots.place_in.Goals.{then-is_less, else-is_less}
use Rattle.bac_slots.proofs.index_slots.place_in.Goals as goal

pub loop-count-init : goal.loop-count-init
loop-count-init g c =
    let less = digits_grow (length c.numbers_of-numbers.result.now) 128 c.numbers_of-numbers.ensures in
    record { part = omega arith; few = omega (arith, less) }

pub loop-count-preserved-then-is_less-2 : goal.loop-count-preserved-then-is_less-2
loop-count-preserved-then-is_less-2 g c =
    let i = c.loop-count.invariant in
    record {
      part = elim c.if-is_less.branch [
        | then-is_less w ↦ omega (arith, w.first-is, i.part, c.loop-count-test.true)
        | else-is_less w ↦ omega (arith, w.first-is, i.part, c.loop-count-test.true)
      ];
      few = few_half c.loop-count.compared.comparisons c.add.new.self.comparisons c.loop-count.count
          (c.loop-count.count - c.loop-count.count / 2 - 1) c.args.compared.now.comparisons 8
          c.loop-count-test.true (omega arith) (omega (arith, c.add.ensures.sum)) i.few;
    }

pub loop-count-preserved : goal.loop-count-preserved
loop-count-preserved g c =
    let i = c.loop-count.invariant in
    record {
      part = elim c.if-is_less.branch [
        | then-is_less w ↦ let yes = w.if-is_less.true in let no = c.if-is_less-2.false in absurd cc
        | else-is_less w ↦ omega (arith, w.first-is, i.part, c.loop-count-test.true)
      ];
      few = few_half c.loop-count.compared.comparisons c.add.new.self.comparisons c.loop-count.count (c.loop-count.count / 2)
          c.args.compared.now.comparisons 8
          c.loop-count-test.true (omega arith) (omega (arith, c.add.ensures.sum)) i.few;
    }
