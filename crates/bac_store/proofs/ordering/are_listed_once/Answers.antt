use Rattle.std.proofs.Common.{arith}
use Rattle.bac_store.specs.declared.object.Property.{Property}
use Rattle.bac_store.proofs.Distinct.{adjacent_more, equal_neighbours}
use Rattle.bac_store.proofs.Rising.{rising}
use Rattle.bac_store.proofs.ordering.are_listed_once.Goals as goal

pub loop-at-preserved : goal.loop-at-preserved
loop-at-preserved c =
    adjacent_more (λ (p : Property). p.number) c.args.properties.now c.loop-at.at c.index-properties-at.result c.index-properties-at-in-loop-at.result
    (omega arith) (omega arith) c.requires c.if-properties-at.false c.loop-at.invariant

pub returns-then-properties-at : goal.returns-then-properties-at
returns-then-properties-at c =
    equal_neighbours (λ (p : Property). p.number) c.args.properties.now c.loop-at.at c.index-properties-at.result c.index-properties-at-in-loop-at.result
    (omega arith) (omega arith) c.if-properties-at.true

pub returns : goal.returns
returns c = rising (λ (p : Property). p.number) c.args.properties.now (λ k d l. c.loop-at.invariant k d (omega arith))
