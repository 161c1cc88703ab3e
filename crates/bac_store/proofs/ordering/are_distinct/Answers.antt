use Rattle.std.proofs.Common.{◌∙◌, sym, arith}
use Rattle.bac_value.specs.Views.{object_identifier_view}
use Rattle.bac_store.specs.declared.object.Object.{Object}
use Rattle.bac_store.specs.Kept.{object_number}
use Rattle.bac_store.proofs.Distinct.{adjacent_more, equal_neighbours}
use Rattle.bac_store.proofs.Rising.{rising}
use Rattle.bac_store.proofs.ordering.are_distinct.Goals as goal

pub loop-at-preserved : goal.loop-at-preserved
loop-at-preserved c =
    adjacent_more (λ (o : Object). object_number (object_identifier_view o.id)) c.args.objects.now c.loop-at.at c.index-objects-at.result
    c.index-objects-at-in-loop-at.result
    (omega arith) (omega arith) c.requires
    (λ e. c.if-number_of.false (c.number_of.ensures ∙ e ∙ sym c.number_of-in-loop-at.ensures)) c.loop-at.invariant

pub returns-then-number_of : goal.returns-then-number_of
returns-then-number_of c =
    equal_neighbours (λ (o : Object). object_number (object_identifier_view o.id)) c.args.objects.now c.loop-at.at c.index-objects-at.result
    c.index-objects-at-in-loop-at.result
    (omega arith) (omega arith) (sym c.number_of.ensures ∙ c.if-number_of.true ∙ c.number_of-in-loop-at.ensures)

pub returns : goal.returns
returns c = rising (λ (o : Object). object_number (object_identifier_view o.id)) c.args.objects.now (λ k d l. c.loop-at.invariant k d (omega arith))
