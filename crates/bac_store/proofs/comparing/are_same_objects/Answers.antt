-- They are equal place by place.
use Rattle.std.proofs.Common.{ap, sym, ◌∙◌, arith}
use Rattle.bac_store.specs.Views.{entry_view}
use Rattle.bac_store.proofs.Equal.{same_items, same_lists, same_more}
use Rattle.bac_store.proofs.comparing.are_same_objects.Goals as goal

pub loop-at-preserved : goal.loop-at-preserved
loop-at-preserved c =
    same_more entry_view c.args.objects.now c.args.others.now c.loop-at.at c.index-objects-at.result c.index-others-at.result (omega arith) (omega arith)
    (sym (ap entry_view c.index-objects-at.is) ∙ c.if-not-is_same_object.ensures ∙ ap entry_view c.index-others-at.is) c.loop-at.invariant

pub returns-then-not-is_same_object : goal.returns-then-not-is_same_object
returns-then-not-is_same_object c = λ same.
    c.if-not-is_same_object.ensures
    (ap entry_view c.index-objects-at.is
    ∙ same_items entry_view c.args.objects.now c.args.others.now c.loop-at.at c.index-objects-at.result c.index-others-at.result (omega arith) same
    ∙ sym (ap entry_view c.index-others-at.is))

pub returns : goal.returns
returns c = same_lists entry_view c.args.objects.now c.args.others.now (omega arith) (λ j d l. c.loop-at.invariant j d (omega arith))
