-- They are equal place by place.
use Rattle.std.proofs.Common.{ap, sym, ◌∙◌, arith}
use Rattle.bac_store.specs.Views.{slot_view}
use Rattle.bac_store.proofs.Equal.{same_items, same_lists, same_more}
use Rattle.bac_store.proofs.comparing.are_same_slots.Goals as goal

pub loop-at-preserved : goal.loop-at-preserved
loop-at-preserved c =
    same_more slot_view c.args.slots.now c.args.others.now c.loop-at.at c.index-slots-at.result c.index-others-at.result (omega arith) (omega arith)
    (sym (ap slot_view c.index-slots-at.is) ∙ c.if-not-is_same_slot.ensures ∙ ap slot_view c.index-others-at.is) c.loop-at.invariant

pub returns-then-not-is_same_slot : goal.returns-then-not-is_same_slot
returns-then-not-is_same_slot c = λ same.
    c.if-not-is_same_slot.ensures
    (ap slot_view c.index-slots-at.is
    ∙ same_items slot_view c.args.slots.now c.args.others.now c.loop-at.at c.index-slots-at.result c.index-others-at.result (omega arith) same
    ∙ sym (ap slot_view c.index-others-at.is))

pub returns : goal.returns
returns c = same_lists slot_view c.args.slots.now c.args.others.now (omega arith) (λ j d l. c.loop-at.invariant j d (omega arith))
