-- They are equal place by place.
use Rattle.std.proofs.Common.{ap, sym, ◌∙◌, arith}
use Rattle.bac_store.proofs.Equal.{same_items, same_lists, same_more}
use Rattle.bac_journal.specs.Views.{copy_view}
use Rattle.bac_journal.proofs.comparing.are_same_copies.Goals as goal

pub loop-at-preserved : goal.loop-at-preserved
loop-at-preserved c =
    same_more copy_view c.args.ones.now c.args.others.now c.loop-at.at c.index-ones-at.result c.index-others-at.result (omega arith) (omega arith)
    (sym (ap copy_view c.index-ones-at.is) ∙ c.if-not-is_same_copy.ensures ∙ ap copy_view c.index-others-at.is) c.loop-at.invariant

pub returns-then-not-is_same_copy : goal.returns-then-not-is_same_copy
returns-then-not-is_same_copy c = λ same.
    c.if-not-is_same_copy.ensures
    (ap copy_view c.index-ones-at.is
    ∙ same_items copy_view c.args.ones.now c.args.others.now c.loop-at.at c.index-ones-at.result c.index-others-at.result (omega arith) same
    ∙ sym (ap copy_view c.index-others-at.is))

pub returns : goal.returns
returns c = same_lists copy_view c.args.ones.now c.args.others.now (omega arith) (λ j d l. c.loop-at.invariant j d (omega arith))
