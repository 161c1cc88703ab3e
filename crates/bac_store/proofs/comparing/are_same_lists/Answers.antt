-- They are equal place by place.
use Rattle.std.proofs.Common.{ap, sym, ◌∙◌, arith}
use Rattle.bac_store.specs.Views.{data_view}
use Rattle.bac_store.proofs.Equal.{same_items, same_lists, same_more}
use Rattle.bac_store.proofs.comparing.are_same_lists.Goals as goal

pub loop-at-preserved : goal.loop-at-preserved
loop-at-preserved c =
    same_more data_view c.args.listed.now c.args.others.now c.loop-at.at c.index-listed-at.result c.index-others-at.result (omega arith) (omega arith)
    (sym (ap data_view c.index-listed-at.is) ∙ c.if-not-are_same_data.ensures ∙ ap data_view c.index-others-at.is) c.loop-at.invariant

pub returns-then-not-are_same_data : goal.returns-then-not-are_same_data
returns-then-not-are_same_data c = λ same.
    c.if-not-are_same_data.ensures
    (ap data_view c.index-listed-at.is
    ∙ same_items data_view c.args.listed.now c.args.others.now c.loop-at.at c.index-listed-at.result c.index-others-at.result (omega arith) same
    ∙ sym (ap data_view c.index-others-at.is))

pub returns : goal.returns
returns c = same_lists data_view c.args.listed.now c.args.others.now (omega arith) (λ j d l. c.loop-at.invariant j d (omega arith))
