-- They are equal place by place.
use Rattle.std.proofs.Common.{ap, sym, refl, ◌∙◌, arith}
use Rattle.bac_store.proofs.Equal.{same_items, same_lists, same_more}
use Rattle.bac_network.proofs.lists.are_alike.Goals as goal

pub loop-at-preserved : goal.loop-at-preserved
loop-at-preserved g c =
    let see = g.T.Alike.seen in
    same_more see c.args.ones.now c.args.others.now c.loop-at.at c.index-ones-at.result c.index-others-at.result (omega arith) (omega arith)
    (sym (ap see c.index-ones-at.is) ∙ c.if-not-is_alike.ensures.0 refl ∙ ap see c.index-others-at.is) c.loop-at.invariant

pub returns-then-not-is_alike : goal.returns-then-not-is_alike
returns-then-not-is_alike g c =
    let see = g.T.Alike.seen in (
      λ never. absurd cc,
      λ same.
          c.if-not-is_alike.ensures.1
          (ap see c.index-ones-at.is
          ∙ same_items see c.args.ones.now c.args.others.now c.loop-at.at c.index-ones-at.result c.index-others-at.result (omega arith) same
          ∙ sym (ap see c.index-others-at.is)),
    )

pub returns : goal.returns
returns g c =
    (λ t. same_lists g.T.Alike.seen c.args.ones.now c.args.others.now (omega arith) (λ j d l. c.loop-at.invariant j d (omega arith)), λ same. refl)
