-- They are equal place by place.
use Rattle.std.proofs.Common.{map, sym, ap, ◌∙◌, arith}
use Rattle.std.proofs.lemmas.List.{map-id}
use Rattle.bac_store.proofs.Equal.{same_items, same_lists, same_more}
use Rattle.bac_journal.specs.declared.lives.Life.{Life}
use Rattle.bac_journal.proofs.comparing.are_same_lives.Goals as goal

pub loop-at-preserved : goal.loop-at-preserved
loop-at-preserved c =
    same_more (λ (k : Life). k) c.args.ones.now c.args.others.now c.loop-at.at _ _ (omega arith) (omega arith) c.if-not-is_same_life.ensures
    c.loop-at.invariant

pub returns-then-not-is_same_life : goal.returns-then-not-is_same_life
returns-then-not-is_same_life c = λ same.
    c.if-not-is_same_life.ensures (same_items (λ (k : Life). k) c.args.ones.now c.args.others.now c.loop-at.at _ _ (omega arith)
    (ap (map (λ (k : Life). k)) same))

pub returns : goal.returns
returns c =
    sym (map-id c.args.ones.now) ∙ same_lists (λ (k : Life). k) c.args.ones.now c.args.others.now (omega arith) (λ j d l. c.loop-at.invariant j d (omega arith))
    ∙ map-id c.args.others.now
