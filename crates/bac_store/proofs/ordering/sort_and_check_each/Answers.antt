use Rattle.std.proofs.Common.{sym, subst, arith}
use Rattle.bac_store.specs.Objects.{IsRightBy}
use Rattle.bac_store.specs.Views.{object_view}
use Rattle.bac_store.proofs.Distinct.{All-unmap}
use Rattle.bac_store.proofs.Sorting.{done_more, left_more}
use Rattle.bac_store.proofs.ordering.sort_and_check_each.Goals as goal

pub returns-then-not-sort_and_check : goal.returns-then-not-sort_and_check
returns-then-not-sort_and_check c = λ all.
    let i = c.loop-object.object-index in
    let x = c.object-item.result in
    c.if-not-sort_and_check.ensures
    (subst (λ o. IsRightBy c.args.rule (object_view o)) (sym (c.loop-object.invariant.left i x (omega arith)))
    (All-unmap object_view (IsRightBy c.args.rule) c.args.objects.now all i x (omega arith)))

pub loop-object-preserved : goal.loop-object-preserved
loop-object-preserved c =
    let old = c.args.objects.now in
    let i = c.loop-object.object-index in
    let new = c.sort_and_check.new.object in
    record {
      done = done_more c.args.rule old c.loop-object.objects i new c.object-item.result (omega arith)
          (omega arith) c.loop-object.invariant.done c.loop-object.invariant.left c.if-not-sort_and_check.ensures;
      left = left_more c.args.rule old c.loop-object.objects i new c.object-item.result (omega arith)
          (omega arith) c.loop-object.invariant.done c.loop-object.invariant.left;
    }
