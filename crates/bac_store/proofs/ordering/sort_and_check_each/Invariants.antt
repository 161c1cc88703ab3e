use Rattle.std.proofs.Common.{◌≡◌, ℕ, ◌<◌, ◌≤◌, get_or}
use Rattle.bac_store.specs.declared.object.Object.{Object}
use Rattle.bac_store.specs.Ordered.{IsSorting}
use Rattle.bac_store.specs.Views.{object_view}
use Rattle.bac_store.proofs.ordering.sort_and_check_each.Given as goal

abbrev pub invariant-loop-object : goal.invariant-loop-object
invariant-loop-object l = record {
  done : (k : ℕ) (d : Object) → k < l.object-index → IsSorting l.fn.rule (object_view (get_or l.initial.objects k d)) (object_view (get_or l.objects k d));
  left : (k : ℕ) (d : Object) → l.object-index ≤ k → get_or l.objects k d ≡ get_or l.initial.objects k d;
}
