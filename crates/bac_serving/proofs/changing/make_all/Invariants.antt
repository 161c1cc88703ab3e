-- The node made changes so far, and nothing else.
use Rattle.bac_serving.specs.Stretches.{IsChanged}
use Rattle.bac_serving.proofs.changing.make_all.Given as goal

abbrev pub invariant-loop-change : goal.invariant-loop-change
invariant-loop-change g l = IsChanged l.fn.bound_node l.bound_node
