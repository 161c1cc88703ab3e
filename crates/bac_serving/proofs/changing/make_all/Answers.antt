-- One change after the other.
use Rattle.bac_serving.proofs.Changed.{changed_again, changed_none}
use Rattle.bac_serving.proofs.changing.make_all.Goals as goal

pub loop-change-init : goal.loop-change-init
loop-change-init g c = changed_none _

pub returns-in_err-make : goal.returns-in_err-make
returns-in_err-make g c = changed_again _ _ _ c.loop-change.invariant c.make.ensures

pub loop-change-preserved : goal.loop-change-preserved
loop-change-preserved g c = changed_again _ _ _ c.loop-change.invariant c.make.ensures

pub returns : goal.returns
returns g c = c.loop-change.invariant
