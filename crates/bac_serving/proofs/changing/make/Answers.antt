-- One change was made.
use Rattle.bac_store.specs.Views.{change_view}
use Rattle.bac_serving.proofs.Changed.{changed_once}
use Rattle.bac_serving.proofs.changing.make.Goals as goal

pub returns : goal.returns
returns g c = changed_once _ _ (change_view c.args.change.now) c.in_ok-change.ensures.made
