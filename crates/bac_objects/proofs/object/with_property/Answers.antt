-- The property that was added is valid, and no earlier one has its number.
use Rattle.bac_objects.proofs.RightLaws.{right_pushed}
use Rattle.bac_objects.proofs.object.with_property.Goals as goal

pub returns-clause-right : goal.returns-clause-right
returns-clause-right c =
    right_pushed c.args.id.kind _ _ c.in-Ok.property c.in_ok-push-in-Ok.ensures.items c.requires c.in-Ok.ensures.right
    (rw c.deref.ensures.value at c.in-Ok.ensures.new)
