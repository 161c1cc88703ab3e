-- The object that was added is valid, and no earlier one has its identifier.
use Rattle.bac_objects.proofs.RightLaws.{fit_pushed}
use Rattle.bac_objects.proofs.document.with_object.Goals as goal

pub returns-clause-fit : goal.returns-clause-fit
returns-clause-fit c =
    fit_pushed _ _ c.in_ok-object.object c.in_ok-push.ensures.items c.requires c.in_ok-object.ensures.right
    (rw c.deref.ensures.value at c.in_ok-object.ensures.new)
