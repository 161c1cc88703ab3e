-- What its node says of its slots, the bound node says.
use Rattle.bac_driver.proofs.bound_node.BoundNode.next_free.Goals as goal

pub returns-clause-full : goal.returns-clause-full
returns-clause-full g c = rw (← c.self.view_is) c.next_free.ensures.full
