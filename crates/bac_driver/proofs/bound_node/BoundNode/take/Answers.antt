use Rattle.std.proofs.Common.{refl}
use Rattle.bac_driver.proofs.Turned.{taken}
use Rattle.bac_driver.proofs.bound_node.BoundNode.take.Goals as goal

pub returns-clause-taken : goal.returns-clause-taken
returns-clause-taken g c =
    taken _ c.deref.result.now _ _ _ c.on_received-heard.new.node _ c.self.view_is c.deref.ensures.value refl refl refl refl refl refl
    c.on_received-heard.ensures.heard c.on_received-heard.ensures.within c.on_due-ticked.ensures
