use Rattle.std.proofs.Common.{refl}
use Rattle.bac_driver.proofs.Turned.{acted}
use Rattle.bac_driver.proofs.bound_node.BoundNode.act.Goals as goal

pub returns-clause-acted : goal.returns-clause-acted
returns-clause-acted g c =
    acted _ _ c.take-turn.new.self _ _ _ _ c.send_turn.result c.self.view_is c.take-turn.ensures.taken refl refl refl refl
    (record { count = c.send_turn.ensures.count; order = c.send_turn.ensures.order; most = c.send_turn.ensures.most })
