use Rattle.std.proofs.Common.{subst}
use Rattle.bac_driver.specs.BoundNodes.{BoundNode}
use Rattle.bac_driver.specs.Rounds.{OnlyReceives}
use Rattle.bac_driver.proofs.RoundsTaken.{one_receive}
use Rattle.bac_driver.proofs.bound_node.BoundNode.receive.Goals as goal

pub returns-in_err-recv-clause-unsent : goal.returns-in_err-recv-clause-unsent
returns-in_err-recv-clause-unsent g c =
    subst (λ (b : BoundNode). OnlyReceives b.calls (g.L.Link.calls c.recv.new.self)) c.self.view_is
    (one_receive c.wait_at-wait.result c.recv.new.buffer c.recv.result _ _ c.recv.ensures.told)

pub returns-clause-unsent : goal.returns-clause-unsent
returns-clause-unsent g c =
    subst (λ (b : BoundNode). OnlyReceives b.calls (g.L.Link.calls c.recv.new.self)) c.self.view_is
    (one_receive c.wait_at-wait.result c.recv.new.buffer c.recv.result _ _ c.recv.ensures.told)
