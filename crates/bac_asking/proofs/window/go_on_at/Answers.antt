-- A turn was taken, or no time was left for it, or the node was given up.
use Rattle.std.proofs.Common.{sym, ap, ◌∙◌, arith}
use Rattle.bac_driver.specs.Runs.{timed}
use Rattle.bac_environment.specs.Sockets.{OnPort}
use Rattle.bac_asking.proofs.InFlight.{as_many_leave, if_ok, if_ok_so, leaving_went, left_so}
use Rattle.bac_asking.proofs.window.go_on_at.Goals as goal

pub returns-in_default-clause-went : goal.returns-in_default-clause-went
returns-in_default-clause-went g c =
    left_so (OnPort g.M.Sockets.is_bound g.M.Link.Link.failures g.M.Link.Link.calls) c.args.at c.number_at-node.result c.first_patience.result _ _ _ _ _
    c.number_at-node.ensures c.first_patience.ensures c.in_default.not-Some c.remove.ensures
    (ap (λ s. timed s.bound_node (g.M.Timer.Clock.told s.clock)) c.in_ok-part_with.ensures.same)

pub returns-clause-went : goal.returns-clause-went
returns-clause-went g c =
    if_ok c.note.result _ _
    (λ noted.
    leaving_went (OnPort g.M.Sockets.is_bound g.M.Link.Link.failures g.M.Link.Link.calls) c.args.at c.number_at-node.result _ c.in-Some.first
    c.turn_at-turn.result _ _ _ _ _ _ _ c.number_at-node.ensures (sym c.first_patience.ensures ∙ c.in-Some.is) c.leaving_limit-wait_limit.ensures
    c.turn_at-turn.ensures.taken noted)
    c.note.ensures.noted

pub returns-clause-stays : goal.returns-clause-stays
returns-clause-stays g c =
    if_ok_so c.note.result _ _
    (λ noted busy is.
    let same = as_many_leave c.args.at _ c.number_at-node.result c.turn_at-turn.result _ _ _ _ _ _ c.turn_at-turn.ensures.taken noted in
    omega (arith, same, c.requires))
    c.note.ensures.noted
