-- A turn was taken, or no time was left for it, or nothing is under way.
use Rattle.std.proofs.Common.{sym, ◌∙◌}
use Rattle.bac_environment.specs.Sockets.{OnPort}
use Rattle.bac_asking.proofs.InFlight.{here_went, if_ok, none_to_go}
use Rattle.bac_asking.proofs.window.go_on_here.Goals as goal

pub returns-in_default-clause-went : goal.returns-in_default-clause-went
returns-in_default-clause-went g c = none_to_go (OnPort g.M.Sockets.is_bound g.M.Link.Link.failures g.M.Link.Link.calls) _

pub returns-clause-went : goal.returns-clause-went
returns-clause-went g c =
    if_ok c.note.result _ _
    (λ noted.
    here_went (OnPort g.M.Sockets.is_bound g.M.Link.Link.failures g.M.Link.Link.calls) c.number-node.result c.len.result _ c.in-Some.first
    c.turn_before-turn.result _ _ _ _ _ c.number-node.ensures c.len.ensures (sym c.first_patience.ensures ∙ c.in-Some.is)
    c.own_limit-wait_limit.ensures.within c.own_limit-wait_limit.ensures.alone c.turn_before-turn.ensures.taken noted)
    c.note.ensures.noted
