-- The next node is at another link, beside the same clock, and begins at a moment of that.
use Rattle.std.proofs.Common.{sym, ap, ◌∙◌}
use Rattle.bac_driver.specs.Nodes.{Node}
use Rattle.bac_asking.proofs.Clients.{renewed_there}
use Rattle.bac_asking.proofs.client.Client.renew.Goals as goal

pub returns-clause-renewed : goal.returns-clause-renewed
returns-clause-renewed g c =
    renewed_there _ _ _ _ _ _ c.replace.ensures.after c.in-Ok.ensures.node
    (λ same. c.in-Ok.ensures.apart (same ∙ sym (c.link-own.ensures ∙ ap (λ (n : Node). n.link) c.node-node.ensures)))
    c.in-Ok.ensures.looked
