use Rattle.std.proofs.Common.{ap, ◌∙◌}
use Rattle.bac_driver.specs.Nodes.{Node}
use Rattle.bac_commands.proofs.Reported.{both_texts}
use Rattle.bac_commands.proofs.online.pairing.ask_both.Goals as goal

pub returns : goal.returns
returns g c =
    both_texts _ _ _ _ _ _ _ _ _ _ _ _ _ _ _ c.in_ok-append_request.ensures c.read_request.ensures
    (c.link.ensures ∙ ap (λ (n : Node). n.link) c.node.ensures) c.peer_at-peer.ensures c.question_for-append.ensures c.question_for-read.ensures
    c.in_ok-appended.ensures c.in_ok-was_read.ensures c.are_both.ensures
