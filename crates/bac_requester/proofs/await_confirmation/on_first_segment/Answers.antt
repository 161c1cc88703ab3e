-- What was taken, in the state of the transaction.
use Rattle.std.proofs.Common.{◌≡◌, ◌&&◌, ◌∙◌, true, nat_eq, ap, sym}
use Rattle.bac_service.specs.Choices.{has_complex_ack}
use Rattle.bac_protocol.specs.Client.{ClientTransaction}
use Rattle.bac_requester.proofs.await_confirmation.on_first_segment.Goals as goal

pub returns : goal.returns
returns c =
    let asked : c.choice.result ≡ c.transaction.inside.core.choice = c.choice.ensures ∙ ap (λ (t : ClientTransaction). t.ask.choice) (sym c.transaction.view_is) in
    let test : (nat_eq c.args.choice c.transaction.inside.core.choice && (has_complex_ack c.transaction.inside.core.choice
    && (c.args.context.now.settings.limits.takes_segments && nat_eq c.args.segment.number 0))) ≡ true =
    rw (← asked) (sym c.is_first_segment.ensures ∙ c.if-not-is_first_segment.false) in
    let did = c.in_ok-transition.ensures c.transaction.inside.phase in
    rw (← c.transaction.view_is, test) (rw c.new-incoming.ensures at did)
