-- The ask is noted, or its fault is told.
use Rattle.std.proofs.Common.{ap, subst, inl, ◌∙◌, arith}
use Rattle.std.proofs.lemmas.List.{with_items_is}
use Rattle.std.specs.Vec.{with_items}
use Rattle.bac_apdu.specs.Views.{limits_view}
use Rattle.bac_npdu.specs.Views.{peer_view}
use Rattle.bac_service.specs.Values.{Request}
use Rattle.bac_service.specs.Views.{owned_request_view}
use Rattle.bac_network.specs.Asks.{IsNotedAway}
use Rattle.bac_network.specs.Networks.{world_with}
use Rattle.bac_network.specs.Views.{log_view}
use Rattle.bac_network.specs.declared.network.Network.{Network}
use Rattle.bac_network.proofs.AskedAway.{ask_counted, away_told_so, is_asked_away}
use Rattle.bac_network.proofs.network.Network.ask_away.Goals as goal

pub note_away-requires-clause-counted : goal.note_away-requires-clause-counted
note_away-requires-clause-counted c =
    ask_counted c.args.self.now c.args.client (peer_view c.args.peer.now) c.requires.can (limits_view c.args.limits.now)
    (owned_request_view c.args.request.now) c.ask.new.nodes c.in-Ok.asked c.deref_mut.result.now c.deref_mut.ensures.value c.told-now.result
    c.told-now.ensures c.in-Ok.ensures.asked

pub returns-in-Ok-clause-happens : goal.returns-in-Ok-clause-happens
returns-in-Ok-clause-happens c = λ overtake.
    let n = c.args.self.now in
    let new : Network = record { nodes = with_items n.nodes c.ask.new.nodes; journal = c.note_away.new.journal; log = c.note_away.new.log } in
    let noted = subst
    (λ (r : Request). IsNotedAway c.args.client (peer_view c.args.peer.now) r c.in-Ok.asked.invoke_id c.in-Ok.asked.ticket n.journal c.note_away.new.journal
    (log_view n.log.items) (log_view c.note_away.new.log.items)) c.requires.copied c.note_away.ensures in
    let k = is_asked_away n c.args.client (peer_view c.args.peer.now) c.requires.can (limits_view c.args.limits.now)
    (owned_request_view c.args.request.now) c.ask.new.nodes c.in-Ok.asked c.deref_mut.result.now c.deref_mut.ensures.value c.told-now.result
    c.told-now.ensures c.in-Ok.ensures.asked new (with_items_is n.nodes c.ask.new.nodes (omega arith)) noted in
    (inl k, k, λ x. x, λ l. c.requires.can.stranger (l.1).0 (l.1).1)

pub returns-in-Err-clause-happens : goal.returns-in-Err-clause-happens
returns-in-Err-clause-happens c = λ overtake.
    let n = c.args.self.now in
    let new : Network = record n { nodes = with_items n.nodes c.ask.new.nodes } in
    away_told_so overtake n new c.args.client (peer_view c.args.peer.now) c.requires.can (limits_view c.args.limits.now)
    (owned_request_view c.args.request.now)
    (ap (λ l. world_with l n.journal (log_view n.log.items))
    (with_items_is n.nodes c.ask.new.nodes (omega arith) ∙ c.in-Err.ensures.err ∙ c.deref_mut.ensures.value))
    c.deref_mut.result.now c.ask.new.nodes c.deref_mut.ensures.value c.told-now.result c.told-now.ensures c.in-Err.fault
    c.in-Err.ensures.refused c.told.result c.told.ensures
