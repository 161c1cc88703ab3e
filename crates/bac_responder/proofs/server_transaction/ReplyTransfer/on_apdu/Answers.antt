-- A request and a SegmentACK for an entry whose reply is sent in segments.
use Rattle.std.proofs.Common.{◌∙◌, sym, ap, subst, Bool, Some, [], ◌∷◌, if◌then◌else◌}
use Rattle.std.specs.Option.{option_map}
use Rattle.bac_apdu.specs.Apdu.{Apdu}
use Rattle.bac_apdu.specs.Apdu.Apdu.{SegmentAck}
use Rattle.bac_apdu.specs.Views.{apdu_view, limits_view, segment_view}
use Rattle.bac_npdu.specs.Peers.{PeerView}
use Rattle.bac_segment.specs.Window.{Outgoing}
use Rattle.bac_protocol.specs.Context.{Context}
use Rattle.bac_protocol.specs.Service.{OTHER}
use Rattle.bac_protocol.specs.Server as server
use Rattle.bac_protocol.specs.Server.{ServerTransaction, Reaction, State, rests, resumes, segmented_response_on_apdu, server_abort}
use Rattle.bac_responder.specs.Reactions.{Answers, IsReaction}
use Rattle.bac_transaction.specs.Views.{context_view, peer_of}
use Rattle.bac_responder.specs.TransactionViews.{entry_of, performed_view, transfer_state, transfer_view}
use Rattle.bac_responder.proofs.Copies.{segmented_response_on_request}
use Rattle.bac_responder.proofs.Rests.{rests_sent}
use Rattle.bac_responder.proofs.server_transaction.ReplyTransfer.on_apdu.Goals as goal

pub returns-then-is_repeated-clause-does : goal.returns-then-is_repeated-clause-does
returns-then-is_repeated-clause-does c = λ s.
    let arm = c.in-ConfirmedRequest in
    let set : Context = context_view c.args.context.now in
    let out : Outgoing = c.args.self.now.outgoing in
    let t : server.Transfer = transfer_view c.args.self.now.transfer in
    let z : State = transfer_state c.args.self.now in
    let e : ServerTransaction = entry_of c.args.origin.now z in
    let all =
    ap (λ a. segmented_response_on_apdu set e out t c.args.self.now.since (apdu_view a)) arm.is
    ∙ segmented_response_on_request set e out t c.args.self.now.since (limits_view arm.limits) arm.invoke_id (option_map segment_view arm.segment)
    arm.choice arm.service.now
    ∙ ap (λ (b : Bool). if b then resumes set e out t else rests (Some e) (server_abort set OTHER ∷ []))
    (sym (c.is_repeated.ensures z) ∙ c.if-is_repeated.true) in
    subst (λ (v : Reaction). Answers v (peer_of c.args.context.now) e (entry_of c.args.origin.now (transfer_state c.resume.new.self)) s c.resume.result s)
    (sym all) (c.resume.ensures.does s)

pub returns-in_ok-sends-in-ConfirmedRequest-clause-does : goal.returns-in_ok-sends-in-ConfirmedRequest-clause-does
returns-in_ok-sends-in-ConfirmedRequest-clause-does c = λ s.
    let arm = c.in-ConfirmedRequest in
    let set : Context = context_view c.args.context.now in
    let peer : PeerView = peer_of c.args.context.now in
    let out : Outgoing = c.args.self.now.outgoing in
    let t : server.Transfer = transfer_view c.args.self.now.transfer in
    let z : State = transfer_state c.args.self.now in
    let e : ServerTransaction = entry_of c.args.origin.now z in
    let sent = c.in_ok-sends-in-ConfirmedRequest in
    let x = c.sends.result in
    let all =
    ap (λ a. segmented_response_on_apdu set e out t c.args.self.now.since (apdu_view a)) arm.is
    ∙ segmented_response_on_request set e out t c.args.self.now.since (limits_view arm.limits) arm.invoke_id (option_map segment_view arm.segment)
    arm.choice arm.service.now
    ∙ ap (λ (b : Bool). if b then resumes set e out t else rests (Some e) (server_abort set OTHER ∷ []))
    (sym (c.is_repeated.ensures z) ∙ c.if-is_repeated.false) in
    subst (λ (v : Reaction). IsReaction v peer s e x.sends.items (performed_view x.effect) s) (sym all)
    (rests_sent peer e s (server_abort set OTHER ∷ []) sent.sends.items x.sends.items x.effect sent.ensures c.sends.ensures.sends c.sends.ensures.effect)

pub returns-else-server-clause-does : goal.returns-else-server-clause-does
returns-else-server-clause-does c = λ s.
    let arm = c.in-SegmentAck in
    let set : Context = context_view c.args.context.now in
    let out : Outgoing = c.args.self.now.outgoing in
    let t : server.Transfer = transfer_view c.args.self.now.transfer in
    let e : ServerTransaction = entry_of c.args.origin.now (transfer_state c.args.self.now) in
    let heard =
    ap apdu_view arm.is
    ∙ ap (λ (b : Bool). SegmentAck b arm.invoke_id (record { nak = arm.nak; number = arm.number; window = arm.window.size })) c.if-server.false in
    let all = ap (λ (a : Apdu). segmented_response_on_apdu set e out t c.args.self.now.since a) heard in
    subst (λ (v : Reaction). Answers v (peer_of c.args.context.now) e (entry_of c.args.origin.now (transfer_state c.on_segment_ack.new.self)) s
    c.on_segment_ack.result s) (sym all) (c.on_segment_ack.ensures.does s)
