-- A request for an entry with a kept reply of one APDU.
use Rattle.std.proofs.Common.{◌∙◌, sym, ap, subst, Bool, Some, [], ◌∷◌, if◌then◌else◌}
use Rattle.std.specs.Option.{option_map}
use Rattle.bac_apdu.specs.Apdu.{Apdu}
use Rattle.bac_apdu.specs.Views.{apdu_view, limits_view, segment_view}
use Rattle.bac_npdu.specs.Peers.{PeerView}
use Rattle.bac_protocol.specs.Context.{Context}
use Rattle.bac_protocol.specs.Service.{OTHER}
use Rattle.bac_protocol.specs.Server.{ServerTransaction, Reaction, done_on_apdu, rests, server_abort}
use Rattle.bac_protocol.specs.Server.State.{Done}
use Rattle.bac_transaction.specs.Sends.{Pairwise, IsSent, to_all}
use Rattle.bac_transaction.specs.Views.{context_view, peer_of}
use Rattle.bac_responder.specs.Reactions.{IsReaction}
use Rattle.bac_responder.specs.TransactionViews.{entry_of, kept_reply_view, performed_view}
use Rattle.bac_responder.proofs.Copies.{done_on_request}
use Rattle.bac_responder.proofs.Rests.{rests_sent}
use Rattle.bac_responder.proofs.live.done_on_apdu.Goals as goal

pub returns-then-not-is_repeated : goal.returns-then-not-is_repeated
returns-then-not-is_repeated c = λ s.
    let arm = c.in-ConfirmedRequest in
    let set : Context = context_view c.args.context.now in
    let peer : PeerView = peer_of c.args.context.now in
    let kept : Apdu = kept_reply_view c.args.invoke_id c.args.origin.now.terms.choice c.args.kept.now in
    let e : ServerTransaction = entry_of c.args.origin.now (Done kept) in
    let all =
    ap (λ a. done_on_apdu set e kept (apdu_view a)) arm.is
    ∙ done_on_request set e kept (limits_view arm.limits) arm.invoke_id (option_map segment_view arm.segment) arm.choice arm.service.now
    ∙ ap (λ (b : Bool). rests (Some e) ((if b then kept else server_abort set OTHER) ∷ [])) (sym (c.is_repeated.ensures (Done kept)) ∙ c.if-not-is_repeated.true) in
    subst (λ (v : Reaction). IsReaction v peer s e c.sends.result.sends.items (performed_view c.sends.result.effect) s) (sym all)
    (rests_sent peer e s (server_abort set OTHER ∷ []) c.in_ok-sends.sends.items c.sends.result.sends.items c.sends.result.effect c.in_ok-sends.ensures
    c.sends.ensures.sends c.sends.ensures.effect)

pub returns : goal.returns
returns c = λ s.
    let arm = c.in-ConfirmedRequest in
    let set : Context = context_view c.args.context.now in
    let peer : PeerView = peer_of c.args.context.now in
    let kept : Apdu = kept_reply_view c.args.invoke_id c.args.origin.now.terms.choice c.args.kept.now in
    let e : ServerTransaction = entry_of c.args.origin.now (Done kept) in
    let all =
    ap (λ a. done_on_apdu set e kept (apdu_view a)) arm.is
    ∙ done_on_request set e kept (limits_view arm.limits) arm.invoke_id (option_map segment_view arm.segment) arm.choice arm.service.now
    ∙ ap (λ (b : Bool). rests (Some e) ((if b then kept else server_abort set OTHER) ∷ [])) (sym (c.is_repeated.ensures (Done kept)) ∙ c.if-not-is_repeated.false) in
    let sent = subst (λ (a : Apdu). Pairwise IsSent (to_all peer (a ∷ [])) c.in_ok-sends-2.sends.items) c.as_apdu-kept.ensures c.in_ok-sends-2.ensures in
    subst (λ (v : Reaction). IsReaction v peer s e c.sends-2.result.sends.items (performed_view c.sends-2.result.effect) s) (sym all)
    (rests_sent peer e s (kept ∷ []) c.in_ok-sends-2.sends.items c.sends-2.result.sends.items c.sends-2.result.effect sent c.sends-2.ensures.sends
    c.sends-2.ensures.effect)
