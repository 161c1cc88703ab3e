-- The plan's reply goes by its way, or a Reject does.
use Rattle.std.proofs.Common.{◌≡◌, ◌∙◌, sym, ap, subst, refl}
use Rattle.bac_apdu.specs.Views.{limits_view}
use Rattle.bac_service.specs.Replies as plain
use Rattle.bac_service.specs.Values.{Request}
use Rattle.bac_service.specs.Views.{owned_request_view}
use Rattle.bac_store.specs.Stores.{Store}
use Rattle.bac_store.specs.Replies.{reply_to}
use Rattle.bac_store.specs.Plans.{IsPlanFor}
use Rattle.bac_protocol.specs.Service.{Reply}
use Rattle.bac_protocol.specs.Service.Outcome.{Replies}
use Rattle.bac_transaction.specs.Services.{outcome_of}
use Rattle.bac_responder.specs.Preparing.{IsNoReject, IsSpelledReply}
use Rattle.bac_transaction.specs.Views.{context_view, peer_of}
use Rattle.bac_responder.specs.TransactionViews.{spelled_view}
use Rattle.bac_responder.proofs.Performances.{reject_ready, reply_ready, store_no_reject, store_means}
use Rattle.bac_responder.proofs.replying.prepare_reply.Goals as goal

pub encode_reply-requires : goal.encode_reply-requires
encode_reply-requires c =
    let s : Store = c.args.store.now in
    let told = c.reply.ensures ∙ c.in_ok-plan-in-Ok.ensures.plan.reply ∙ ap (reply_to s) c.as_request.ensures in
    subst (λ (p : plain.Reply). IsNoReject p) (sym told) (store_no_reject s (owned_request_view c.in-Ok.request))

pub returns-in_ok-reply-in-Ok : goal.returns-in_ok-reply-in-Ok
returns-in_ok-reply-in-Ok c =
    let s : Store = c.args.store.now in
    let r : Request = owned_request_view c.in-Ok.request in
    let told = c.reply.ensures ∙ c.in_ok-plan-in-Ok.ensures.plan.reply ∙ ap (reply_to s) c.as_request.ensures in
    let reply : Reply = spelled_view c.in_ok-reply-in-Ok.reply in
    let outcome : outcome_of (reply_to s r) ≡ Replies reply = subst (λ (p : plain.Reply). outcome_of p ≡ Replies reply) told c.in_ok-reply-in-Ok.ensures.outcome in
    rw c.in-Ok.is (reply_ready (context_view c.args.context.now) (peer_of c.args.context.now) c.args.terms.choice (limits_view c.args.terms.limits) s r reply _ outcome
    (record {
      request = refl;
      plan = subst (λ (q : Request). IsPlanFor s q c.in_ok-plan-in-Ok.plan) c.as_request.ensures c.in_ok-plan-in-Ok.ensures.plan;
      means = store_means s r reply (subst (λ (p : plain.Reply). IsSpelledReply p) told c.in_ok-reply-in-Ok.ensures.spelled) outcome;
    }) c.send_reply.result c.send_reply.ensures)

pub returns-in-Err : goal.returns-in-Err
returns-in-Err c =
    rw c.in-Err.is (reject_ready (context_view c.args.context.now) (peer_of c.args.context.now) c.args.terms.choice c.in-Err.reason c.keep_apdu.result
    c.keep_apdu.ensures)
