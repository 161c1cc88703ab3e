-- The request is performed.
use Rattle.std.proofs.Common.{ap, Some, [], List, ℕ}
use Rattle.bac_apdu.specs.Views.{limits_view}
use Rattle.bac_protocol.specs.Context.{Context}
use Rattle.bac_protocol.specs.Server.{begins}
use Rattle.bac_responder.specs.Reading.{found_view}
use Rattle.bac_transaction.specs.Views.{context_view, peer_of}
use Rattle.bac_responder.specs.TransactionViews.{state_view}
use Rattle.bac_responder.proofs.Performances.{prepared_commits, performed}
use Rattle.bac_responder.proofs.idle.on_request.Goals as goal

pub commit-effect-requires : goal.commit-effect-requires
commit-effect-requires c =
    prepared_commits (context_view c.args.context.now) (peer_of c.args.context.now) c.args.terms.choice (limits_view c.args.terms.limits) c.args.store.now
    (found_view c.in_ok-found.found) [] c.in_ok-state.field-0 c.in_ok-state.ensures

pub returns : goal.returns
returns c = λ dead.
    let set : Context = context_view c.args.context.now in
    let entry =
    ap (λ (o : List ℕ). record (begins set c.args.terms.choice (limits_view c.args.terms.limits) (Some o)) {
      state = state_view c.args.terms.choice c.in_ok-state.field-0.state;
    })
    c.in_ok-request.ensures.items in
    performed set (peer_of c.args.context.now) (begins set c.args.terms.choice (limits_view c.args.terms.limits) (Some c.args.octets.now))
    [] c.args.octets.now c.args.store.now (found_view c.in_ok-found.found) c.in_ok-state.field-0 _ _ _ c.in_ok-found.ensures c.in_ok-state.ensures
    entry c.commit-effect.ensures.effect c.commit-effect.ensures.store
