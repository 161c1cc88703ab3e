-- The SegmentACK, and then the reply.
use Rattle.std.proofs.Common.{false, [], ◌∷◌, ℕ, subst}
use Rattle.bac_apdu.specs.Views.{limits_view}
use Rattle.bac_protocol.specs.Context.{Context}
use Rattle.bac_protocol.specs.Server.{server_ack}
use Rattle.bac_transaction.specs.Sends.{IsSent, Pairwise, to_all}
use Rattle.bac_transaction.specs.Views.{context_view, peer_of}
use Rattle.bac_responder.specs.Reading.{found_view}
use Rattle.bac_responder.proofs.Performances.{prepared_after}
use Rattle.bac_responder.proofs.segmented_request.prepare_whole.Goals as goal

pub returns : goal.returns
returns c =
    let set : Context = context_view c.args.context.now in
    record {
      found = found_view c.in_ok-found.found;
      read = c.in_ok-found.ensures.found;
      prepared =
          prepared_after set (peer_of c.args.context.now) c.args.terms.choice (limits_view c.args.terms.limits) c.args.store.now (found_view c.in_ok-found.found)
          (server_ack set false c.args.number c.args.incoming.now.window ∷ []) c.in_ok-state.field-0 c.in_ok-sends.sends.items _
          (subst (λ (k : ℕ). Pairwise IsSent (to_all (peer_of c.args.context.now) (server_ack set false c.args.number k ∷ [])) c.in_ok-sends.sends.items)
          c.window.ensures c.in_ok-sends.ensures)
          c.in_ok-append.ensures.items c.in_ok-state.ensures;
    }
