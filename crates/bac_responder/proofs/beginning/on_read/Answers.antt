-- The read is performed, or finds no slot for its transfer, or no room.
use Rattle.std.proofs.Common.{◌≡◌, ◌∙◌, ◌&&◌, ℕ, Bool, true, false, not, List, [], ◌∷◌, Option, Some, None, refl, ap, sym}
use Rattle.bac_apdu.specs.Views.{limits_view}
use Rattle.bac_npdu.specs.Peers.{PeerView}
use Rattle.bac_store.specs.Stores.{Store}
use Rattle.bac_protocol.specs.Context.{Context}
use Rattle.bac_protocol.specs.Reuse.{goes_in_segments}
use Rattle.bac_protocol.specs.Server.{Reaction, ServerTransaction, begins, performs, server_abort}
use Rattle.bac_protocol.specs.Service.{OTHER}
use Rattle.bac_transaction.specs.Services.{Performed, service_of}
use Rattle.bac_transaction.specs.Views.{context_view, peer_of}
use Rattle.bac_responder.specs.Reactions.{IsReaction}
use Rattle.bac_responder.specs.Reading.{found_view}
use Rattle.bac_responder.specs.TransactionViews.{performed_view, state_view}
use Rattle.bac_responder.specs.declared.replying.PreparedReply.{PreparedReply}
use Rattle.bac_responder.proofs.Performances.{performed, prepared_commits}
use Rattle.bac_responder.proofs.Begins.{prepared_transfers, prepared_turned, read_begins, read_passes, read_rests}
use Rattle.bac_responder.proofs.beginning.on_read.Goals as goal

-- Its reply is one APDU.

pub returns-then-not-goes_in_segments-clause-does : goal.returns-then-not-goes_in_segments-clause-does
returns-then-not-goes_in_segments-clause-does c = λ dead.
    let set : Context = context_view c.args.context.now in
    let peer : PeerView = peer_of c.args.context.now in
    let s : Store = c.args.store.now in
    let t : Store = c.commit-effect.new.store in
    let choice : ℕ = c.args.terms.choice in
    let x : PreparedReply = c.in_ok-state.field-0 in
    let b : ServerTransaction = begins set choice (limits_view c.args.terms.limits) (Some c.args.octets.now) in
    let e : ServerTransaction = record b { state = state_view choice x.state } in
    let r : Reaction = performs set (service_of s) b [] c.args.octets.now in
    let q : Option Performed = performed_view c.commit-effect.result in
    let one : goes_in_segments e.state ≡ false = sym (c.goes_in_segments.ensures choice) ∙ c.if-not-goes_in_segments.true in
    let h : IsReaction r peer s e x.sends.items q t =
    performed set peer b [] c.args.octets.now s (found_view c.in_ok-found.found) x e q t c.in_ok-found.ensures c.in_ok-state.ensures refl c.commit-effect.ensures.effect
    c.commit-effect.ensures.store in
    read_passes set dead r peer s t e x.sends.items q h c.args.space.free one

pub returns-then-not-goes_in_segments-clause-away : goal.returns-then-not-goes_in_segments-clause-away
returns-then-not-goes_in_segments-clause-away c =
    let set : Context = context_view c.args.context.now in
    let choice : ℕ = c.args.terms.choice in
    let b : ServerTransaction = begins set choice (limits_view c.args.terms.limits) (Some c.args.octets.now) in
    sym (ap (λ (h : Bool). h && not c.args.space.free) (prepared_transfers set (peer_of c.args.context.now) b c.args.octets.now c.args.store.now (found_view c.in_ok-found.found)
    c.in_ok-state.field-0 c.in_ok-found.ensures c.in_ok-state.ensures false (sym (c.goes_in_segments.ensures choice) ∙ c.if-not-goes_in_segments.true)))

pub returns-then-not-goes_in_segments-clause-room : goal.returns-then-not-goes_in_segments-clause-room
returns-then-not-goes_in_segments-clause-room c = λ none.
    let set : Context = context_view c.args.context.now in
    let choice : ℕ = c.args.terms.choice in
    let b : ServerTransaction = begins set choice (limits_view c.args.terms.limits) (Some c.args.octets.now) in
    ap not (prepared_transfers set (peer_of c.args.context.now) b c.args.octets.now c.args.store.now (found_view c.in_ok-found.found)
    c.in_ok-state.field-0 c.in_ok-found.ensures c.in_ok-state.ensures false (sym (c.goes_in_segments.ensures choice) ∙ c.if-not-goes_in_segments.true))

-- It goes in segments.

pub returns-then-not-room-clause-room : goal.returns-then-not-room-clause-room
returns-then-not-room-clause-room c =
    let set : Context = context_view c.args.context.now in
    let choice : ℕ = c.args.terms.choice in
    let b : ServerTransaction = begins set choice (limits_view c.args.terms.limits) (Some c.args.octets.now) in (
      c.if-not-room.true,
      ap not (prepared_transfers set (peer_of c.args.context.now) b c.args.octets.now c.args.store.now (found_view c.in_ok-found.found)
          c.in_ok-state.field-0 c.in_ok-found.ensures c.in_ok-state.ensures true (sym (c.goes_in_segments.ensures choice) ∙ c.if-not-goes_in_segments.false)),
    )

pub returns-then-not-free-clause-does : goal.returns-then-not-free-clause-does
returns-then-not-free-clause-does c = λ dead.
    let set : Context = context_view c.args.context.now in
    let peer : PeerView = peer_of c.args.context.now in
    let s : Store = c.args.store.now in
    let choice : ℕ = c.args.terms.choice in
    let b : ServerTransaction = begins set choice (limits_view c.args.terms.limits) (Some c.args.octets.now) in
    read_rests _ dead peer s (server_abort set OTHER ∷ []) c.in_ok-refusal.refusal.items c.sends.result.sends.items c.sends.result.effect
    (prepared_turned set dead peer b c.args.octets.now s (found_view c.in_ok-found.found) c.in_ok-state.field-0 c.in_ok-found.ensures c.in_ok-state.ensures
    c.args.space.free c.if-not-free.true (sym (c.goes_in_segments.ensures choice) ∙ c.if-not-goes_in_segments.false))
    c.in_ok-refusal.ensures c.sends.ensures.sends c.sends.ensures.effect

pub returns-then-not-free-clause-away : goal.returns-then-not-free-clause-away
returns-then-not-free-clause-away c =
    let set : Context = context_view c.args.context.now in
    let choice : ℕ = c.args.terms.choice in
    let b : ServerTransaction = begins set choice (limits_view c.args.terms.limits) (Some c.args.octets.now) in
    sym (ap (λ (h : Bool). h && not c.args.space.free) (prepared_transfers set (peer_of c.args.context.now) b c.args.octets.now c.args.store.now (found_view c.in_ok-found.found)
    c.in_ok-state.field-0 c.in_ok-found.ensures c.in_ok-state.ensures true (sym (c.goes_in_segments.ensures choice) ∙ c.if-not-goes_in_segments.false))
    ∙ ap not c.if-not-free.true)

pub commit-effect-requires-2 : goal.commit-effect-requires-2
commit-effect-requires-2 c =
    prepared_commits (context_view c.args.context.now) (peer_of c.args.context.now) c.args.terms.choice (limits_view c.args.terms.limits) c.args.store.now
    (found_view c.in_ok-found.found) [] c.in_ok-state.field-0 c.in_ok-state.ensures

pub returns-clause-does : goal.returns-clause-does
returns-clause-does c = λ dead.
    let set : Context = context_view c.args.context.now in
    let peer : PeerView = peer_of c.args.context.now in
    let s : Store = c.args.store.now in
    let t : Store = c.commit-effect-2.new.store in
    let choice : ℕ = c.args.terms.choice in
    let x : PreparedReply = c.in_ok-state.field-0 in
    let begun : List ℕ → ServerTransaction = λ o. begins set choice (limits_view c.args.terms.limits) (Some o) in
    let b : ServerTransaction = begun c.args.octets.now in
    let e : ServerTransaction = record (begun c.in_ok-request.request.items) { state = state_view choice x.state } in
    let r : Reaction = performs set (service_of s) b [] c.args.octets.now in
    let q : Option Performed = performed_view c.commit-effect-2.result in
    let same : e ≡ record b { state = state_view choice x.state } =
    ap (λ (o : List ℕ). record (begun o) { state = state_view choice x.state }) c.in_ok-request.ensures.items in
    let segments : goes_in_segments e.state ≡ true = sym (c.goes_in_segments.ensures choice) ∙ c.if-not-goes_in_segments.false in
    let h : IsReaction r peer s e x.sends.items q t =
    performed set peer b [] c.args.octets.now s (found_view c.in_ok-found.found) x e q t c.in_ok-found.ensures c.in_ok-state.ensures same
    c.commit-effect-2.ensures.effect c.commit-effect-2.ensures.store in
    read_begins set dead r peer s t e x.sends.items q h c.args.space.free c.if-not-free.false segments

pub returns-clause-away : goal.returns-clause-away
returns-clause-away c =
    let set : Context = context_view c.args.context.now in
    let choice : ℕ = c.args.terms.choice in
    let b : ServerTransaction = begins set choice (limits_view c.args.terms.limits) (Some c.args.octets.now) in
    sym (ap (λ (h : Bool). h && not c.args.space.free) (prepared_transfers set (peer_of c.args.context.now) b c.args.octets.now c.args.store.now (found_view c.in_ok-found.found)
    c.in_ok-state.field-0 c.in_ok-found.ensures c.in_ok-state.ensures true (sym (c.goes_in_segments.ensures choice) ∙ c.if-not-goes_in_segments.false))
    ∙ ap not c.if-not-free.false)
