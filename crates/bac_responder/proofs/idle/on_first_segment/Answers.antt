-- Segment 0 is taken, and the entry begins.
use Rattle.std.proofs.Common.{None, sym, subst}
use Rattle.bac_apdu.specs.Views.{limits_view, segment_view}
use Rattle.bac_npdu.specs.Peers.{PeerView}
use Rattle.bac_segment.specs.Window.{Incoming, takes}
use Rattle.bac_store.specs.Stores.{Store}
use Rattle.bac_protocol.specs.Context.{Context}
use Rattle.bac_protocol.specs.Server.{Reaction, request_segment_taken}
use Rattle.bac_protocol.specs.Server.State.{Dropped}
use Rattle.bac_transaction.specs.Services.{service_of}
use Rattle.bac_transaction.specs.Views.{context_view, peer_of}
use Rattle.bac_responder.specs.Reactions.{IsReaction}
use Rattle.bac_responder.specs.TransactionViews.{entry_of, entry_view, performed_view, reassembly_state}
use Rattle.bac_responder.specs.declared.server_transaction.Origin.{Origin}
use Rattle.bac_responder.proofs.Takings.{first_taken}
use Rattle.bac_responder.proofs.idle.on_first_segment.Goals as goal

pub invariant_of-result-in-Some : goal.invariant_of-result-in-Some
invariant_of-result-in-Some c = let did = rw c.in-Some.is at c.in_ok-performed.ensures in (did Dropped).0

pub returns-in-None : goal.returns-in-None
returns-in-None c = λ dead.
    let set : Context = context_view c.args.context.now in
    let peer : PeerView = peer_of c.args.context.now in
    let s : Store = c.args.store.now in
    let o : Origin = record { begin = c.args.context.now.moment; terms = c.args.terms; request = None; first = None } in
    let kept : Origin = c.take_segment.new.origin in
    let n = c.args.segment.number in
    let x = c.in_ok-performed.performed in
    let did = rw c.in-None.is at c.in_ok-performed.ensures in
    let taken = subst (λ (i : Incoming). IsReaction (request_segment_taken set (service_of s) (entry_of o Dropped) n i.window
    (takes i n c.args.segment.more c.args.octets.now)) peer s (entry_of kept (reassembly_state c.take_segment.new.self)) x.sends.items (performed_view x.effect) c.take_segment.new.store) c.new.ensures
    (did Dropped) in
    let all = first_taken set (service_of s) dead c.args.terms.choice (limits_view c.args.terms.limits) (segment_view c.args.segment) c.args.octets.now c.requires in
    subst (λ (v : Reaction). IsReaction v peer s (entry_of kept (reassembly_state c.take_segment.new.self)) x.sends.items (performed_view x.effect) c.take_segment.new.store) (sym all) taken

pub returns-in-Some : goal.returns-in-Some
returns-in-Some c = λ dead.
    let set : Context = context_view c.args.context.now in
    let peer : PeerView = peer_of c.args.context.now in
    let s : Store = c.args.store.now in
    let o : Origin = record { begin = c.args.context.now.moment; terms = c.args.terms; request = None; first = None } in
    let kept : Origin = c.take_segment.new.origin in
    let n = c.args.segment.number in
    let x = c.in_ok-performed.performed in
    let did = rw c.in-Some.is at c.in_ok-performed.ensures in
    let taken = subst (λ (i : Incoming). IsReaction (request_segment_taken set (service_of s) (entry_of o Dropped) n i.window
    (takes i n c.args.segment.more c.args.octets.now)) peer s (entry_view kept c.in-Some.state) x.sends.items (performed_view x.effect) c.take_segment.new.store) c.new.ensures
    (did Dropped).1 in
    let all = first_taken set (service_of s) dead c.args.terms.choice (limits_view c.args.terms.limits) (segment_view c.args.segment) c.args.octets.now c.requires in
    subst (λ (v : Reaction). IsReaction v peer s (entry_view kept c.in-Some.state) x.sends.items (performed_view x.effect) c.take_segment.new.store) (sym all) taken
