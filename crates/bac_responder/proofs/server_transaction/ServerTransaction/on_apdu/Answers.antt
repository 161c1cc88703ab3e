-- An entry goes on by its state.
use Rattle.std.proofs.Common.{◌≡◌, ◌∙◌, sym, ap, subst}
use Rattle.bac_apdu.specs.Apdu.{Apdu}
use Rattle.bac_apdu.specs.Views.{apdu_view}
use Rattle.bac_npdu.specs.Peers.{PeerView}
use Rattle.bac_store.specs.Stores.{Store}
use Rattle.bac_protocol.specs.Context.{Context}
use Rattle.bac_protocol.specs.Server.{ServerTransaction, live_on_apdu}
use Rattle.bac_protocol.specs.Server.State.{Done, Dropped}
use Rattle.bac_transaction.specs.Services.{service_of}
use Rattle.bac_transaction.specs.Views.{context_view, peer_of}
use Rattle.bac_responder.specs.Reactions.{Answers, IsReaction}
use Rattle.bac_responder.specs.TransactionViews.{entry_of, entry_view, kept_reply_view, performed_view, reassembly_state, transfer_state}
use Rattle.bac_responder.specs.declared.server_transaction.Origin.{Origin}
use Rattle.bac_responder.proofs.server_transaction.ServerTransaction.on_apdu.Goals as goal
use Rattle.bac_responder.proofs.server_transaction.ServerTransaction.on_apdu.Goals.{in-SegmentedRequest+in_ok-performed-in-SegmentedRequest+in-None, in-SegmentedRequest+in_ok-performed-in-SegmentedRequest+in-Some, in-Done, in-SegmentedResponse, in-Dropped}

pub returns : goal.returns
returns c =
    let set : Context = context_view c.args.context.now in
    let peer : PeerView = peer_of c.args.context.now in
    let s : Store = c.args.store.now in
    let a : Apdu = apdu_view c.args.apdu.now in
    let o : Origin = c.self.inside.origin in
    elim c.match-state.branch [
      | in-SegmentedRequest+in_ok-performed-in-SegmentedRequest+in-None w ↦
          let x = w.in_ok-performed-in-SegmentedRequest.performed in
          let e : entry_of o (reassembly_state w.in-SegmentedRequest.reassembly) ≡ c.args.self.now =
          ap (λ z. entry_view o z) (sym w.in-SegmentedRequest.is) ∙ c.self.view_is in
          let did = rw w.in-None.is at w.in_ok-performed-in-SegmentedRequest.ensures in
          rw (w.self-inside-is, w.result-is, w.store-is) (subst (λ (d : ServerTransaction). IsReaction (live_on_apdu set (service_of s) d d.state a) peer s
          (entry_of w.on_apdu.new.origin (reassembly_state w.on_apdu.new.self)) x.sends.items (performed_view x.effect) w.on_apdu.new.store) e did)
      | in-SegmentedRequest+in_ok-performed-in-SegmentedRequest+in-Some w ↦
          let x = w.in_ok-performed-in-SegmentedRequest.performed in
          let e : entry_of o (reassembly_state w.in-SegmentedRequest.reassembly) ≡ c.args.self.now =
          ap (λ z. entry_view o z) (sym w.in-SegmentedRequest.is) ∙ c.self.view_is in
          let did = rw w.in-Some.is at w.in_ok-performed-in-SegmentedRequest.ensures in
          rw (w.self-inside-is, w.result-is, w.store-is) (subst (λ (d : ServerTransaction). IsReaction (live_on_apdu set (service_of s) d d.state a) peer s
          (entry_view w.on_apdu.new.origin w.in-Some.next) x.sends.items (performed_view x.effect) w.on_apdu.new.store) e did.1)
      | in-Done w ↦
          let e : entry_of o (Done (kept_reply_view w.in-Done.invoke_id o.terms.choice w.in-Done.kept)) ≡ c.args.self.now =
          ap (λ z. entry_view o z) (sym w.in-Done.is) ∙ c.self.view_is in
          rw (w.self-inside-is, w.result-is, w.store-is) (subst (λ (d : ServerTransaction). Answers (live_on_apdu set (service_of s) d d.state a) peer d
          (entry_of o (Done (kept_reply_view w.in-Done.invoke_id o.terms.choice w.in-Done.kept))) s w.done_on_apdu.result s) e (w.done_on_apdu.ensures s))
      | in-SegmentedResponse w ↦
          let e : entry_of o (transfer_state w.in-SegmentedResponse.reply) ≡ c.args.self.now =
          ap (λ z. entry_view o z) (sym w.in-SegmentedResponse.is) ∙ c.self.view_is in
          rw (w.self-inside-is, w.result-is, w.store-is) (subst (λ (d : ServerTransaction). Answers (live_on_apdu set (service_of s) d d.state a) peer d
          (entry_of o (transfer_state w.on_apdu-in-SegmentedResponse.new.self)) s w.on_apdu-in-SegmentedResponse.result s) e
          (w.on_apdu-in-SegmentedResponse.ensures.does s))
      | in-Dropped w ↦
          let e : entry_of o Dropped ≡ c.args.self.now = ap (λ z. entry_view o z) (sym w.in-Dropped.is) ∙ c.self.view_is in
          rw (w.self-inside-is, w.in-Dropped.is, w.result-is, w.store-is) (subst (λ (d : ServerTransaction). Answers (live_on_apdu set (service_of s) d d.state a)
          peer d (entry_of o Dropped) s w.dropped_on_apdu.result s) e (w.dropped_on_apdu.ensures (entry_of o Dropped) s))
    ]
