-- A segment comes for an entry that receives its request.
use Rattle.std.proofs.Common.{◌≡◌, ◌∙◌, Some, ap, sym, subst}
use Rattle.std.specs.Option.{option_map}
use Rattle.bac_apdu.specs.Apdu.{Apdu}
use Rattle.bac_apdu.specs.Apdu.Apdu.{ConfirmedRequest}
use Rattle.bac_apdu.specs.Views.{apdu_view, limits_view, segment_view}
use Rattle.bac_store.specs.Stores.{Store}
use Rattle.bac_protocol.specs.Context.{Context}
use Rattle.bac_protocol.specs.Server as machine
use Rattle.bac_protocol.specs.Server.{ServerTransaction}
use Rattle.bac_transaction.specs.Services.{service_of}
use Rattle.bac_transaction.specs.Views.{context_view, peer_of}
use Rattle.bac_responder.specs.Segments.{Receives}
use Rattle.bac_responder.specs.TransactionViews.{entry_of, reassembly_state}
use Rattle.bac_responder.proofs.Takings.{takes_receives}
use Rattle.bac_responder.proofs.server_transaction.Reassembly.on_apdu.Goals as goal

pub returns-in-Some : goal.returns-in-Some
returns-in-Some c =
    let w = c.in-ConfirmedRequest in
    let set : Context = context_view c.args.context.now in
    let s : Store = c.args.store.now in
    let e : ServerTransaction = entry_of c.args.origin.now (reassembly_state c.args.self.now) in
    let all = takes_receives (λ z. machine.segmented_request_on_segment set (service_of s) (entry_of c.args.origin.now z) c.args.self.now.incoming
    c.args.self.now.since (segment_view c.in-Some.segment) w.octets.now) (peer_of c.args.context.now) c.args.origin.now c.on_segment.new.origin c.args.self.now
    c.on_segment.new.self s c.on_segment.result c.on_segment.new.store c.on_segment.ensures (reassembly_state c.args.self.now) in
    let heard : apdu_view c.args.apdu.now ≡ ConfirmedRequest (limits_view w.limits) w.invoke_id (Some (segment_view c.in-Some.segment)) w.choice w.octets.now =
    ap apdu_view w.is ∙ ap (λ o. ConfirmedRequest (limits_view w.limits) w.invoke_id (option_map segment_view o) w.choice w.octets.now) c.in-Some.is in
    subst (λ (a : Apdu). Receives (machine.segmented_request_on_apdu set (service_of s) e c.args.self.now.incoming c.args.self.now.since a)
    (peer_of c.args.context.now) c.args.origin.now c.on_segment.new.origin c.args.self.now c.on_segment.new.self s c.on_segment.result
    c.on_segment.new.store) (sym heard) all
