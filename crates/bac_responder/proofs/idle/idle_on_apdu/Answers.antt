-- A request, whole or in segments.
use Rattle.bac_apdu.specs.Views.{apdu_view}
use Rattle.bac_transaction.specs.Services.{service_of}
use Rattle.bac_transaction.specs.Views.{context_view, peer_of}
use Rattle.bac_responder.proofs.Begun.{idle_begins_now}
use Rattle.bac_responder.proofs.idle.idle_on_apdu.Goals as goal

pub returns-in-None-clause-does : goal.returns-in-None-clause-does
returns-in-None-clause-does c = rw (c.in-ConfirmedRequest.is, c.in-None.is, c.if-free-2.true) c.on_request.ensures

pub returns-in-Some-2-clause-does : goal.returns-in-Some-2-clause-does
returns-in-Some-2-clause-does c = rw (c.in-ConfirmedRequest.is, c.in-Some-2.is, c.if-free.true) c.on_first_segment.ensures

pub returns-in-None-clause-begin : goal.returns-in-None-clause-begin
returns-in-None-clause-begin c =
    idle_begins_now (context_view c.args.context.now) (service_of c.args.store.now) (peer_of c.args.context.now) c.args.store.now c.on_request.new.store
    c.args.free (apdu_view c.args.apdu.now) c.on_request.result (rw (c.in-ConfirmedRequest.is, c.in-None.is, c.if-free-2.true) c.on_request.ensures)

pub returns-in-Some-2-clause-begin : goal.returns-in-Some-2-clause-begin
returns-in-Some-2-clause-begin c =
    idle_begins_now (context_view c.args.context.now) (service_of c.args.store.now) (peer_of c.args.context.now) c.args.store.now c.on_first_segment.new.store
    c.args.free (apdu_view c.args.apdu.now) c.on_first_segment.result
    (rw (c.in-ConfirmedRequest.is, c.in-Some-2.is, c.if-free.true) c.on_first_segment.ensures)
