-- A read, or any other APDU.
use Rattle.std.proofs.Common.{Bool, Option, ◌&&◌, not, ap}
use Rattle.bac_apdu.specs.Apdu.{Apdu}
use Rattle.bac_apdu.specs.Views.{apdu_view, limits_view}
use Rattle.bac_protocol.specs.Context.{Context}
use Rattle.bac_protocol.specs.Reuse.{idle_on_read}
use Rattle.bac_protocol.specs.Server.{Service, ServerTransaction, idle_on_apdu}
use Rattle.bac_protocol.specs.Serving.{ReadRule, idle_by}
use Rattle.bac_transaction.specs.Services.{service_of}
use Rattle.bac_transaction.specs.Views.{context_view, peer_of, read_rule_view}
use Rattle.bac_responder.specs.Hearing.{Read}
use Rattle.bac_responder.proofs.Begins.{begins_as, heeds_as, no_needs_slot, no_read, no_read_needs, some_needs_slot, some_read, some_read_needs, tells_as}
use Rattle.bac_responder.proofs.beginning.idle_by.Goals as goal

pub returns-in-Some-clause-does : goal.returns-in-Some-clause-does
returns-in-Some-clause-does c =
    let set : Context = context_view c.args.context.now in
    let service : Service = service_of c.args.store.now in
    let a : Apdu = apdu_view c.args.apdu.now in
    let reads : ReadRule = read_rule_view c.args.reads in
    let free : Bool = c.args.space.free in
    let w : Read = record { choice = c.in-Some.terms.choice; limits = limits_view c.in-Some.terms.limits; octets = c.in-Some.octets.now } in
    begins_as (λ (dead : Option ServerTransaction). idle_on_read set service dead free w.choice w.limits w.octets)
    (λ (dead : Option ServerTransaction). idle_by set service reads dead free a) (λ dead. some_read set service reads dead free a w c.in-Some.ensures)
    (peer_of c.args.context.now) c.args.store.now c.on_read.result c.on_read.new.store c.on_read.ensures.does

pub returns-in-Some-clause-away : goal.returns-in-Some-clause-away
returns-in-Some-clause-away c =
    let w : Read = record { choice = c.in-Some.terms.choice; limits = limits_view c.in-Some.terms.limits; octets = c.in-Some.octets.now } in
    tells_as _ _ (ap (λ (b : Bool). b && not c.args.space.free) (some_needs_slot (context_view c.args.context.now) (service_of c.args.store.now)
    (read_rule_view c.args.reads) (apdu_view c.args.apdu.now) w c.in-Some.ensures)) c.on_read.result c.on_read.ensures.away

pub returns-in-Some-clause-room : goal.returns-in-Some-clause-room
returns-in-Some-clause-room c =
    let w : Read = record { choice = c.in-Some.terms.choice; limits = limits_view c.in-Some.terms.limits; octets = c.in-Some.octets.now } in
    heeds_as c.args.space.room _ _ (some_read_needs (context_view c.args.context.now) (service_of c.args.store.now)
    (read_rule_view c.args.reads) (apdu_view c.args.apdu.now) w c.in-Some.ensures) c.on_read.result c.on_read.ensures.room

pub returns-in-None-clause-does : goal.returns-in-None-clause-does
returns-in-None-clause-does c =
    let set : Context = context_view c.args.context.now in
    let service : Service = service_of c.args.store.now in
    let a : Apdu = apdu_view c.args.apdu.now in
    let reads : ReadRule = read_rule_view c.args.reads in
    let free : Bool = c.args.space.free in
    begins_as (λ (dead : Option ServerTransaction). idle_on_apdu set service dead free a)
    (λ (dead : Option ServerTransaction). idle_by set service reads dead free a) (λ dead. no_read set service reads dead free a c.in-None.ensures)
    (peer_of c.args.context.now) c.args.store.now c.on_other.result c.on_other.new.store c.on_other.ensures.does

pub returns-in-None-clause-away : goal.returns-in-None-clause-away
returns-in-None-clause-away c =
    tells_as _ _ (ap (λ (b : Bool). b && not c.args.space.free) (no_needs_slot (context_view c.args.context.now) (service_of c.args.store.now)
    (read_rule_view c.args.reads) (apdu_view c.args.apdu.now) c.in-None.ensures)) c.on_other.result c.on_other.ensures.away

pub returns-in-None-clause-room : goal.returns-in-None-clause-room
returns-in-None-clause-room c =
    heeds_as c.args.space.room _ _ (no_read_needs (context_view c.args.context.now) (service_of c.args.store.now)
    (read_rule_view c.args.reads) (apdu_view c.args.apdu.now) c.in-None.ensures) c.on_other.result c.on_other.ensures.room
