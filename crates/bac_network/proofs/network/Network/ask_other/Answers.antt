-- The ask is noted, or its fault is told.
use Rattle.std.proofs.Common.{refl, ap, subst, inl, ◌∙◌, arith}
use Rattle.std.proofs.lemmas.Option.{slice_get_read}
use Rattle.std.proofs.lemmas.List.{with_items_is}
use Rattle.std.specs.Vec.{with_items}
use Rattle.bac_apdu.specs.Views.{limits_view}
use Rattle.bac_service.specs.Values.{Request}
use Rattle.bac_service.specs.Views.{owned_request_view}
use Rattle.bac_network.specs.Asks.{IsNotedAsk}
use Rattle.bac_network.specs.Networks.{world_with}
use Rattle.bac_network.specs.Views.{log_view}
use Rattle.bac_network.specs.declared.network.Network.{Network}
use Rattle.bac_network.proofs.Asked.{ask_enters, is_asked, told_so}
use Rattle.bac_network.proofs.network.Network.ask_other.Goals as goal

pub note-requires-clause-can : goal.note-requires-clause-can
note-requires-clause-can c =
    let there = slice_get_read c.args.self.now.nodes.items _ c.args.server c.index.result.now refl c.requires.can.server_there c.index.ensures in
    (ask_enters c.args.self.now c.args.client c.args.server c.requires.can c.index.result.now there (limits_view c.args.limits.now)
    (owned_request_view c.args.request.now) c.ask.new.nodes c.in-Ok.asked c.deref_mut.result.now c.deref_mut.ensures.value c.link.result c.link.ensures
    c.told-now.result c.told-now.ensures c.in-Ok.ensures.asked).can

pub note-requires-clause-room : goal.note-requires-clause-room
note-requires-clause-room c =
    let there = slice_get_read c.args.self.now.nodes.items _ c.args.server c.index.result.now refl c.requires.can.server_there c.index.ensures in
    let few = (ask_enters c.args.self.now c.args.client c.args.server c.requires.can c.index.result.now there (limits_view c.args.limits.now)
    (owned_request_view c.args.request.now) c.ask.new.nodes c.in-Ok.asked c.deref_mut.result.now c.deref_mut.ensures.value c.link.result c.link.ensures
    c.told-now.result c.told-now.ensures c.in-Ok.ensures.asked).few in
    let room = c.requires.can.room.journal in
    omega (arith, few, room)

pub returns-in-Ok-clause-happens : goal.returns-in-Ok-clause-happens
returns-in-Ok-clause-happens c = λ overtake.
    let there = slice_get_read c.args.self.now.nodes.items _ c.args.server c.index.result.now refl c.requires.can.server_there c.index.ensures in
    let new : Network = record { nodes = with_items c.args.self.now.nodes c.ask.new.nodes; journal = c.note.new.journal; log = c.note.new.log } in
    let noted = subst
    (λ (r : Request). IsNotedAsk c.args.self.now.nodes.items c.args.client c.args.server r c.in-Ok.asked.invoke_id c.in-Ok.asked.ticket
    c.in-Ok.asked.sends.items c.args.self.now.journal c.note.new.journal (log_view c.args.self.now.log.items) (log_view c.note.new.log.items))
    c.requires.copied (c.note.ensures c.args.self.now.nodes.items c.requires.can.ready.linked) in
    let k = is_asked c.args.self.now c.args.client c.args.server c.requires.can c.index.result.now there (limits_view c.args.limits.now)
    (owned_request_view c.args.request.now) c.ask.new.nodes c.in-Ok.asked c.deref_mut.result.now c.deref_mut.ensures.value c.link.result c.link.ensures
    c.told-now.result c.told-now.ensures c.in-Ok.ensures.asked new
    (with_items_is c.args.self.now.nodes c.ask.new.nodes (omega arith)) noted in
    (inl k, k, λ x. x, λ x. x)

pub returns-in-Ok-clause-links : goal.returns-in-Ok-clause-links
returns-in-Ok-clause-links c = (c.note.ensures c.args.self.now.nodes.items c.requires.can.ready.linked).links

pub returns-in-Err-clause-happens : goal.returns-in-Err-clause-happens
returns-in-Err-clause-happens c = λ overtake.
    let there = slice_get_read c.args.self.now.nodes.items _ c.args.server c.index.result.now refl c.requires.can.server_there c.index.ensures in
    let new : Network = record (c.args.self.now) { nodes = with_items c.args.self.now.nodes c.ask.new.nodes } in
    told_so overtake c.args.self.now new c.args.client c.args.server c.requires.can c.index.result.now there (limits_view c.args.limits.now)
    (owned_request_view c.args.request.now)
    (ap (λ l. world_with l c.args.self.now.journal (log_view c.args.self.now.log.items))
    (with_items_is c.args.self.now.nodes c.ask.new.nodes (omega arith) ∙ c.in-Err.ensures.err ∙ c.deref_mut.ensures.value))
    c.deref_mut.result.now c.ask.new.nodes c.deref_mut.ensures.value c.link.result c.link.ensures c.told-now.result c.told-now.ensures c.in-Err.fault
    c.in-Err.ensures.refused c.told.result c.told.ensures

pub returns-in-Ok-clause-stays : goal.returns-in-Ok-clause-stays
returns-in-Ok-clause-stays c =
    let k = c.note.ensures c.args.self.now.nodes.items c.requires.can.ready.linked in λ i. record { moment = k.moment i; own = k.own i }
