-- It begins as ever.
use Rattle.std.proofs.Common.{Option}
use Rattle.bac_apdu.specs.Apdu.{Apdu}
use Rattle.bac_apdu.specs.Views.{apdu_view}
use Rattle.bac_protocol.specs.Context.{Context}
use Rattle.bac_protocol.specs.Server.{Service, ServerTransaction, idle_on_apdu}
use Rattle.bac_transaction.specs.Services.{service_of}
use Rattle.bac_transaction.specs.Views.{context_view, peer_of}
use Rattle.bac_responder.proofs.Begins.{begins_with}
use Rattle.bac_responder.proofs.beginning.on_other.Goals as goal

pub returns-clause-does : goal.returns-clause-does
returns-clause-does c =
    let set : Context = context_view c.args.context.now in
    let service : Service = service_of c.args.store.now in
    let a : Apdu = apdu_view c.args.apdu.now in
    begins_with (λ (dead : Option ServerTransaction). idle_on_apdu set service dead c.args.space.free a) (peer_of c.args.context.now) c.args.store.now
    c.idle_on_apdu.new.store c.in_ok-performed.performed c.in_ok-performed.entry c.in_ok-performed.ensures.does
