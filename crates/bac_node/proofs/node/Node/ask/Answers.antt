-- The client's end was asked.
use Rattle.std.proofs.Common.{◌≢◌, rules}
use Rattle.bac_apdu.specs.Views.{limits_view}
use Rattle.bac_npdu.specs.Views.{peer_view}
use Rattle.bac_service.specs.Spellings.{request_spelling}
use Rattle.bac_service.specs.Views.{owned_request_view}
use Rattle.bac_node.proofs.Asks.{accepted_so, refused_so}
use Rattle.bac_node.proofs.node.Node.ask.Goals as goal

pub returns-in-Ok-clause-asked : goal.returns-in-Ok-clause-asked
returns-in-Ok-clause-asked c =
    let foreign : c.args.peer.now.link ≢ c.self.inside.link = search rules in
    rw (← c.self.view_is) (accepted_so c.args.now _ (peer_view c.args.peer.now) (limits_view c.args.limits.now) (owned_request_view c.args.request.now)
    (request_spelling (owned_request_view c.args.request.now)) foreign c.in-Ok.ensures.spelled c.ask.new.self c.in-Ok.asked c.in-Ok.ensures.asks)

pub returns-in-Err-clause-refused : goal.returns-in-Err-clause-refused
returns-in-Err-clause-refused c =
    let foreign : c.args.peer.now.link ≢ c.self.inside.link = search rules in
    rw (← c.self.view_is) (refused_so c.args.now _ (peer_view c.args.peer.now) (limits_view c.args.limits.now) (owned_request_view c.args.request.now)
    (request_spelling (owned_request_view c.args.request.now)) foreign c.in-Err.ensures.spelled c.in-Err.fault c.in-Err.ensures.asks.0)
