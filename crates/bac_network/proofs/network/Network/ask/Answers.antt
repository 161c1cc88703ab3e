-- With room a node asks.
use Rattle.std.proofs.Common.{◌<◌, Err, length, sym, ap, subst, ◌∙◌, arith}
use Rattle.std.proofs.lemmas.Result.{err_from_is_err_and}
use Rattle.bac_apdu.specs.Views.{limits_view}
use Rattle.bac_service.specs.Views.{owned_request_view}
use Rattle.bac_world.specs.World.{World}
use Rattle.bac_world.specs.World.Event.{Ask}
use Rattle.bac_network.specs.Networks.{world_of}
use Rattle.bac_network.specs.Steps.{HappensTelling}
use Rattle.bac_network.proofs.Delivered.{both_there, linked_within, ready_alike, world_alike}
use Rattle.bac_network.proofs.Happening.{no_memory_told}
use Rattle.bac_network.proofs.network.Network.ask.Goals as goal

pub make_ask_room-requires-clause-client : goal.make_ask_room-requires-clause-client
make_ask_room-requires-clause-client c =
    linked_within c.args.self.now.nodes.items c.args.self.now.journal.links (c.requires.1).linked c.args.client (omega arith)

pub make_ask_room-requires-clause-server : goal.make_ask_room-requires-clause-server
make_ask_room-requires-clause-server c =
    linked_within c.args.self.now.nodes.items c.args.self.now.journal.links (c.requires.1).linked c.args.server (omega arith)

pub returns-in_err-copied-clause-happens : goal.returns-in_err-copied-clause-happens
returns-in_err-copied-clause-happens c = λ overtake.
    let p = err_from_is_err_and c.from_residual.result c.from_residual.ensures.1 in
    no_memory_told overtake (world_of c.args.self.now) (world_of c.make_ask_room.new.self)
    (Ask c.args.client c.args.server (limits_view c.args.limits.now) (owned_request_view c.args.request.now)) c.from_residual.result (p.1 ∙ ap Err p.2) tt
    (both_there c.args.self.now.nodes.items c.args.client c.args.server (omega arith) (omega arith))
    (world_alike c.args.self.now c.make_ask_room.new.self c.in_err-copied.ensures.same)

pub ask_other-requires-clause-can : goal.ask_other-requires-clause-can
ask_other-requires-clause-can c =
    let same = c.in_ok-copied.ensures.same in
    record {
      window = c.args.window;
      overtake = c.requires.0;
      ready = ready_alike c.args.window c.requires.0 c.args.self.now c.make_ask_room.new.self same c.requires.1;
      client_there = subst (λ v. c.args.client < length v.items) (sym same.nodes) (omega arith);
      server_there = subst (λ v. c.args.server < length v.items) (sym same.nodes) (omega arith);
      note = c.in_ok-copied.ensures.note;
      room = c.in_ok-copied.ensures.room;
    }

pub returns-clause-happens : goal.returns-clause-happens
returns-clause-happens c = λ overtake.
    subst (λ (w : World). HappensTelling overtake w (Ask c.args.client c.args.server (limits_view c.args.limits.now) (owned_request_view c.args.request.now))
    c.ask_other.result (world_of c.ask_other.new.self)) (world_alike c.args.self.now c.make_ask_room.new.self c.in_ok-copied.ensures.same)
    (c.ask_other.ensures.happens overtake)
