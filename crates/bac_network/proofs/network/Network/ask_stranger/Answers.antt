-- With room a node asks a stranger.
use Rattle.std.proofs.Common.{◌<◌, Err, length, refl, sym, ap, subst, ◌∙◌, arith}
use Rattle.std.proofs.lemmas.Result.{err_from_is_err_and}
use Rattle.bac_apdu.specs.Views.{limits_view}
use Rattle.bac_npdu.specs.Views.{peer_view}
use Rattle.bac_service.specs.Views.{owned_request_view}
use Rattle.bac_world.specs.World.{World, IsOfNone}
use Rattle.bac_world.specs.World.Event.{AskAway}
use Rattle.bac_network.specs.Networks.{world_of}
use Rattle.bac_network.specs.Steps.{HappensTelling}
use Rattle.bac_network.proofs.Delivered.{is_there, linked_within, of_none, of_some, ready_alike, world_alike}
use Rattle.bac_network.proofs.Happening.{no_memory_told}
use Rattle.bac_network.proofs.network.Network.ask_stranger.Goals as goal

pub returns-in-Some-clause-happens : goal.returns-in-Some-clause-happens
returns-in-Some-clause-happens c = λ overtake.
    (of_some c.requires.0 c.requires.1 c.args.self.now c.requires.2 c.args.client (omega arith) c.args.peer.now.link _ c.in-Some.ensures.some, refl)

pub make_away_room-requires : goal.make_away_room-requires
make_away_room-requires c = record {
  client = linked_within c.args.self.now.nodes.items c.args.self.now.journal.links (c.requires.2).linked c.args.client (omega arith);
}

pub returns-in_err-copied-in-None-clause-happens : goal.returns-in_err-copied-in-None-clause-happens
returns-in_err-copied-in-None-clause-happens c = λ overtake.
    let p = err_from_is_err_and c.from_residual.result c.from_residual.ensures.1 in
    no_memory_told overtake (world_of c.args.self.now) (world_of c.make_away_room.new.self)
    (AskAway c.args.client (peer_view c.args.peer.now) (limits_view c.args.limits.now) (owned_request_view c.args.request.now)) c.from_residual.result
    (p.1 ∙ ap Err p.2)
    (of_none c.requires.0 c.requires.1 c.args.self.now c.requires.2 c.args.peer.now.link (c.in-None.ensures.none refl))
    (is_there c.args.self.now.nodes.items c.args.client (omega arith))
    (world_alike c.args.self.now c.make_away_room.new.self c.in_err-copied-in-None.ensures.same)

pub ask_away-requires-clause-can : goal.ask_away-requires-clause-can
ask_away-requires-clause-can c =
    let same = c.in_ok-copied-in-None.ensures.same in
    record {
      window = c.requires.0;
      overtake = c.requires.1;
      ready = ready_alike c.requires.0 c.requires.1 c.args.self.now c.make_away_room.new.self same c.requires.2;
      client_there = subst (λ v. c.args.client < length v.items) (sym same.nodes) (omega arith);
      stranger = subst (λ v. IsOfNone v.items c.args.peer.now.link) (sym same.nodes)
          (of_none c.requires.0 c.requires.1 c.args.self.now c.requires.2 c.args.peer.now.link (c.in-None.ensures.none refl));
      note = c.in_ok-copied-in-None.ensures.note;
      room = c.in_ok-copied-in-None.ensures.room;
    }

pub returns-in_ok-copied-in-None-clause-happens : goal.returns-in_ok-copied-in-None-clause-happens
returns-in_ok-copied-in-None-clause-happens c = λ overtake.
    subst (λ (w : World). HappensTelling overtake w
    (AskAway c.args.client (peer_view c.args.peer.now) (limits_view c.args.limits.now) (owned_request_view c.args.request.now))
    c.ask_away.result (world_of c.ask_away.new.self)) (world_alike c.args.self.now c.make_away_room.new.self c.in_ok-copied-in-None.ensures.same)
    (c.ask_away.ensures.happens overtake)
