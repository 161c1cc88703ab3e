-- With room a node ticks.
use Rattle.std.proofs.Common.{refl, subst}
use Rattle.std.proofs.lemmas.Option.{slice_get_read}
use Rattle.bac_world.specs.World.{World, Ticks}
use Rattle.bac_network.specs.Networks.{world_of}
use Rattle.bac_network.proofs.Delivered.{due_alike, ready_alike, world_alike}
use Rattle.bac_network.proofs.Happening.{on_err}
use Rattle.bac_network.proofs.network.Network.tick_now.Goals as goal

pub returns-in_err-make_room-clause-err : goal.returns-in_err-make_room-clause-err
returns-in_err-make_room-clause-err c =
    on_err c.from_residual-in_err-make_room.result (world_alike c.args.self.now c.make_room.new.self c.in_err-make_room.ensures.same)

pub make_tick-requires-clause-ready : goal.make_tick-requires-clause-ready
make_tick-requires-clause-ready c = (
  c.requires.ready.0,
  c.requires.ready.1,
  ready_alike c.requires.ready.0 c.requires.ready.1 c.args.self.now c.make_room.new.self c.in_ok-make_room.ensures.same c.requires.ready.2,
)

pub make_tick-requires-clause-due : goal.make_tick-requires-clause-due
make_tick-requires-clause-due c =
    due_alike c.args.self.now c.make_room.new.self c.in_ok-make_room.ensures.same c.args.node c.told.result c.told.ensures c.index.result.now
    (slice_get_read c.args.self.now.nodes.items _ c.args.node c.index.result.now refl c.requires.there c.index.ensures) _ c.in_ok-outcome.ensures

pub returns-clause-went : goal.returns-clause-went
returns-clause-went c =
    subst (λ (w : World). Ticks w c.args.node (world_of c.make_tick.new.self))
    (world_alike c.args.self.now c.make_room.new.self c.in_ok-make_room.ensures.same) c.make_tick.ensures.ticked
