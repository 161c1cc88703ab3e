-- With room it is handed over.
use Rattle.std.proofs.Common.{◌≡◌, OnErr, OnOk, sym, subst}
use Rattle.bac_world.specs.World.{World}
use Rattle.bac_world.specs.World.Event.{Deliver}
use Rattle.bac_network.specs.Goings.{Arrives}
use Rattle.bac_network.specs.Networks.{world_of}
use Rattle.bac_network.specs.Rules.{reuses_by}
use Rattle.bac_network.specs.Steps.{TakesMemory}
use Rattle.bac_network.proofs.Delivered.{ready_so_alike, world_alike}
use Rattle.bac_network.proofs.Happening.{on_err}
use Rattle.bac_network.proofs.network.Network.deliver_now.Goals as goal

pub returns-in_err-make_room-clause-err : goal.returns-in_err-make_room-clause-err
returns-in_err-make_room-clause-err c =
    on_err c.from_residual.result (world_alike c.args.self.now c.make_room.new.self c.in_err-make_room.ensures.same)

pub hand_over-requires-clause-ready : goal.hand_over-requires-clause-ready
hand_over-requires-clause-ready c =
    let same = c.in_ok-make_room.ensures.same in (
      c.requires.0,
      ready_so_alike (reuses_by c.args.reuses.now) c.args.window c.requires.0 c.args.self.now c.make_room.new.self same c.requires.1,
      subst (λ (w : World). TakesMemory c.requires.0 w (Deliver c.args.number)) (sym (world_alike c.args.self.now c.make_room.new.self same)) c.requires.2,
    )

pub returns-clause-went : goal.returns-clause-went
returns-clause-went c =
    subst (λ (w : World). OnOk c.hand_over.result (Arrives (reuses_by c.args.reuses.now) w c.args.number (world_of c.hand_over.new.self)))
    (world_alike c.args.self.now c.make_room.new.self c.in_ok-make_room.ensures.same) c.hand_over.ensures.went

pub returns-clause-err : goal.returns-clause-err
returns-clause-err c =
    subst (λ (w : World). OnErr c.hand_over.result (world_of c.hand_over.new.self ≡ w))
    (world_alike c.args.self.now c.make_room.new.self c.in_ok-make_room.ensures.same) c.hand_over.ensures.err
