-- With room they are heard.
use Rattle.std.proofs.Common.{◌≡◌, OnErr, OnOk, sym, subst}
use Rattle.bac_world.specs.World.{World, IsOfNone}
use Rattle.bac_world.specs.ReusingWorlds.{HearsOutsideSo}
use Rattle.bac_network.specs.Networks.{world_of}
use Rattle.bac_network.specs.Rules.{reuses_by}
use Rattle.bac_network.proofs.Delivered.{ready_so_alike, world_alike}
use Rattle.bac_network.proofs.Happening.{on_err}
use Rattle.bac_network.proofs.network.Network.hear_from_outside.Goals as goal

pub returns-in_err-make_room-clause-err : goal.returns-in_err-make_room-clause-err
returns-in_err-make_room-clause-err c =
    on_err c.from_residual.result (world_alike c.args.self.now c.make_room.new.self c.in_err-make_room.ensures.same)

pub hear_with_room-requires-clause-ready : goal.hear_with_room-requires-clause-ready
hear_with_room-requires-clause-ready c = (
  c.requires.ready.0,
  ready_so_alike (reuses_by c.args.reuses.now) c.args.window c.requires.ready.0 c.args.self.now c.make_room.new.self c.in_ok-make_room.ensures.same c.requires.ready.1,
)

pub hear_with_room-requires-clause-stranger : goal.hear_with_room-requires-clause-stranger
hear_with_room-requires-clause-stranger c =
    subst (λ v. IsOfNone v.items c.args.from) (sym c.in_ok-make_room.ensures.same.nodes) c.requires.stranger

pub returns-clause-went : goal.returns-clause-went
returns-clause-went c =
    subst (λ (w : World). OnOk c.hear_with_room.result (HearsOutsideSo (IsOfNone w.nodes c.args.from) (reuses_by c.args.reuses.now) w c.args.node c.args.from c.args.octets.now (world_of c.hear_with_room.new.self)))
    (world_alike c.args.self.now c.make_room.new.self c.in_ok-make_room.ensures.same) c.hear_with_room.ensures.went

pub returns-clause-err : goal.returns-clause-err
returns-clause-err c =
    subst (λ (w : World). OnErr c.hear_with_room.result (world_of c.hear_with_room.new.self ≡ w))
    (world_alike c.args.self.now c.make_room.new.self c.in_ok-make_room.ensures.same) c.hear_with_room.ensures.err
