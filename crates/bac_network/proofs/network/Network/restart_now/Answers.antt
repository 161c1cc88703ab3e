-- With room a node restarts.
use Rattle.std.proofs.Common.{Option, OnOk, subst}
use Rattle.bac_store.specs.Stores.{Store}
use Rattle.bac_world.specs.World.{World, IsRestarted}
use Rattle.bac_journal.specs.Clocks.{restart_at}
use Rattle.bac_network.specs.Clocks.{Instant}
use Rattle.bac_network.specs.Networks.{world_of}
use Rattle.bac_network.proofs.Delivered.{same_instant, world_alike}
use Rattle.bac_network.proofs.network.Network.restart_now.Goals as goal

pub returns-clause-restarted : goal.returns-clause-restarted
returns-clause-restarted c =
    let old = c.args.self.now in
    let mid = c.make_room.new.self in
    let new = world_of c.make_restart.new.self in
    let same = c.in_ok-make_room.ensures.same in
    subst (λ (s : Option Store). OnOk c.make_restart.result
    (IsRestarted (world_of old) c.args.node (restart_at old.journal.moment old.journal.own) s new)) c.in_ok-given.ensures
    (subst (λ (w : World). OnOk c.make_restart.result
    (IsRestarted w c.args.node (restart_at old.journal.moment old.journal.own) c.in_ok-given.given new)) (world_alike old mid same)
    (subst (λ (t : Instant). OnOk c.make_restart.result
    (IsRestarted (world_of mid) c.args.node (restart_at t.moment t.own) c.in_ok-given.given new)) (same_instant old mid same)
    c.make_restart.ensures.restarted))
