-- With room another program begins.
use Rattle.std.proofs.Common.{Option, OnOk, subst}
use Rattle.bac_store.specs.Stores.{Store}
use Rattle.bac_world.specs.World.{World, IsBegunAgain}
use Rattle.bac_journal.specs.Clocks.{restart_at}
use Rattle.bac_network.specs.Clocks.{Instant}
use Rattle.bac_network.specs.Networks.{world_of}
use Rattle.bac_network.proofs.Delivered.{same_instant, world_alike}
use Rattle.bac_network.proofs.network.Network.replace_now.Goals as goal

pub returns-clause-begun : goal.returns-clause-begun
returns-clause-begun c =
    let old = c.args.self.now in
    let mid = c.make_room.new.self in
    let new = world_of c.make_replacement.new.self in
    let same = c.in_ok-make_room.ensures.same in
    subst (λ (s : Option Store). OnOk c.make_replacement.result
    (IsBegunAgain (world_of old) c.args.node (restart_at old.journal.moment old.journal.own) c.args.first_id s new)) c.in_ok-given.ensures
    (subst (λ (w : World). OnOk c.make_replacement.result
    (IsBegunAgain w c.args.node (restart_at old.journal.moment old.journal.own) c.args.first_id c.in_ok-given.given new)) (world_alike old mid same)
    (subst (λ (t : Instant). OnOk c.make_replacement.result
    (IsBegunAgain (world_of mid) c.args.node (restart_at t.moment t.own) c.args.first_id c.in_ok-given.given new)) (same_instant old mid same)
    c.make_replacement.ensures.begun))
