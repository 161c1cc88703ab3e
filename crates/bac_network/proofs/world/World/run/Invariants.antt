-- The events so far happened.
use Rattle.std.proofs.Common.{◌≡◌, take}
use Rattle.bac_world.specs.ReusingWorlds.{WorldRunSo}
use Rattle.bac_network.specs.Histories.{as_world, reuses_of}
use Rattle.bac_network.specs.Runs.{KeepsSettings}
use Rattle.bac_network.specs.Views.{events_view, instant_after_all}
use Rattle.bac_network.proofs.world.World.run.Given as goal

abbrev pub invariant-loop-place : goal.invariant-loop-place
invariant-loop-place l =
    record {
      done : WorldRunSo l.fn.self.overtake (reuses_of l.fn.self) (as_world l.fn.self) (take l.place (events_view l.fn.self.time l.events)) (as_world l.self);
      time : l.self.time ≡ instant_after_all (take l.place l.events) l.fn.self.time;
      settings : KeepsSettings l.fn.self l.self;
    }
