-- How far the deliveries of an ask have gone, in code.
use Rattle.std.specs.Prelude.{◌≡◌, ℕ, ◌+◌, ◌<◌, length, None}
use Rattle.bac_world.specs.World.Event.{Deliver}
use Rattle.bac_network.specs.Histories.{WorldView, as_world, reuses_of}
use Rattle.bac_network.specs.Steps.{IsFault}
use Rattle.bac_network.specs.declared.fault.WorldFault.{WorldFault}
use Rattle.bac_liveness.specs.StraightRuns.{ending_in}
use Rattle.bac_network.specs.Logs.{IsSince, DeliverUnendedSo, Stops}
use Rattle.bac_network.specs.Runs.{KeepsSettings}

-- so many copies were delivered, from the first of the ask on
pub record HasGone (ask since first : ℕ) (old new : WorldView) (count : ℕ) : Type 0 where
  pub each : DeliverUnendedSo old.overtake (reuses_of old) ask count first (as_world old) (as_world new)
  pub since_is : IsSince since ask new.log
  pub settings : KeepsSettings old new
  pub passed : new.time ≡ old.time

-- and that was all
pub record HasStopped (ask since first : ℕ) (old new : WorldView) (count : ℕ) : Type 0 where
  pub gone : HasGone ask since first old new count
  pub stops : Stops ask (first + count) (as_world new)

-- the delivery of the next copy met that fault: that copy is there, and the ask has not ended
pub record IsStuck (f : WorldFault) (ask since first : ℕ) (old new : WorldView) : Type 0 where
  pub count : ℕ
  pub gone : HasGone ask since first old new count
  pub unended : ending_in ask new.log ≡ None
  pub left : first + count < length new.copies
  pub why : IsFault f old.overtake (as_world new) (Deliver (first + count))
