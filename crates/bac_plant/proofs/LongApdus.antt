-- Runs of plants whose stations all take APDUs of 480 octets or more.
use Rattle.std.proofs.Common.{ℕ, List, [], ◌∷◌, ◌++◌, Option, Some, None}
use Rattle.bac_protocol.specs.Pace.{IsTimely}
use Rattle.bac_world.specs.Claims.{AreServedApart}
use Rattle.bac_world.specs.LongApdus as world
use Rattle.bac_world.specs.LongApdus.{RepliesFit, TakeLongApdus}
use Rattle.bac_world.specs.Node.{Outcome}
use Rattle.bac_world.specs.Once.{IsOnce}
use Rattle.bac_world.specs.ReusingLogs.{IsOnceSo}
use Rattle.bac_world.specs.World.{Event, IsFresh, stores_of}
use Rattle.bac_world.proofs.Headline.{apart_long, headline_long, headline_long_so}
use Rattle.bac_driver.specs.Turns.{Turn}
use Rattle.bac_plant.specs.Events.{events_in, events_of, heard_events, ticked_events}
use Rattle.bac_plant.specs.LongApdus.{AllAskLong, AsksLong}
use Rattle.bac_plant.specs.Network.{Source}
use Rattle.bac_plant.specs.Network.Source.{Noise, Nowhere, Station, Stranger}
use Rattle.bac_plant.specs.Plants.{HasNoReuse, Plant, nodes_of, settings_of, world_of}
use Rattle.bac_plant.specs.Steps.{PlantRun, Step}
use Rattle.bac_plant.specs.Steps.Step.{Begins, BeginsAway, Changes, FailsToReceive, Holds, Passes, Restarts, SendsHeld, Starts, StartsAgain, Takes}
use Rattle.bac_plant.proofs.Runs.{run_events, run_events_ever}

join_long : (es fs : List Event) → world.AllAskLong es → world.AllAskLong fs → world.AllAskLong (es ++ fs)
join_long [] fs h k = k
join_long (e ∷ es) fs h k = (h.0, join_long es fs h.1 k)

heard_long : (i : ℕ) (source : Source) (heard : Option Outcome) → world.AllAskLong (heard_events i source heard)
heard_long i Nowhere heard = tt
heard_long i (Station number) None = tt
heard_long i (Station number) (Some o) = (tt, tt)
heard_long i (Stranger from octets) None = tt
heard_long i (Stranger from octets) (Some o) = (tt, tt)
heard_long i (Noise from octets) None = tt
heard_long i (Noise from octets) (Some o) = (tt, tt)

ticked_long : (i : ℕ) (ticked : Option Outcome) → world.AllAskLong (ticked_events i ticked)
ticked_long i None = tt
ticked_long i (Some o) = (tt, tt)

turn_long : (i : ℕ) (source : Source) (turn : Turn) → world.AllAskLong (heard_events i source turn.heard ++ ticked_events i turn.ticked)
turn_long i source turn =
    join_long (heard_events i source turn.heard) (ticked_events i turn.ticked) (heard_long i source turn.heard) (ticked_long i turn.ticked)

step_long : (step : Step) → AsksLong step → world.AllAskLong (events_in step)
step_long (Passes by own) h = (tt, tt)
step_long (Takes i source turn) h = turn_long i source turn
step_long (FailsToReceive i) h = tt
step_long (Begins i server limits r) h = (h, tt)
step_long (BeginsAway i peer limits r) h = (tt, tt)
step_long (Changes i change) h = (tt, tt)
step_long (Restarts i exact store) h = (tt, tt)
step_long (Starts i exact) h = (tt, tt)
step_long (StartsAgain i exact first_id store) h = (tt, tt)
step_long (Holds i source turn) h = turn_long i source turn
step_long (SendsHeld i turns) h = tt

pub run_long : (steps : List Step) → AllAskLong steps → world.AllAskLong (events_of steps)
run_long [] h = tt
run_long (step ∷ before) h = join_long (events_of before) (events_in step) (run_long before h.1) (step_long step h.0)

module _ (W overtake : ℕ) (old new : Plant) (fresh : IsFresh (world_of old)) (timely : IsTimely old.time.pace) (long : TakeLongApdus W (world_of old))
    (steps : List Step) (asks : AllAskLong steps) (run : PlantRun overtake steps old new) (fits : RepliesFit new.log) where
  pub once : IsOnceSo (settings_of old) (stores_of (nodes_of old.stations)) new.log (stores_of (nodes_of new.stations))
  once = headline_long_so (settings_of old) W overtake (world_of old) (world_of new) fresh timely long (events_of steps) (run_long steps asks)
      (run_events overtake steps old new run) fits

  pub once_ever : HasNoReuse old → IsOnce (stores_of (nodes_of old.stations)) new.log (stores_of (nodes_of new.stations))
  once_ever none = headline_long W overtake (world_of old) (world_of new) fresh timely long (events_of steps) (run_long steps asks)
      (run_events_ever overtake steps old new none run) fits

  pub apart : HasNoReuse old → AreServedApart (world_of new)
  apart none = apart_long W overtake (world_of old) (world_of new) fresh timely long (events_of steps) (run_long steps asks)
      (run_events_ever overtake steps old new none run) fits
