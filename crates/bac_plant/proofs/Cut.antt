-- Power cuts are restarts of stations, and the turns of rounds that are lost are nothing.
use Rattle.std.proofs.Common.{◌≡◌, ℕ, List, [], ◌∷◌, Option, Some, None, Bool, true, false, sym, ap, subst, inl, inr}
use Rattle.bac_protocol.specs.Pace.{IsTimely}
use Rattle.bac_transaction.specs.Meanings.{EndedView, Ending}
use Rattle.bac_world.specs.Claims.{AreServedApart}
use Rattle.bac_world.specs.Node.{Node}
use Rattle.bac_world.specs.Once.{Fact, HasNoChange, IsOnce, IsOnceByRequests}
use Rattle.bac_world.specs.ReusingLogs.{IsOnceSo}
use Rattle.bac_world.specs.ReusingWorlds.{AreLoggedSo}
use Rattle.bac_world.specs.Services as service
use Rattle.bac_world.specs.World.{AreEnded, AreLogged, IsBounded, IsFresh, Note, ending_fact, is_away, stores_of}
use Rattle.bac_world.proofs.Claims.{by_requests}
use Rattle.bac_driver.specs.Turns.{Turn, ended_of, performed_of}
use Rattle.bac_plant.specs.Cuts.{CutPlant, CutPlantRun, CutStep, KeepStores, steps_of}
use Rattle.bac_plant.specs.Plants.{HasNoReuse, Plant, nodes_of, settings_of, world_of}
use Rattle.bac_plant.specs.Steps.{AreEntered, PlantRun, PlantStep, Step}
use Rattle.bac_plant.specs.Steps.Step.{Begins, BeginsAway, Changes, FailsToReceive, Holds, Passes, Restarts, SendsHeld, Starts, StartsAgain, Takes}
use Rattle.bac_plant.proofs.Runs.{apart, once, once_ever}

pub cut_steps : (overtake : ℕ) (steps : List CutStep) (old new : CutPlant) → CutPlantRun overtake steps old new
    → PlantRun overtake (steps_of steps) old.plant new.plant
cut_steps overtake [] old new run = ap (λ (c : CutPlant). c.plant) run
cut_steps overtake (CutStep.Goes step ∷ before) old new run =
    record { middle = run.middle.plant; so_far = cut_steps overtake before old run.middle run.so_far; last = run.last.goes }
cut_steps overtake (CutStep.Loses i source turn ∷ before) old new run =
    subst (λ (p : Plant). PlantRun overtake (steps_of before) old.plant p) (sym (ap (λ (c : CutPlant). c.plant) run.last.is))
    (cut_steps overtake before old run.middle run.so_far)
cut_steps overtake (CutStep.Cuts i exact ∷ before) old new run =
    record { middle = run.middle.plant; so_far = cut_steps overtake before old run.middle run.so_far; last = run.last.starts }

-- Logs without changes.

ended_alone : (away : Bool) (number : ℕ) (how : Ending) (log : List Fact) → HasNoChange log → HasNoChange (ending_fact away number how ∷ log)
ended_alone true number how log h = h
ended_alone false number how log h = h

ends_alone : (notes : List Note) (i : ℕ) (fs : List EndedView) (old new : List Fact) → AreEnded notes i fs old new → HasNoChange old → HasNoChange new
ends_alone notes i [] old new is h = subst HasNoChange (sym is) h
ends_alone notes i (f ∷ fs) old new is h =
    ends_alone notes i fs (ending_fact (is_away is.0 notes) is.0 f.how ∷ old) new is.2 (ended_alone (is_away is.0 notes) is.0 f.how old h)

logs_alone : (nodes : List Node) (notes : List Note) (i : ℕ) (after : Node) (p : Option service.Performed) (old new : List Fact)
    → AreLogged nodes notes i after p old new → HasNoChange old → HasNoChange new
logs_alone nodes notes i after None old new is h = subst HasNoChange (sym is) h
logs_alone nodes notes i after (Some p) old new (inl is) h = subst HasNoChange (sym is.log) h
logs_alone nodes notes i after (Some p) old new (inr is) h = subst HasNoChange (sym is.log) h

logs_alone_so : (reuse : Bool) (nodes : List Node) (notes : List Note) (i : ℕ) (after : Node) (p : Option service.Performed) (old new : List Fact)
    → AreLoggedSo reuse nodes notes i after p old new → HasNoChange old → HasNoChange new
logs_alone_so false nodes notes i after p old new is h = logs_alone nodes notes i after p old new is h
logs_alone_so true nodes notes i after None old new is h = subst HasNoChange (sym is) h
logs_alone_so true nodes notes i after (Some p) old new (inl is) h = subst HasNoChange (sym is.log) h
logs_alone_so true nodes notes i after (Some p) old new (inr is) h = subst HasNoChange (sym is.log) h

enters_alone : (reuse : Bool) (p : Plant) (i : ℕ) (middle : Node) (turn : Turn) (log : List Fact) → AreEntered reuse p i middle turn log → HasNoChange p.log
    → HasNoChange log
enters_alone reuse p i middle turn log e h =
    ends_alone p.notes i (ended_of turn.ticked) e.performed log e.gives_up
    (logs_alone_so reuse (nodes_of p.stations) p.notes i middle (performed_of turn.heard) e.ended e.performed e.performs
    (ends_alone p.notes i (ended_of turn.heard) p.log e.ended e.ends h))

log_is : (new p : Plant) → new ≡ p → HasNoChange p.log → HasNoChange new.log
log_is new p is h = subst (λ (q : Plant). HasNoChange q.log) (sym is) h

step_alone : (overtake : ℕ) (step : Step) (old new : Plant) → PlantStep overtake old step new → KeepStores (step ∷ []) → HasNoChange old.log
    → HasNoChange new.log
step_alone overtake (Passes by own) old new s k h = log_is new _ s h
step_alone overtake (Takes i source turn) old new s k h =
    log_is new _ s.happens.is (enters_alone s.reuse old i s.takes.is.acts.middle turn s.happens.log s.happens.entered h)
step_alone overtake (FailsToReceive i) old new s k h = log_is new _ s.is h
step_alone overtake (Begins i server limits r) old new s k h = log_is new _ s.is h
step_alone overtake (BeginsAway i peer limits r) old new s k h = log_is new _ s.is h
step_alone overtake (Changes i change) old new s k h = absurd k
step_alone overtake (Restarts i exact store) old new s k h = log_is new _ s.is (k.0, h)
step_alone overtake (Starts i exact) old new s k h = log_is new _ s.is h
step_alone overtake (StartsAgain i exact first_id store) old new s k h = log_is new _ s.is (k.0, h)
step_alone overtake (Holds i source turn) old new s k h =
    log_is new _ s.happens.is (enters_alone s.reuse old i s.holds.takes.middle turn s.happens.log s.happens.entered h)
step_alone overtake (SendsHeld i turns) old new s k h = log_is new _ s.is h

keeps_both : (step : Step) (before : List Step) → KeepStores (step ∷ before) → KeepStores (step ∷ []) × KeepStores before
keeps_both (Passes by own) before k = (tt, k)
keeps_both (Takes i source turn) before k = (tt, k)
keeps_both (FailsToReceive i) before k = (tt, k)
keeps_both (Begins i server limits r) before k = (tt, k)
keeps_both (BeginsAway i peer limits r) before k = (tt, k)
keeps_both (Changes i change) before k = absurd k
keeps_both (Restarts i exact store) before k = ((k.0, tt), k.1)
keeps_both (Starts i exact) before k = (tt, k)
keeps_both (StartsAgain i exact first_id store) before k = ((k.0, tt), k.1)
keeps_both (Holds i source turn) before k = (tt, k)
keeps_both (SendsHeld i turns) before k = (tt, k)

run_alone : (overtake : ℕ) (steps : List Step) (old new : Plant) → PlantRun overtake steps old new → KeepStores steps → HasNoChange old.log
    → HasNoChange new.log
run_alone overtake [] old new run k h = log_is new old run h
run_alone overtake (step ∷ before) old new run k h =
    let both = keeps_both step before k in
    step_alone overtake step run.middle new run.last both.0 (run_alone overtake before old run.middle run.so_far both.1 h)

-- After each run with power cuts.

module _ (W overtake : ℕ) (old new : CutPlant) (fresh : IsFresh (world_of old.plant)) (timely : IsTimely old.plant.time.pace)
    (bounded : IsBounded W overtake (world_of old.plant)) (steps : List CutStep) (run : CutPlantRun overtake steps old new) where
  cut_run : PlantRun overtake (steps_of steps) old.plant new.plant
  cut_run = cut_steps overtake steps old new run

  pub cut_once : IsOnceSo (settings_of old.plant) (stores_of (nodes_of old.plant.stations)) new.plant.log (stores_of (nodes_of new.plant.stations))
  cut_once = once W overtake old.plant new.plant fresh timely bounded (steps_of steps) cut_run

  pub cut_once_ever : HasNoReuse old.plant → IsOnce (stores_of (nodes_of old.plant.stations)) new.plant.log (stores_of (nodes_of new.plant.stations))
  cut_once_ever none = once_ever W overtake old.plant new.plant fresh timely bounded (steps_of steps) cut_run none

  pub cut_apart : HasNoReuse old.plant → AreServedApart (world_of new.plant)
  cut_apart none = apart W overtake old.plant new.plant fresh timely bounded (steps_of steps) cut_run none

  pub cut_by_requests : HasNoReuse old.plant → KeepStores (steps_of steps)
      → IsOnceByRequests (stores_of (nodes_of old.plant.stations)) new.plant.log (stores_of (nodes_of new.plant.stations))
  cut_by_requests none k =
      by_requests (stores_of (nodes_of old.plant.stations)) new.plant.log (stores_of (nodes_of new.plant.stations))
      (run_alone overtake (steps_of steps) old.plant new.plant cut_run k (subst HasNoChange (sym fresh.log) tt)) (cut_once_ever none)
