-- A run with power cuts is one of its world with power cuts.
use Rattle.std.proofs.Common.{◌≡◌, ◌⊎◌, ℕ, List, [], ◌∷◌, ◌++◌, map, None, refl, sym, ap, subst, inl, inr, ◌∙◌}
use Rattle.std.specs.Option.{option_map}
use Rattle.bac_world.specs.Node.{Node}
use Rattle.bac_world.specs.ReusingLogs.{Reuses}
use Rattle.bac_world.specs.ReusingWorlds.{WorldRunSo, WorldStepSo}
use Rattle.bac_world.specs.World.{Event, World, WorldStep}
use Rattle.bac_plant.specs.PowerCuts.{CutEvent, CutRun, CutRunSo, StartsAgain}
use Rattle.bac_plant.specs.Cuts.{CutPlant, CutPlantRun, CutStep, cut_events_of, steps_of}
use Rattle.bac_plant.specs.Events.{events_in}
use Rattle.bac_plant.specs.Plants.{HasNoReuse, Plant, settings_of, world_of}
use Rattle.bac_plant.specs.Steps.{RestartsAt}
use Rattle.bac_plant.proofs.AsEver.{NONE, step_ever}
use Rattle.bac_plant.proofs.Cut.{cut_steps}
use Rattle.bac_plant.proofs.Runs.{restarts_event, step_events}
use Rattle.bac_plant.proofs.Settings.{run_settings}

cut_join : (overtake : ℕ) (u : Reuses) (es fs : List CutEvent) (w v y : World) → CutRunSo overtake u w es v → CutRunSo overtake u v fs y
    → CutRunSo overtake u w (es ++ fs) y
cut_join overtake u [] fs w v y h k = subst (λ (z : World). CutRunSo overtake u z fs y) h k
cut_join overtake u (e ∷ es) fs w v y h k = (h.0, h.1, cut_join overtake u es fs h.0 v y h.2 k)

uncut : (overtake : ℕ) (u : Reuses) (es : List Event) (w v : World) → WorldRunSo overtake u w es v → CutRunSo overtake u w (map CutEvent.Goes es) v
uncut overtake u [] w v run = run
uncut overtake u (e ∷ es) w v run = (run.0, run.1, uncut overtake u es run.0 v run.2)

cut_ever : (overtake : ℕ) (es : List CutEvent) (w v : World) → CutRunSo overtake NONE w es v → CutRun overtake w es v
cut_ever overtake [] w v run = run
cut_ever overtake (CutEvent.Goes e ∷ es) w v run = (run.0, step_ever overtake w e run.0 run.1, cut_ever overtake es run.0 v run.2)
cut_ever overtake (CutEvent.Cut i exact ∷ es) w v run = (run.0, run.1, cut_ever overtake es run.0 v run.2)
cut_ever overtake (CutEvent.CutIn i exact e ∷ es) w v run = (run.0, go run.1, cut_ever overtake es run.0 v run.2)
  where
    go : StartsAgain w i exact run.0 ⊎ ((y : World) × WorldStepSo overtake NONE w e y × StartsAgain y i exact run.0)
        → StartsAgain w i exact run.0 ⊎ ((y : World) × WorldStep overtake w e y × StartsAgain y i exact run.0)
    go (inl before) = inl before
    go (inr after) = inr (after.0, step_ever overtake w e after.0 after.1, after.2)

-- a station that restarts with the store that it has starts again
starts_again : (overtake : ℕ) (old : Plant) (i exact : ℕ) (new : Plant) → RestartsAt old i exact None new
    → StartsAgain (world_of old) i exact (world_of new)
starts_again overtake old i exact new r =
    let s = restarts_event overtake old i exact None new r in
    record {
      store = s.before.store;
      found = ap (option_map (λ (n : Node). n.store)) s.at;
      starts = record { before = s.before; at = s.at; nodes = s.nodes; time = s.time; lives = s.lives; copies = s.copies; notes = s.notes; log = s.log };
    }

cut_by : (overtake : ℕ) (u : Reuses) (steps : List CutStep) (old new : CutPlant) → ((i : ℕ) → settings_of old.plant i ≡ u i)
    → CutPlantRun overtake steps old new → CutRunSo overtake u (world_of old.plant) (cut_events_of steps) (world_of new.plant)
cut_by overtake u [] old new settings run = ap (λ (c : CutPlant). world_of c.plant) run
cut_by overtake u (CutStep.Goes step ∷ before) old new settings run =
    cut_join overtake u (cut_events_of before) (map CutEvent.Goes (events_in step)) (world_of old.plant) (world_of run.middle.plant) (world_of new.plant)
    (cut_by overtake u before old run.middle settings run.so_far)
    (uncut overtake u (events_in step) (world_of run.middle.plant) (world_of new.plant)
    (step_events overtake u run.middle.plant step new.plant
    (λ i. run_settings overtake (steps_of before) old.plant run.middle.plant (cut_steps overtake before old run.middle run.so_far) i ∙ settings i)
    run.last.goes))
cut_by overtake u (CutStep.Loses i source turn ∷ before) old new settings run =
    subst (λ (p : Plant). CutRunSo overtake u (world_of old.plant) (cut_events_of before) (world_of p)) (sym (ap (λ (c : CutPlant). c.plant) run.last.is))
    (cut_by overtake u before old run.middle settings run.so_far)
cut_by overtake u (CutStep.Cuts i exact ∷ before) old new settings run =
    cut_join overtake u (cut_events_of before) (CutEvent.Cut i exact ∷ []) (world_of old.plant) (world_of run.middle.plant) (world_of new.plant)
    (cut_by overtake u before old run.middle settings run.so_far)
    (world_of new.plant, starts_again overtake run.middle.plant i exact new.plant run.last.starts, refl)

pub cut_events : (overtake : ℕ) (steps : List CutStep) (old new : CutPlant) → CutPlantRun overtake steps old new
    → CutRunSo overtake (settings_of old.plant) (world_of old.plant) (cut_events_of steps) (world_of new.plant)
cut_events overtake steps old new run = cut_by overtake (settings_of old.plant) steps old new (λ i. refl) run

pub cut_events_ever : (overtake : ℕ) (steps : List CutStep) (old new : CutPlant) → HasNoReuse old.plant → CutPlantRun overtake steps old new
    → CutRun overtake (world_of old.plant) (cut_events_of steps) (world_of new.plant)
cut_events_ever overtake steps old new none run =
    cut_ever overtake (cut_events_of steps) (world_of old.plant) (world_of new.plant) (cut_by overtake NONE steps old new none run)
