-- Cuts are restarts.
use Rattle.std.proofs.Common.{◌≡◌, ℕ, List, [], ◌∷◌, Some, None, sym, ap, ◌∙◌, subst, ⊎_elim}
use Rattle.std.specs.Option.{option_map}
use Rattle.bac_protocol.specs.Pace.{clock_at}
use Rattle.bac_store.specs.Stores.{Store}
use Rattle.bac_world.specs.Node.{Node, restarted}
use Rattle.bac_world.specs.ReusingLogs.{Reuses}
use Rattle.bac_world.specs.ReusingWorlds.{WorldRunSo, WorldStepSo}
use Rattle.bac_world.specs.World.{World, Event, IsRestarted, IsWithNode, WorldRun, WorldStep}
use Rattle.bac_world.specs.World.Event.{Restart}
use Rattle.bac_plant.specs.PowerCuts.{CutEvent, CutRun, CutRunBy, CutRunSo, StartsAgain, IsRunOfRestarts, IsRunOfRestartsSo}
use Rattle.bac_plant.specs.PowerCuts.CutEvent.{Goes, Cut, CutIn}

some_is : (a b : Store) → Some a ≡ Some b → a ≡ b
some_is a b e = cc

again : (old : World) (i exact : ℕ) (new : World) → StartsAgain old i exact new → IsRestarted old i exact None new
again old i exact new a =
    let s = a.starts in
    let same : s.before.store ≡ a.store = some_is _ _ (sym (ap (option_map (λ (n : Node). n.store)) s.at) ∙ a.found) in
    record {
      before = s.before;
      at = s.at;
      nodes = subst (λ (x : Store). IsWithNode old.nodes i (restarted (clock_at old.time.pace exact).shows x s.before) new.nodes) (sym same) s.nodes;
      time = s.time;
      lives = s.lives;
      copies = s.copies;
      notes = s.notes;
      log = s.log;
    }

-- whatever steps the world takes, where a restart is one
module _ (Step : World → Event → World → Type 0) (Run : World → List Event → World → Type 0) (still : (w w' : World) → w' ≡ w → Run w [] w')
    (goes : (w v w' : World) (e : Event) (es : List Event) → Step w e v → Run v es w' → Run w (e ∷ es) w')
    (restarts : (w : World) (i exact : ℕ) (w' : World) → IsRestarted w i exact None w' → Step w (Restart i exact None) w') where
  runs_by : (old new : World) (es : List CutEvent) → CutRunBy Step old es new → (events : List Event) × Run old events new
  runs_by old new [] run = ([], still old new run)
  runs_by old new (Goes e ∷ es) run = let rest = runs_by run.0 new es run.2 in (e ∷ rest.0, goes old run.0 new e rest.0 run.1 rest.1)
  runs_by old new (Cut i exact ∷ es) run =
      let rest = runs_by run.0 new es run.2 in
      (Restart i exact None ∷ rest.0, goes old run.0 new (Restart i exact None) rest.0 (restarts old i exact run.0 (again old i exact run.0 run.1)) rest.1)
  runs_by old new (CutIn i exact e ∷ es) run =
      let rest = runs_by run.0 new es run.2 in
      let cut : (w : World) → StartsAgain w i exact run.0 → Run w (Restart i exact None ∷ rest.0) new =
      λ w s. goes w run.0 new (Restart i exact None) rest.0 (restarts w i exact run.0 (again w i exact run.0 s)) rest.1 in
      ⊎_elim (λ before. (Restart i exact None ∷ rest.0, cut old before))
      (λ after. (e ∷ Restart i exact None ∷ rest.0, goes old after.0 new e (Restart i exact None ∷ rest.0) after.1 (cut after.0 after.2))) run.1

pub runs : (overtake : ℕ) (old new : World) (es : List CutEvent) → CutRun overtake old es new → IsRunOfRestarts overtake old new
runs overtake old new es run =
    let r = runs_by (WorldStep overtake) (WorldRun overtake) (λ w w' is. is) (λ w v w' e fs s rest. (v, s, rest)) (λ w i exact w' s. s) old new es run in
    record { events = r.0; run = r.1 }

pub runs_so : (overtake : ℕ) (u : Reuses) (old new : World) (es : List CutEvent) → CutRunSo overtake u old es new → IsRunOfRestartsSo overtake u old new
runs_so overtake u old new es run =
    let r = runs_by (WorldStepSo overtake u) (WorldRunSo overtake u) (λ w w' is. is) (λ w v w' e fs s rest. (v, s, rest)) (λ w i exact w' s. s) old new es run in
    record { events = r.0; run = r.1 }
