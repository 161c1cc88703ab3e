-- A run in stretches leads on, by steps and by starts with other settings.
use Rattle.std.proofs.Common.{ℕ, List, [], ◌∷◌, ◌++◌, refl, sym, subst}
use Rattle.bac_world.specs.ReusingLogs.{Reuses}
use Rattle.bac_plant.specs.Anew.{Anew, ArePermitted, HappensAnew, IsPermitted, PlantRunIn, Stretch}
use Rattle.bac_plant.specs.LongApdus.{AsksLong}
use Rattle.bac_plant.specs.LongStretches.{AllMoveLong, AreLong, LongMovesGoOn, StartsLong, TakeLongThroughout}
use Rattle.bac_plant.specs.Moves.{IsLed, IsReachedIn, MayStart, Move, MoveRun, MovesGoOn}
use Rattle.bac_plant.specs.Moves.Move.{Goes, StartsAnew}
use Rattle.bac_plant.specs.Plants.{Plant}
use Rattle.bac_plant.specs.Steps.{PlantStep, Step}

-- stretches, the last of which has one step more
abbrev with_step : Step → Stretch → List Stretch → List Stretch
with_step step s [] = record { anew = s.anew; steps = step ∷ s.steps } ∷ []
with_step step s (t ∷ ss) = s ∷ with_step step t ss

step_later : (overtake : ℕ) (step : Step) (s : Stretch) (ss : List Stretch) (p q next : Plant) → PlantRunIn overtake p (s ∷ ss) q
    → PlantStep overtake q step next → PlantRunIn overtake p (with_step step s ss) next
step_later overtake step s [] p q next run goes = (
  run.0,
  next,
  run.2,
  record { middle = run.1; so_far = run.3; last = subst (λ (x : Plant). PlantStep overtake x step next) run.4 goes },
  refl,
)
step_later overtake step s (t ∷ ss) p q next run goes =
    (run.0, run.1, run.2, run.3, step_later overtake step t ss run.1 q next run.4 goes)

step_permitted : (W : ℕ) (ever : Reuses) (step : Step) (s : Stretch) (ss : List Stretch) → ArePermitted W ever (s ∷ ss)
    → ArePermitted W ever (with_step step s ss)
step_permitted W ever step s [] permitted = permitted
step_permitted W ever step s (t ∷ ss) permitted = (permitted.0, step_permitted W ever step t ss permitted.1)

-- one stretch more, without steps so far
abbrev then_anew : List Stretch → Anew → List Stretch
then_anew ss anew = ss ++ record { anew = anew; steps = [] } ∷ []

anew_later : (overtake : ℕ) (anew : Anew) (ss : List Stretch) (p q next : Plant) → PlantRunIn overtake p ss q → HappensAnew q anew next
    → PlantRunIn overtake p (then_anew ss anew) next
anew_later overtake anew [] p q next run happens = (next, next, subst (λ (x : Plant). HappensAnew x anew next) run happens, refl, refl)
anew_later overtake anew (s ∷ ss) p q next run happens = (run.0, run.1, run.2, run.3, anew_later overtake anew ss run.1 q next run.4 happens)

anew_permitted : (W : ℕ) (ever : Reuses) (anew : Anew) (ss : List Stretch) → ArePermitted W ever ss → IsPermitted W ever anew
    → ArePermitted W ever (then_anew ss anew)
anew_permitted W ever anew [] permitted may = (may, tt)
anew_permitted W ever anew (s ∷ ss) permitted may = (permitted.0, anew_permitted W ever anew ss permitted.1 may)

-- they stay long

step_long : (step : Step) (s : Stretch) (ss : List Stretch) → AsksLong step → TakeLongThroughout (s ∷ ss) → TakeLongThroughout (with_step step s ss)
step_long step s [] asks long = (long.0, (asks, long.1), tt)
step_long step s (t ∷ ss) asks long = (long.0, long.1, step_long step t ss asks long.2)

anew_long : (anew : Anew) (ss : List Stretch) → StartsLong anew → TakeLongThroughout ss → TakeLongThroughout (then_anew ss anew)
anew_long anew [] starts long = (starts, tt, tt)
anew_long anew (s ∷ ss) starts long = (long.0, long.1, anew_long anew ss starts long.2)

-- the first plant's run leads on to another one, and stays long where what comes is
abbrev LeadsOnIn : (W overtake : ℕ) (ever : Reuses) (first : Plant) → List Step → List Stretch → (IsLong : Type 0) → Plant → Type 0
LeadsOnIn W overtake ever first steps stretches IsLong next =
    (m : IsLed W overtake ever first next) × (IsLong → AreLong steps stretches → AreLong m.steps m.stretches)

module _ (W overtake : ℕ) (ever : Reuses) (first p : Plant) (l : IsLed W overtake ever first p) (next : Plant) where
  abbrev by_stretches : (ss : List Stretch) → ArePermitted W ever ss → PlantRunIn overtake l.middle ss next → IsLed W overtake ever first next
  by_stretches ss permitted later = record {
    among = l.among;
    steps = l.steps;
    middle = l.middle;
    run = l.run;
    stretches = ss;
    permitted = permitted;
    later = later;
  }

  led_step : (step : Step) → PlantStep overtake p step next → LeadsOnIn W overtake ever first l.steps l.stretches (AsksLong step) next
  led_step step goes = go l.stretches l.permitted l.later
    where
      go : (ss : List Stretch) → ArePermitted W ever ss → PlantRunIn overtake l.middle ss p
          → LeadsOnIn W overtake ever first l.steps ss (AsksLong step) next
      go [] permitted later = (
        record {
          among = l.among;
          steps = step ∷ l.steps;
          middle = next;
          run = record { middle = l.middle; so_far = l.run; last = subst (λ (x : Plant). PlantStep overtake x step next) later goes };
          stretches = [];
          permitted = tt;
          later = refl;
        },
        λ asks long. ((asks, long.0), tt),
      )
      go (s ∷ ss) permitted later = (
        by_stretches (with_step step s ss) (step_permitted W ever step s ss permitted) (step_later overtake step s ss l.middle p next later goes),
        λ asks long. (long.0, step_long step s ss asks long.1),
      )

  led_anew : (anew : Anew) → IsPermitted W ever anew → HappensAnew p anew next
      → LeadsOnIn W overtake ever first l.steps l.stretches (StartsLong anew) next
  led_anew anew may happens = (
    by_stretches (then_anew l.stretches anew) (anew_permitted W ever anew l.stretches l.permitted may)
        (anew_later overtake anew l.stretches l.middle p next l.later happens),
    λ starts long. (long.0, anew_long anew l.stretches starts long.1),
  )

led_on : (W overtake : ℕ) (ever : Reuses) (first p : Plant) (l : IsLed W overtake ever first p) (moves : List Move) → MayStart W ever moves → (new : Plant)
    → MoveRun overtake p moves new → LeadsOnIn W overtake ever first l.steps l.stretches (AllMoveLong moves) new
led_on W overtake ever first p l [] may new run =
    subst (λ (q : Plant). LeadsOnIn W overtake ever first l.steps l.stretches (AllMoveLong []) q) (sym run) (l, λ moved long. long)
led_on W overtake ever first p l (Goes step ∷ later) may new run =
    let a = led_step W overtake ever first p l run.0 step run.1 in
    let b = led_on W overtake ever first run.0 a.0 later may new run.2 in
    (b.0, λ moved long. b.1 moved.1 (a.1 moved.0 long))
led_on W overtake ever first p l (StartsAnew anew ∷ later) may new run =
    let a = led_anew W overtake ever first p l run.0 anew may.0 run.1 in
    let b = led_on W overtake ever first run.0 a.0 later may.1 new run.2 in
    (b.0, λ moved long. b.1 moved.1 (a.1 moved.0 long))

pub moves_go_on : MovesGoOn
moves_go_on W overtake ever first p r moves may new run =
    record { fresh = r.fresh; timely = r.timely; bounded = r.bounded; led = (led_on W overtake ever first p r.led moves may new run).0 }

pub long_moves_go_on : LongMovesGoOn
long_moves_go_on W overtake ever first p r moves may moved new run fits =
    let m = led_on W overtake ever first p r.led moves may new run in
    record { fresh = r.fresh; timely = r.timely; long = r.long; led = m.0; throughout = m.1 moved r.throughout; fits = fits }

-- one move

pub reached_step : (W overtake : ℕ) (ever : Reuses) (first p : Plant) → IsReachedIn W overtake ever first p → (next : Plant) (step : Step)
    → PlantStep overtake p step next → IsReachedIn W overtake ever first next
reached_step W overtake ever first p r next step goes = moves_go_on W overtake ever first p r (Goes step ∷ []) tt next (next, goes, refl)

pub reached_anew : (W overtake : ℕ) (ever : Reuses) (first p : Plant) → IsReachedIn W overtake ever first p → (next : Plant) (anew : Anew)
    → IsPermitted W ever anew → HappensAnew p anew next → IsReachedIn W overtake ever first next
reached_anew W overtake ever first p r next anew may happens =
    moves_go_on W overtake ever first p r (StartsAnew anew ∷ []) (may, tt) next (next, happens, refl)
