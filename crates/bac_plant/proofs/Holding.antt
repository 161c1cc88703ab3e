-- The turns that one station holds in a run are a chain; in a round that is lost it stands in the plant as before.
use Rattle.std.proofs.Common.{◌≡◌, ◌≢◌, ℕ, Bool, true, false, List, [], ◌∷◌, Option, Some, None, length, ◌≤◌, slice_get, nat_eq, if◌then◌else◌, IfSome}
use Rattle.std.proofs.Common.{refl, sym, ap, subst, ◌∙◌, arith}
use Rattle.std.proofs.lemmas.Bool.Decides.{nat_tests}
use Rattle.bac_driver.specs.BoundNodes.{BoundNode}
use Rattle.bac_driver.specs.Rounds.{ROUND, in_order}
use Rattle.bac_driver.specs.Serving.{performed_in}
use Rattle.bac_driver.specs.Turns.{Turn}
use Rattle.bac_plant.specs.Cuts.{CutPlant, CutPlantRun, CutStep, CutsAt, GoesOn, HoldsAlone, LosesAlone, LosesTurnAt, MayHold}
use Rattle.bac_plant.specs.Cuts.{held_in, held_of, or_else, real, station_of, with_losing}
use Rattle.bac_plant.specs.Network.{Source}
use Rattle.bac_plant.specs.Plants.{Plant, shows}
use Rattle.bac_plant.specs.Rounds.{HeldChain, HoldsTurnOnce, RoundInChain}
use Rattle.bac_plant.specs.Steps.{AreSent, HoldsTurnAt, PlantStep, Step}
use Rattle.bac_plant.specs.Steps.Step.{Begins, BeginsAway, Changes, FailsToReceive, Holds, Passes, Restarts, SendsHeld, Starts, StartsAgain, Takes}
use Rattle.bac_plant.proofs.Chained.{other_stays, self_is}
use Rattle.bac_plant.proofs.Rounded.{run_after}
use Rattle.bac_plant.proofs.Turned.{one_there}

other_number : (i j : ℕ) → nat_eq i j ≡ false → j ≢ i
other_number i j is e = absurd (grind (arith, nat_tests))

-- another number has what it had
set_elsewhere : (losing : ℕ → Option BoundNode) (i j : ℕ) (b : Option BoundNode) → nat_eq i j ≡ false → with_losing losing j b i ≡ losing i
set_elsewhere losing i j b is = ap (λ (t : Bool). if t then b else losing i) is

clash : (o : Option BoundNode) (b : BoundNode) → o ≡ Some b → o ≡ None → ⊥
clash o b some none = let e : Some b ≡ None = sym some ∙ none in cc

unlike : (i j : ℕ) → j ≢ i → nat_eq i j ≡ false
unlike i j ne = go (nat_eq i j) refl
  where
    go : (b : Bool) → nat_eq i j ≡ b → nat_eq i j ≡ false
    go true is = let e : j ≡ i = grind (arith, nat_tests) in absurd (ne e)
    go false is = is

module _ (overtake i : ℕ) where
  abbrev StandsStill : (old new : Plant) → Type 0
  StandsStill old new = slice_get new.stations i ≡ slice_get old.stations i

  -- a step of another station
  others_stay : (step : Step) (old new : Plant) → PlantStep overtake old step new → station_of step ≢ Some i → StandsStill old new
  others_stay (Passes by own) old new s ne = ap (λ (p : Plant). slice_get p.stations i) s
  others_stay (Takes j source turn) old new s ne =
      other_stays old i j s.after new.stations (ap (λ (p : Plant). p.stations) s.happens.is) (λ e. ne (ap Some e))
  others_stay (FailsToReceive j) old new s ne = other_stays old i j s.after new.stations (ap (λ (p : Plant). p.stations) s.is) (λ e. ne (ap Some e))
  others_stay (Begins j server limits r) old new s ne =
      other_stays old i j s.after new.stations (ap (λ (p : Plant). p.stations) s.is) (λ e. ne (ap Some e))
  others_stay (BeginsAway j peer limits r) old new s ne =
      other_stays old i j s.after new.stations (ap (λ (p : Plant). p.stations) s.is) (λ e. ne (ap Some e))
  others_stay (Changes j change) old new s ne = other_stays old i j _ new.stations (ap (λ (p : Plant). p.stations) s.is) (λ e. ne (ap Some e))
  others_stay (Restarts j exact store) old new s ne =
      other_stays old i j s.after new.stations (ap (λ (p : Plant). p.stations) s.is) (λ e. ne (ap Some e))
  others_stay (Starts j exact) old new s ne = other_stays old i j s.after new.stations (ap (λ (p : Plant). p.stations) s.is) (λ e. ne (ap Some e))
  others_stay (StartsAgain j exact first_id store) old new s ne =
      other_stays old i j s.after new.stations (ap (λ (p : Plant). p.stations) s.is) (λ e. ne (ap Some e))
  others_stay (Holds j source turn) old new s ne =
      other_stays old i j s.after new.stations (ap (λ (p : Plant). p.stations) s.happens.is) (λ e. ne (ap Some e))
  others_stay (SendsHeld j turns) old new s ne =
      other_stays old i j s.after new.stations (ap (λ (p : Plant). p.stations) s.is) (λ e. ne (ap Some e))

  -- where the station is found after the turns
  abbrev IsLedTo : List Turn → BoundNode → Option BoundNode → Type 0
  IsLedTo turns before found = (after : BoundNode) × (found ≡ Some after) × HeldChain turns before after

  stays : (step : Step) (old new : Plant) → PlantStep overtake old step new → station_of step ≢ Some i → (b : BoundNode) → slice_get old.stations i ≡ Some b
      → IsLedTo [] b (slice_get new.stations i)
  stays step old new s ne b at = (b, others_stay step old new s ne ∙ at, refl)

  held : (j : ℕ) (source : Source) (turn : Turn) (old new : Plant) → HoldsTurnAt overtake old j source turn new → (b : BoundNode)
      → slice_get old.stations i ≡ Some b → (own : Bool) → nat_eq i j ≡ own → IsLedTo (if own then turn ∷ [] else []) b (slice_get new.stations i)
  held j source turn old new s b at true is =
      let same : j ≡ i = grind (arith, nat_tests) in
      let mine : slice_get old.stations i ≡ Some s.before = subst (λ k. slice_get old.stations k ≡ Some s.before) same s.at in
      let one : s.before ≡ b = one_there (slice_get old.stations i) s.before b mine at in (
        s.after,
        subst (λ k. slice_get new.stations k ≡ Some s.after) same
            (self_is old j s.before s.after new.stations s.at (ap (λ (p : Plant). p.stations) s.happens.is)),
        record { middle = b; so_far = refl; last = subst (λ x. HoldsTurnOnce x turn s.after) one (record { now = shows old j; is = s.holds }) },
      )
  held j source turn old new s b at false is =
      (b, other_stays old i j s.after new.stations (ap (λ (p : Plant). p.stations) s.happens.is) (other_number i j is) ∙ at, refl)

  step_held : (step : Step) (old new : Plant) → PlantStep overtake old step new → MayHold i step → (b : BoundNode) → slice_get old.stations i ≡ Some b
      → IsLedTo (held_in i step) b (slice_get new.stations i)
  step_held (Passes by own) old new s may b at = stays (Passes by own) old new s may b at
  step_held (Takes j source turn) old new s may b at = stays (Takes j source turn) old new s may b at
  step_held (FailsToReceive j) old new s may b at = stays (FailsToReceive j) old new s may b at
  step_held (Begins j server limits r) old new s may b at = stays (Begins j server limits r) old new s may b at
  step_held (BeginsAway j peer limits r) old new s may b at = stays (BeginsAway j peer limits r) old new s may b at
  step_held (Changes j change) old new s may b at = stays (Changes j change) old new s may b at
  step_held (Restarts j exact store) old new s may b at = stays (Restarts j exact store) old new s may b at
  step_held (Starts j exact) old new s may b at = stays (Starts j exact) old new s may b at
  step_held (StartsAgain j exact first_id store) old new s may b at = stays (StartsAgain j exact first_id store) old new s may b at
  step_held (Holds j source turn) old new s may b at = held j source turn old new s b at (nat_eq i j) refl
  step_held (SendsHeld j turns) old new s may b at = stays (SendsHeld j turns) old new s may b at

  -- where the station takes a round that is lost, no step of the plant is its own
  unheld : (losing : ℕ → Option BoundNode) (held : BoundNode) → losing i ≡ Some held → (step : Step) → IfSome (station_of step) (λ j. losing j ≡ None)
      → held_in i step ≡ []
  unheld losing held is (Passes by own) free = refl
  unheld losing held is (Takes j source turn) free = refl
  unheld losing held is (FailsToReceive j) free = refl
  unheld losing held is (Begins j server limits r) free = refl
  unheld losing held is (BeginsAway j peer limits r) free = refl
  unheld losing held is (Changes j change) free = refl
  unheld losing held is (Restarts j exact store) free = refl
  unheld losing held is (Starts j exact) free = refl
  unheld losing held is (StartsAgain j exact first_id store) free = refl
  unheld losing held is (SendsHeld j turns) free = refl
  unheld losing held is (Holds j source turn) free = go (nat_eq i j) refl
    where
      go : (b : Bool) → nat_eq i j ≡ b → held_in i (Holds j source turn) ≡ []
      go true same = let e : j ≡ i = grind (arith, nat_tests) in let none : losing i ≡ None = subst (λ k. losing k ≡ None) e free in absurd (clash (losing i) held is none)
      go false other = ap (λ (t : Bool). if t then turn ∷ [] else []) other

  -- a step of the plant
  went : (step : Step) (old new : CutPlant) → GoesOn overtake old step new → MayHold i step → (b : BoundNode) → real old i ≡ Some b
      → (o : Option BoundNode) → old.losing i ≡ o → IsLedTo (held_in i step) b (real new i)
  went step old new s may b at None is =
      let there : slice_get old.plant.stations i ≡ Some b = sym (ap (λ x. or_else x (slice_get old.plant.stations i)) is) ∙ at in
      let led = step_held step old.plant new.plant s.goes may b there in
      let free : new.losing i ≡ None = ap (λ (l : ℕ → Option BoundNode). l i) s.same ∙ is in
      (led.0, ap (λ x. or_else x (slice_get new.plant.stations i)) free ∙ led.1, led.2)
  went step old new s may b at (Some held) is =
      let becomes : new.losing i ≡ Some held = ap (λ (l : ℕ → Option BoundNode). l i) s.same ∙ is in (
        b,
        ap (λ x. or_else x (slice_get new.plant.stations i)) becomes ∙ sym (ap (λ x. or_else x (slice_get old.plant.stations i)) is) ∙ at,
        subst (λ ts. HeldChain ts b b) (sym (unheld old.losing held is step s.free)) refl,
      )

  -- a turn of a round that is lost
  lost : (j : ℕ) (source : Source) (turn : Turn) (old new : CutPlant) → LosesTurnAt overtake old j source turn new → (turns : List Turn) (before b : BoundNode)
      → real old i ≡ Some b → HeldChain turns before b → (own : Bool) → nat_eq i j ≡ own
      → IsLedTo (if own then turn ∷ turns else turns) before (real new i)
  lost j source turn old new s turns before b at chain true is =
      let same : j ≡ i = grind (arith, nat_tests) in
      let one : s.before ≡ b = one_there (real old i) s.before b (subst (λ k. real old k ≡ Some s.before) same s.at) at in
      let becomes : with_losing old.losing j (Some s.after) i ≡ Some s.after = ap (λ (t : Bool). if t then Some s.after else old.losing i) is in (
        s.after,
        ap (λ (c : CutPlant). real c i) s.is ∙ ap (λ x. or_else x (slice_get old.plant.stations i)) becomes,
        record {
          middle = b;
          so_far = chain;
          last = subst (λ x. HoldsTurnOnce x turn s.after) one (record { now = shows old.plant j; is = s.holds });
        },
      )
  lost j source turn old new s turns before b at chain false is =
      let becomes = set_elsewhere old.losing i j (Some s.after) is in
      (b, ap (λ (c : CutPlant). real c i) s.is ∙ ap (λ x. or_else x (slice_get old.plant.stations i)) becomes ∙ at, chain)

  -- a cut of another station
  cut_stays : (j exact : ℕ) (old new : CutPlant) → CutsAt old j exact new → (j ≢ i) → StandsStill old.plant new.plant
  cut_stays j exact old new s ne = other_stays old.plant i j s.starts.after new.plant.stations (ap (λ (p : Plant). p.stations) s.starts.is) ne

  cut_same : (j exact : ℕ) (old new : CutPlant) → CutsAt old j exact new → (j ≢ i) → real new i ≡ real old i
  cut_same j exact old new s ne =
      ap (λ (l : ℕ → Option BoundNode). or_else (l i) (slice_get new.plant.stations i)) s.losing
      ∙ ap (λ x. or_else x (slice_get new.plant.stations i)) (set_elsewhere old.losing i j None (unlike i j ne))
      ∙ ap (λ x. or_else (old.losing i) x) (cut_stays j exact old new s ne)

  chain_of : (steps : List CutStep) (old new : CutPlant) → CutPlantRun overtake steps old new → HoldsAlone i steps → (before : BoundNode)
      → real old i ≡ Some before → IsLedTo (held_of i steps) before (real new i)
  chain_of [] old new run alone before at = (before, ap (λ (c : CutPlant). real c i) run ∙ at, refl)
  chain_of (CutStep.Goes step ∷ steps) old new run alone before at =
      let so_far = chain_of steps old run.middle run.so_far alone.1 before at in
      let led = went step run.middle new run.last alone.0 so_far.0 so_far.1 (run.middle.losing i) refl in
      (led.0, led.1, run_after HoldsTurnOnce (held_of i steps) (held_in i step) before so_far.0 led.0 so_far.2 led.2)
  chain_of (CutStep.Loses j source turn ∷ steps) old new run alone before at =
      let so_far = chain_of steps old run.middle run.so_far alone before at in
      lost j source turn run.middle new run.last (held_of i steps) before so_far.0 so_far.1 so_far.2 (nat_eq i j) refl
  chain_of (CutStep.Cuts j exact ∷ steps) old new run alone before at =
      let so_far = chain_of steps old run.middle run.so_far alone.1 before at in
      (so_far.0, cut_same j exact run.middle new run.last alone.0 ∙ so_far.1, so_far.2)

  pub held_chain : (steps : List CutStep) (old new : CutPlant) → CutPlantRun overtake steps old new → HoldsAlone i steps → (before after : BoundNode)
      → real old i ≡ Some before → real new i ≡ Some after → HeldChain (held_of i steps) before after
  held_chain steps old new run alone before after at there =
      let c = chain_of steps old new run alone before at in
      subst (λ b. HeldChain (held_of i steps) before b) (one_there (real new i) c.0 after c.1 there) c.2

  -- and what it then sends is that of a round
  pub round_sent : (steps : List CutStep) (old middle new : CutPlant) → CutPlantRun overtake steps old middle → HoldsAlone i steps
      → length (held_of i steps) ≤ ROUND → GoesOn overtake middle (SendsHeld i (in_order (held_of i steps))) new → (before after : BoundNode)
      → real old i ≡ Some before → real new i ≡ Some after → RoundInChain before (performed_in (in_order (held_of i steps))) after
  round_sent steps old middle new run alone few step before after at there =
      let s = step.goes in
      let was : real middle i ≡ Some s.before = ap (λ x. or_else x (slice_get middle.plant.stations i)) step.free ∙ s.at in
      let free : new.losing i ≡ None = ap (λ (l : ℕ → Option BoundNode). l i) step.same ∙ step.free in
      let is : real new i ≡ Some s.after = ap (λ x. or_else x (slice_get new.plant.stations i)) free
      ∙ self_is middle.plant i s.before s.after new.plant.stations s.at (ap (λ (p : Plant). p.stations) s.is) in
      record {
        turns = held_of i steps;
        middle = s.before;
        held = held_chain steps old middle run alone before s.before at was;
        sent = subst (λ b. AreSent (in_order (held_of i steps)) s.before b) (one_there (real new i) s.after after is there) s.sends;
        most = few;
        counted = refl;
      }

  pub lost_stays : (steps : List CutStep) (old new : CutPlant) → CutPlantRun overtake steps old new → LosesAlone i steps → StandsStill old.plant new.plant
  lost_stays [] old new run alone = ap (λ (c : CutPlant). slice_get c.plant.stations i) run
  lost_stays (CutStep.Goes step ∷ steps) old new run alone =
      others_stay step run.middle.plant new.plant run.last.goes alone.0 ∙ lost_stays steps old run.middle run.so_far alone.1
  lost_stays (CutStep.Loses j source turn ∷ steps) old new run alone =
      ap (λ (c : CutPlant). slice_get c.plant.stations i) run.last.is ∙ lost_stays steps old run.middle run.so_far alone
  lost_stays (CutStep.Cuts j exact ∷ steps) old new run alone =
      cut_stays j exact run.middle new run.last alone.0 ∙ lost_stays steps old run.middle run.so_far alone.1
