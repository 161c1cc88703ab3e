-- A station that asks nothing for so long is quiet.
use Rattle.std.proofs.Common.{◌≡◌, ℕ, ◌+◌, ◌≤◌, Bool, true, false, List, [], ◌∷◌, Option, Some, None, if◌then◌else◌, min, nat_eq, refl, sym, ap, subst, ◌∙◌, arith}
use Rattle.std.proofs.lemmas.Bool.Decides.{nat_tests}
use Rattle.bac_apdu.specs.Apdu.{Limits}
use Rattle.bac_service.specs.Values.{Request}
use Rattle.bac_protocol.specs.Pace.{Pace, most}
use Rattle.bac_protocol.specs.declared.times.TheConstants.{DEADLINE, KEEP}
use Rattle.bac_driver.specs.Turns.{Turn}
use Rattle.bac_world.specs.Node.{Outcome}
use Rattle.bac_world.specs.World.{Life, Time, is_quiet, with_act, with_ask, with_restart}
use Rattle.bac_plant.specs.Anew.{Anew, HappensAnew, PlantRunIn, Stretch}
use Rattle.bac_plant.specs.Anew.Anew.{RestartsSo, StartsAgainSo}
use Rattle.bac_plant.specs.Moves.{Move, MoveRun}
use Rattle.bac_plant.specs.Moves.Move.{Goes, StartsAnew}
use Rattle.bac_plant.specs.Network.{Source}
use Rattle.bac_plant.specs.Network.Source.{Noise, Nowhere, Station, Stranger}
use Rattle.bac_plant.specs.NextSteps.{IsReached}
use Rattle.bac_plant.specs.Pauses.{AsksNone, AsksNoneIn, PausesMakeQuietIn, asks, pause}
use Rattle.bac_plant.specs.Plants.{Plant, world_of}
use Rattle.bac_plant.specs.Steps.{PlantRun, PlantStep, Step, heard_lives, ticked_lives, turn_lives}
use Rattle.bac_plant.specs.Steps.Step.{Begins, BeginsAway, Changes, FailsToReceive, Holds, Passes, Restarts, SendsHeld, Starts, StartsAgain, Takes}

-- what happens at a station changes nothing of how long any sends
acted : (lives : ℕ → Life) (j i : ℕ) → (with_act lives j i).sends_until ≡ (lives i).sends_until
acted lives j i = go (nat_eq i j) refl
  where
    go : (b : Bool) → nat_eq i j ≡ b
        → (if b then record { active = true; sends_until = (lives j).sends_until } else lives i).sends_until ≡ (lives i).sends_until
    go true e = let same : j ≡ i = grind (arith, nat_tests) in ap (λ k. (lives k).sends_until) same
    go false e = refl

heard : (j : ℕ) (source : Source) (o : Option Outcome) (lives : ℕ → Life) (i : ℕ) → (heard_lives j source o lives i).sends_until ≡ (lives i).sends_until
heard j Nowhere o lives i = refl
heard j (Station number) None lives i = refl
heard j (Station number) (Some o) lives i = acted lives j i
heard j (Stranger from octets) None lives i = refl
heard j (Stranger from octets) (Some o) lives i = acted lives j i
heard j (Noise from octets) None lives i = refl
heard j (Noise from octets) (Some o) lives i = acted lives j i

ticked : (j : ℕ) (o : Option Outcome) (lives : ℕ → Life) (i : ℕ) → (ticked_lives j o lives i).sends_until ≡ (lives i).sends_until
ticked j None lives i = refl
ticked j (Some o) lives i = acted lives j i

turned : (j : ℕ) (source : Source) (turn : Turn) (lives : ℕ → Life) (i : ℕ) → (turn_lives j source turn lives i).sends_until ≡ (lives i).sends_until
turned j source turn lives i = ticked j turn.ticked (heard_lives j source turn.heard lives) i ∙ heard j source turn.heard lives i

other_asks : (t : Time) (lives : ℕ → Life) (j i : ℕ) → nat_eq i j ≡ false → (with_ask t lives j i).sends_until ≡ (lives i).sends_until
other_asks t lives j i e =
    ap (λ (b : Bool). (if b then record { active = true; sends_until = t.now + most t.pace DEADLINE + 1 } else lives i).sends_until) e

restarted : (t : Time) (lives : ℕ → Life) (j i : ℕ) → (with_restart t lives j i).sends_until ≤ (lives i).sends_until
restarted t lives j i = go (nat_eq i j) refl
  where
    go : (b : Bool) → nat_eq i j ≡ b
        → (if b then record { active = true; sends_until = min (lives j).sends_until (t.now + 1) } else lives i).sends_until ≤ (lives i).sends_until
    go true e =
        let same : j ≡ i = grind (arith, nat_tests) in
        let equal : (lives j).sends_until ≡ (lives i).sends_until = ap (λ k. (lives k).sends_until) same in
        omega (arith, equal)
    go false e = omega arith

at_most : (m n : ℕ) → m ≡ n → m ≤ n
at_most m n e = omega (arith, e)

module _ (i : ℕ) where
  -- how long it sends, as a plant says it
  until_is : (old new : Plant) (lives : ℕ → Life) → new.lives ≡ lives → (lives i).sends_until ≡ (old.lives i).sends_until
      → (new.lives i).sends_until ≤ (old.lives i).sends_until
  until_is old new lives is same = at_most _ _ (ap (λ (l : ℕ → Life). (l i).sends_until) is ∙ same)

  -- a step in which it does not ask
  pub asks_not : (overtake : ℕ) (old : Plant) (step : Step) (new : Plant) → PlantStep overtake old step new → asks i step ≡ false
      → (new.lives i).sends_until ≤ (old.lives i).sends_until
  asks_not overtake old (Passes by own) new s e = until_is old new old.lives (ap (λ (p : Plant). p.lives) s) refl
  asks_not overtake old (Takes j source turn) new s e =
      until_is old new _ (ap (λ (p : Plant). p.lives) s.happens.is) (turned j source turn old.lives i)
  asks_not overtake old (FailsToReceive j) new s e = until_is old new old.lives (ap (λ (p : Plant). p.lives) s.is) refl
  asks_not overtake old (Begins j server limits r) new s e =
      until_is old new _ (ap (λ (p : Plant). p.lives) s.is) (other_asks old.time old.lives j i e)
  asks_not overtake old (BeginsAway j peer limits r) new s e = until_is old new _ (ap (λ (p : Plant). p.lives) s.is) (acted old.lives j i)
  asks_not overtake old (Changes j c) new s e = until_is old new old.lives (ap (λ (p : Plant). p.lives) s.is) refl
  asks_not overtake old (Restarts j exact store) new s e =
      let is : (new.lives i).sends_until ≡ (with_restart old.time old.lives j i).sends_until = ap (λ (p : Plant). (p.lives i).sends_until) s.is in
      let less = restarted old.time old.lives j i in
      omega (arith, is, less)
  asks_not overtake old (Starts j exact) new s e = until_is old new old.lives (ap (λ (p : Plant). p.lives) s.is) refl
  asks_not overtake old (StartsAgain j exact first_id store) new s e = until_is old new _ (ap (λ (p : Plant). p.lives) s.is) (acted old.lives j i)
  asks_not overtake old (Holds j source turn) new s e =
      until_is old new _ (ap (λ (p : Plant). p.lives) s.happens.is) (turned j source turn old.lives i)
  asks_not overtake old (SendsHeld j turns) new s e = until_is old new old.lives (ap (λ (p : Plant). p.lives) s.is) refl

  asks_none : (overtake : ℕ) (steps : List Step) (old new : Plant) → PlantRun overtake steps old new → AsksNone i steps
      → (new.lives i).sends_until ≤ (old.lives i).sends_until
  asks_none overtake [] old new run none = at_most _ _ (ap (λ (p : Plant). (p.lives i).sends_until) run)
  asks_none overtake (step ∷ before) old new run none =
      let first = asks_none overtake before old run.middle run.so_far none.1 in
      let last = asks_not overtake run.middle step new run.last none.0 in
      omega (arith, first, last)

  -- a start with other settings
  pub starts_not : (old : Plant) (anew : Anew) (new : Plant) → HappensAnew old anew new → (new.lives i).sends_until ≤ (old.lives i).sends_until
  starts_not old (RestartsSo j exact store settings reuses) new s =
      let is : (new.lives i).sends_until ≡ (with_restart old.time old.lives j i).sends_until = ap (λ (p : Plant). (p.lives i).sends_until) s.is in
      let less = restarted old.time old.lives j i in
      omega (arith, is, less)
  starts_not old (StartsAgainSo j exact first_id store settings reuses) new s =
      until_is old new _ (ap (λ (p : Plant). p.lives) s.is) (acted old.lives j i)

  moves_not : (overtake : ℕ) (moves : List Move) (old new : Plant) → MoveRun overtake old moves new → AsksNoneIn i moves
      → (new.lives i).sends_until ≤ (old.lives i).sends_until
  moves_not overtake [] old new run none = at_most _ _ (ap (λ (p : Plant). (p.lives i).sends_until) run)
  moves_not overtake (Goes step ∷ more) old new run none =
      let first = asks_not overtake old step run.0 run.1 none.0 in
      let last = moves_not overtake more run.0 new run.2 none.1 in
      omega (arith, first, last)
  moves_not overtake (StartsAnew anew ∷ more) old new run none =
      let first = starts_not old anew run.0 run.1 in
      let last = moves_not overtake more run.0 new run.2 none in
      omega (arith, first, last)

-- real time goes on, and its pace stays
pub record GoesOn (old new : Plant) : Type 0 where
  pub pace : new.time.pace ≡ old.time.pace
  pub on : old.time.now ≤ new.time.now

pub same_time : (old new : Plant) → new.time ≡ old.time → GoesOn old new
same_time old new e = record { pace = ap (λ (t : Time). t.pace) e; on = at_most _ _ (sym (ap (λ (t : Time). t.now) e)) }

pub step_on : (overtake : ℕ) (old : Plant) (step : Step) (new : Plant) → PlantStep overtake old step new → GoesOn old new
step_on overtake old (Passes by own) new s =
    record {
      pace = ap (λ (p : Plant). p.time.pace) s;
      on = let is : new.time.now ≡ old.time.now + by = ap (λ (p : Plant). p.time.now) s in omega (arith, is);
    }
step_on overtake old (Takes j source turn) new s = same_time old new (ap (λ (p : Plant). p.time) s.happens.is)
step_on overtake old (FailsToReceive j) new s = same_time old new (ap (λ (p : Plant). p.time) s.is)
step_on overtake old (Begins j server limits r) new s = same_time old new (ap (λ (p : Plant). p.time) s.is)
step_on overtake old (BeginsAway j peer limits r) new s = same_time old new (ap (λ (p : Plant). p.time) s.is)
step_on overtake old (Changes j c) new s = same_time old new (ap (λ (p : Plant). p.time) s.is)
step_on overtake old (Restarts j exact store) new s =
    record { pace = ap (λ (p : Plant). p.time.pace) s.is; on = at_most _ _ (sym (ap (λ (p : Plant). p.time.now) s.is)) }
step_on overtake old (Starts j exact) new s =
    record { pace = ap (λ (p : Plant). p.time.pace) s.is; on = at_most _ _ (sym (ap (λ (p : Plant). p.time.now) s.is)) }
step_on overtake old (StartsAgain j exact first_id store) new s =
    record { pace = ap (λ (p : Plant). p.time.pace) s.is; on = at_most _ _ (sym (ap (λ (p : Plant). p.time.now) s.is)) }
step_on overtake old (Holds j source turn) new s = same_time old new (ap (λ (p : Plant). p.time) s.happens.is)
step_on overtake old (SendsHeld j turns) new s = same_time old new (ap (λ (p : Plant). p.time) s.is)

pub then_on : (old middle new : Plant) → GoesOn old middle → GoesOn middle new → GoesOn old new
then_on old middle new first last = record { pace = last.pace ∙ first.pace; on = let a = first.on in let b = last.on in omega (arith, a, b) }

pub run_on : (overtake : ℕ) (steps : List Step) (old new : Plant) → PlantRun overtake steps old new → GoesOn old new
run_on overtake [] old new run = same_time old new (ap (λ (p : Plant). p.time) run)
run_on overtake (step ∷ before) old new run =
    then_on old run.middle new (run_on overtake before old run.middle run.so_far) (step_on overtake run.middle step new run.last)

pub starts_on : (old : Plant) (anew : Anew) (new : Plant) → HappensAnew old anew new → GoesOn old new
starts_on old (RestartsSo j exact store settings reuses) new s =
    record { pace = ap (λ (p : Plant). p.time.pace) s.is; on = at_most _ _ (sym (ap (λ (p : Plant). p.time.now) s.is)) }
starts_on old (StartsAgainSo j exact first_id store settings reuses) new s =
    record { pace = ap (λ (p : Plant). p.time.pace) s.is; on = at_most _ _ (sym (ap (λ (p : Plant). p.time.now) s.is)) }

moves_on : (overtake : ℕ) (moves : List Move) (old new : Plant) → MoveRun overtake old moves new → GoesOn old new
moves_on overtake [] old new run = same_time old new (ap (λ (p : Plant). p.time) run)
moves_on overtake (Goes step ∷ more) old new run =
    then_on old run.0 new (step_on overtake old step run.0 run.1) (moves_on overtake more run.0 new run.2)
moves_on overtake (StartsAnew anew ∷ more) old new run = then_on old run.0 new (starts_on old anew run.0 run.1) (moves_on overtake more run.0 new run.2)

-- no station sends longer than a deadline from now on
abbrev IsSoon : (i : ℕ) → Plant → Type 0
IsSoon i p = (p.lives i).sends_until ≤ p.time.now + most p.time.pace DEADLINE + 1

module _ (i : ℕ) where
  still_soon : (old new : Plant) → (new.lives i).sends_until ≤ (old.lives i).sends_until → GoesOn old new → IsSoon i old → IsSoon i new
  still_soon old new less goes soon =
      let same : most new.time.pace DEADLINE ≡ most old.time.pace DEADLINE = ap (λ (p : Pace). most p DEADLINE) goes.pace in
      let onward = goes.on in
      omega (arith, less, same, onward, soon)

  later : (overtake : ℕ) (old : Plant) (step : Step) (new : Plant) → PlantStep overtake old step new → asks i step ≡ false → IsSoon i old → IsSoon i new
  later overtake old step new s e soon = still_soon old new (asks_not i overtake old step new s e) (step_on overtake old step new s) soon

  asks_soon : (overtake j server : ℕ) (limits : Limits) (r : Request) (old new : Plant) → PlantStep overtake old (Begins j server limits r) new → IsSoon i old
      → (b : Bool) → nat_eq i j ≡ b → IsSoon i new
  asks_soon overtake j server limits r old new s soon false e = later overtake old (Begins j server limits r) new s e soon
  asks_soon overtake j server limits r old new s soon true e =
      let is : (new.lives i).sends_until ≡ (with_ask old.time old.lives j i).sends_until = ap (λ (p : Plant). (p.lives i).sends_until) s.is in
      let here : (with_ask old.time old.lives j i).sends_until ≡ old.time.now + most old.time.pace DEADLINE + 1 =
      ap (λ (b : Bool). (if b then record { active = true; sends_until = old.time.now + most old.time.pace DEADLINE + 1 } else old.lives i).sends_until) e in
      let now : new.time.now ≡ old.time.now = ap (λ (p : Plant). p.time.now) s.is in
      let same : most new.time.pace DEADLINE ≡ most old.time.pace DEADLINE = ap (λ (p : Plant). most p.time.pace DEADLINE) s.is in
      omega (arith, is, here, now, same)

  soon_on : (overtake : ℕ) (old : Plant) (step : Step) (new : Plant) → PlantStep overtake old step new → IsSoon i old → IsSoon i new
  soon_on overtake old (Passes by own) new s soon = later overtake old (Passes by own) new s refl soon
  soon_on overtake old (Takes j source turn) new s soon = later overtake old (Takes j source turn) new s refl soon
  soon_on overtake old (FailsToReceive j) new s soon = later overtake old (FailsToReceive j) new s refl soon
  soon_on overtake old (Begins j server limits r) new s soon = asks_soon overtake j server limits r old new s soon (nat_eq i j) refl
  soon_on overtake old (BeginsAway j peer limits r) new s soon = later overtake old (BeginsAway j peer limits r) new s refl soon
  soon_on overtake old (Changes j c) new s soon = later overtake old (Changes j c) new s refl soon
  soon_on overtake old (Restarts j exact store) new s soon = later overtake old (Restarts j exact store) new s refl soon
  soon_on overtake old (Starts j exact) new s soon = later overtake old (Starts j exact) new s refl soon
  soon_on overtake old (StartsAgain j exact first_id store) new s soon = later overtake old (StartsAgain j exact first_id store) new s refl soon
  soon_on overtake old (Holds j source turn) new s soon = later overtake old (Holds j source turn) new s refl soon
  soon_on overtake old (SendsHeld j turns) new s soon = later overtake old (SendsHeld j turns) new s refl soon

  all_soon : (overtake : ℕ) (steps : List Step) (old new : Plant) → PlantRun overtake steps old new → IsSoon i old → IsSoon i new
  all_soon overtake [] old new run soon =
      let is : (new.lives i).sends_until ≡ (old.lives i).sends_until = ap (λ (p : Plant). (p.lives i).sends_until) run in
      let now : new.time.now ≡ old.time.now = ap (λ (p : Plant). p.time.now) run in
      let same : most new.time.pace DEADLINE ≡ most old.time.pace DEADLINE = ap (λ (p : Plant). most p.time.pace DEADLINE) run in
      omega (arith, is, now, same, soon)
  all_soon overtake (step ∷ before) old new run soon =
      soon_on overtake run.middle step new run.last (all_soon overtake before old run.middle run.so_far soon)

  reached_soon : (W overtake : ℕ) (p : Plant) → IsReached W overtake p → IsSoon i p
  reached_soon W overtake p r =
      let none : (r.first.lives i).sends_until ≡ 0 = ap (λ (l : Life). l.sends_until) (r.fresh.lives i) in
      all_soon overtake r.steps r.first p r.run (omega (arith, none))

  stretches_soon : (overtake : ℕ) (ss : List Stretch) (p new : Plant) → PlantRunIn overtake p ss new → IsSoon i p → IsSoon i new
  stretches_soon overtake [] p new run soon = subst (IsSoon i) (sym run) soon
  stretches_soon overtake (s ∷ ss) p new run soon =
      stretches_soon overtake ss run.1 new run.4
      (all_soon overtake s.steps run.0 run.1 run.3 (still_soon p run.0 (starts_not i p s.anew run.0 run.2) (starts_on p s.anew run.0 run.2) soon))

  -- after so long all is over
  quiet_after : (p new : Plant) → (new.lives i).sends_until ≤ (p.lives i).sends_until → GoesOn p new → IsSoon i p
      → p.time.now + pause p.time.pace ≤ new.time.now → is_quiet (world_of new) i ≡ true
  quiet_after p new less goes soon passed =
      let life : new.time.pace.life ≡ p.time.pace.life = ap (λ (q : Pace). q.life) goes.pace in
      let keep : most new.time.pace KEEP ≡ most p.time.pace KEEP = ap (λ (q : Pace). most q KEEP) goes.pace in
      let enough : (new.lives i).sends_until + new.time.pace.life + most new.time.pace KEEP + new.time.pace.life ≤ new.time.now =
      omega (arith, less, soon, life, keep, passed) in
      grind (arith, nat_tests)

  pub falls_quiet : (W overtake : ℕ) (p : Plant) → IsReached W overtake p → (steps : List Step) (new : Plant) → PlantRun overtake steps p new
      → AsksNone i steps → p.time.now + pause p.time.pace ≤ new.time.now → is_quiet (world_of new) i ≡ true
  falls_quiet W overtake p r steps new run none passed =
      quiet_after p new (asks_none i overtake steps p new run none) (run_on overtake steps p new run) (reached_soon W overtake p r) passed

pub falls_quiet_in : PausesMakeQuietIn
falls_quiet_in W overtake i ever first p r moves new run none passed =
    let zero_at : (first.lives i).sends_until ≡ 0 = ap (λ (l : Life). l.sends_until) (r.fresh.lives i) in
    let soon =
    stretches_soon i overtake r.led.stretches r.led.middle p r.led.later
    (all_soon i overtake r.led.steps first r.led.middle r.led.run (omega (arith, zero_at))) in
    quiet_after i p new (moves_not i overtake moves p new run none) (moves_on overtake moves p new run) soon passed
