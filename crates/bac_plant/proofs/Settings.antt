-- The settings of stations stay.
use Rattle.std.proofs.Common.{◌≡◌, ℕ, Bool, true, false, List, [], ◌∷◌, Option, Some, None, slice_get, slice_set, nat_eq, refl, sym, ap, ◌∙◌, arith}
use Rattle.std.proofs.lemmas.Bool.Decides.{nat_tests}
use Rattle.std.proofs.lemmas.Option.{slice_get_within}
use Rattle.std.specs.Option.{option_map}
use Rattle.bac_journal.proofs.Lists.{get_set, get_set_other}
use Rattle.bac_node.specs.Serving.{is_reusing}
use Rattle.bac_transaction.specs.Sharing.{EndRules}
use Rattle.bac_transaction.specs.Views.{rules_view}
use Rattle.bac_driver.specs.BoundNodes.{BoundNode}
use Rattle.bac_plant.specs.Plants.{Plant, reuse_of, settings_of}
use Rattle.bac_plant.specs.Steps.{PlantRun, PlantStep, Step}
use Rattle.bac_plant.specs.Steps.Step.{Begins, BeginsAway, Changes, FailsToReceive, Holds, Passes, Restarts, SendsHeld, Starts, StartsAgain, Takes}

abbrev set : BoundNode → EndRules
set b = rules_view b.rules

-- the setting of a station that is there
abbrev set_at : Plant → (station : ℕ) → Option EndRules
set_at p j = option_map set (slice_get p.stations j)

-- a station takes the place of one with its setting
set_sets : (xs : List BoundNode) (i : ℕ) (a b : BoundNode) → slice_get xs i ≡ Some a → set b ≡ set a → (j : ℕ)
    → option_map set (slice_get (slice_set xs i b) j) ≡ option_map set (slice_get xs j)
set_sets xs i a b at same j = go (nat_eq j i) refl
  where
    go : (t : Bool) → nat_eq j i ≡ t → option_map set (slice_get (slice_set xs i b) j) ≡ option_map set (slice_get xs j)
    go true e =
        let is : j ≡ i = grind (arith, nat_tests) in
        ap (λ k. option_map set (slice_get (slice_set xs i b) k)) is ∙ ap (option_map set) (get_set xs i b (slice_get_within xs i a at)) ∙ ap Some same
        ∙ sym (ap (λ k. option_map set (slice_get xs k)) is ∙ ap (option_map set) at)
    go false e = ap (option_map set) (get_set_other xs i j b (λ is. grind (arith, nat_tests)))

module _ (old new : Plant) (i : ℕ) (a b : BoundNode) (at : slice_get old.stations i ≡ Some a) (same : set b ≡ set a)
    (stations : new.stations ≡ slice_set old.stations i b) where
  one_stays : (j : ℕ) → set_at new j ≡ set_at old j
  one_stays j = ap (λ l. option_map set (slice_get l j)) stations ∙ set_sets old.stations i a b at same j

step_sets : (overtake : ℕ) (old : Plant) (step : Step) (new : Plant) → PlantStep overtake old step new → (j : ℕ) → set_at new j ≡ set_at old j
step_sets overtake old (Passes by own) new s = λ j. ap (λ (p : Plant). set_at p j) s
step_sets overtake old (Takes i source turn) new s =
    one_stays old new i s.before s.after s.at (ap rules_view (s.takes.is.acts.rules ∙ s.takes.is.receives.rules)) (ap (λ (p : Plant). p.stations) s.happens.is)
step_sets overtake old (FailsToReceive i) new s = one_stays old new i s.before s.after s.at (ap rules_view s.rules) (ap (λ (p : Plant). p.stations) s.is)
step_sets overtake old (Begins i server limits r) new s =
    one_stays old new i s.before s.after s.at (ap rules_view s.begun.rules) (ap (λ (p : Plant). p.stations) s.is)
step_sets overtake old (BeginsAway i peer limits r) new s =
    one_stays old new i s.before s.after s.at (ap rules_view s.begun.rules) (ap (λ (p : Plant). p.stations) s.is)
step_sets overtake old (Changes i c) new s = one_stays old new i s.before _ s.at refl (ap (λ (p : Plant). p.stations) s.is)
step_sets overtake old (Restarts i exact store) new s = one_stays old new i s.before s.after s.at s.rules (ap (λ (p : Plant). p.stations) s.is)
step_sets overtake old (Starts i exact) new s = one_stays old new i s.before s.after s.at s.rules (ap (λ (p : Plant). p.stations) s.is)
step_sets overtake old (StartsAgain i exact first_id store) new s =
    one_stays old new i s.before s.after s.at s.rules (ap (λ (p : Plant). p.stations) s.is)
step_sets overtake old (Holds i source turn) new s =
    one_stays old new i s.before s.after s.at (ap rules_view (s.holds.takes.rules ∙ s.holds.receives.rules)) (ap (λ (p : Plant). p.stations) s.happens.is)
step_sets overtake old (SendsHeld i turns) new s = one_stays old new i s.before s.after s.at (ap rules_view s.sends.rules) (ap (λ (p : Plant). p.stations) s.is)

run_sets : (overtake : ℕ) (steps : List Step) (old new : Plant) → PlantRun overtake steps old new → (i : ℕ) → set_at new i ≡ set_at old i
run_sets overtake [] old new run i = ap (λ (p : Plant). set_at p i) run
run_sets overtake (step ∷ before) old new run i =
    step_sets overtake run.middle step new run.last i ∙ run_sets overtake before old run.middle run.so_far i

pub run_stays : (overtake : ℕ) (steps : List Step) (old new : Plant) → PlantRun overtake steps old new → (i : ℕ) (before after : BoundNode)
    → slice_get old.stations i ≡ Some before → slice_get new.stations i ≡ Some after → set after ≡ set before
run_stays overtake steps old new run i before after was is =
    let e : Some (set after) ≡ Some (set before) = sym (ap (option_map set) is) ∙ run_sets overtake steps old new run i ∙ ap (option_map set) was in cc

-- whether it lets clients use an invoke ID again
abbrev reuses : Option EndRules → Bool
reuses None = false
reuses (Some r) = is_reusing r

by_set : (o : Option BoundNode) → reuse_of o ≡ reuses (option_map set o)
by_set None = refl
by_set (Some b) = refl

pub run_settings : (overtake : ℕ) (steps : List Step) (old new : Plant) → PlantRun overtake steps old new → (i : ℕ) → settings_of new i ≡ settings_of old i
run_settings overtake steps old new run i =
    by_set (slice_get new.stations i) ∙ ap reuses (run_sets overtake steps old new run i) ∙ sym (by_set (slice_get old.stations i))
