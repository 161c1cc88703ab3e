-- Rounds, one after the other.
use Rattle.std.proofs.Common.{◌≡◌, ℕ, suc, ◌&&◌, Bool, true, false, List, Option, refl, sym, ap, subst, ◌∙◌}
use Rattle.bac_driver.specs.Moments.{Told, with_moment}
use Rattle.bac_driver.specs.Runs.{Timed, timed}
use Rattle.bac_asking.specs.Rounds.{AreRoundsFrom, BeginsRound, DoesNothing, Doing, Rests, next_from}

pub both_and : (a b c : Bool) → a && (b && c) ≡ (a && b) && c
both_and true b c = refl
both_and false b c = refl

pub and_true : (b : Bool) → b && true ≡ b
and_true true = refl
and_true false = refl

-- the round began at the moment that the clock printed
pub round_begun : (Round : Doing) (from began : ℕ) (succeeded : Bool) (before rested after : Timed) (told : Told) (old new : Option (List ℕ))
    → Rests from before rested → told ≡ with_moment rested.told began → Round succeeded (timed rested.bound_node told) after old new
    → BeginsRound Round from began succeeded before after old new
round_begun Round from began succeeded before rested after told old new rests tells does =
    record {
      rested = rested;
      rests = rests;
      does = subst (λ (t : Told). Round succeeded (timed rested.bound_node t) after old new) tells does;
    }

-- what is done from here on completes what all rounds do
pub one_more_round : (Round : Doing) (every left from began next : ℕ) (so_far succeeded now rest : Bool) (before middle after : Timed)
    (old between new : Option (List ℕ)) (Whole : Bool → Timed → Option (List ℕ) → Type 0) → now ≡ so_far && succeeded → next ≡ next_from every from began
    → BeginsRound Round from began succeeded before middle old between
    → ((all : Bool) (last : Timed) (end : Option (List ℕ)) → AreRoundsFrom Round every (suc left) from all before last old end → Whole (so_far && all) last end)
    → AreRoundsFrom Round every left next rest middle after between new → Whole (now && rest) after new
one_more_round Round every left from began next so_far succeeded now rest before middle after old between new Whole both on begins whole more =
    subst (λ (b : Bool). Whole b after new) (both_and so_far succeeded rest ∙ ap (λ (b : Bool). b && rest) (sym both))
    (whole (succeeded && rest) after new
    (record {
      began = began;
      succeeded = succeeded;
      rest = rest;
      middle = middle;
      between = between;
      first = begins;
      others = subst (λ (n : ℕ). AreRoundsFrom Round every left n rest middle after between new) on more;
      is = refl;
    }))

-- where no round is left, all were done
pub all_rounds : (Round : Doing) (every times most : ℕ) (so_far : Bool) (before after : Timed) (old new : Option (List ℕ)) → times ≡ most
    → (DoesNothing true after after new new → AreRoundsFrom Round every times 0 (so_far && true) before after old new)
    → AreRoundsFrom Round every most 0 so_far before after old new
all_rounds Round every times most so_far before after old new same whole =
    subst (λ (n : ℕ). AreRoundsFrom Round every n 0 so_far before after old new) same
    (subst (λ (b : Bool). AreRoundsFrom Round every times 0 b before after old new) (and_true so_far) (whole (refl, (refl, refl))))
