-- What a loop over turns keeps, and what follows where it ends.
use Rattle.std.proofs.Common.{◌≡◌, ℕ, suc, ◌+◌, ◌<◌, Bool, true, false, ◌==◌, if◌then◌else◌, List, [], ◌∷◌, ◌++◌, Option, Some, None}
use Rattle.std.proofs.Common.{refl, ap, sym, ◌∙◌, subst, arith, add-one, inl, inr}
use Rattle.std.specs.Option.{option_map}
use Rattle.std.specs.Prelude.{IfSome, MatchOption}
use Rattle.bac_transaction.specs.Meanings.{Ending, EndedView}
use Rattle.bac_driver.specs.Turns.{Turn, performed_of}
use Rattle.bac_driver.specs.Moments.{with_moment}
use Rattle.bac_protocol.specs.Service.{Octets}
use Rattle.bac_world.specs.Node.{Node}
use Rattle.bac_driver.specs.Runs.{TakesTurnFrom, Timed, timed}
use Rattle.bac_driver.specs.Seen.{Watcher, WatchesOnce, WatchesTurns, seen}
use Rattle.bac_driver.specs.Serving.{IsBefore, IsOver, Serves, StopsAfter, StopsServing, TakesEarlyTurn, TakesTurns, TurnsWith, count_of}
use Rattle.bac_driver.specs.declared.wait_limit.WaitLimit.{WaitLimit}
use Rattle.bac_driver.specs.Asking.{EndsIn, NeverEnds, Stops, ending_in, ending_of}
use Rattle.bac_driver.specs.Observed.{TakesObservedTurn, observed}

-- ---- serving

pub none_served : (p : WaitLimit) (old : Timed) → TakesTurns p 0 0 old old
none_served p old = record { taken = []; all = refl; run = refl; counted = refl }

pub one_more_served : (p : WaitLimit) (turns effects more : ℕ) (turn : Turn) (old middle new : Timed) → TakesTurns p turns effects old middle
    → TakesEarlyTurn p middle turn new → more ≡ count_of (performed_of turn.heard) → TakesTurns p (turns + 1) (effects + more) old new
one_more_served p turns effects more turn old middle new before takes counted =
    record {
      taken = turn ∷ before.taken;
      all = rw (add-one turns) (ap suc before.all);
      run = record { middle = middle; so_far = before.run; last = takes };
      counted = let a = before.counted in omega (arith, counted);
    }

pub none_watched : {S : Type 0} (Sees : Watcher S) (p : WaitLimit) (from : S) (old : Timed) → WatchesTurns Sees p from from 0 0 old old
none_watched Sees p from old = record { taken = []; all = refl; run = refl; told = refl; counted = refl }

pub one_more_watched : {S : Type 0} (Sees : Watcher S) (p : WaitLimit) (from between to : S) (turns effects more : ℕ) (old middle new : Timed)
    → WatchesTurns Sees p from between turns effects old middle → WatchesOnce Sees p between to more middle new
    → WatchesTurns Sees p from to (turns + 1) (effects + more) old new
one_more_watched Sees p from between to turns effects more old middle new before once =
    record {
      taken = once.s ∷ before.taken;
      all = rw (add-one turns) (ap suc before.all);
      run = record { middle = middle; so_far = before.run; last = once.takes };
      told = record { middle = between; so_far = before.told; last = once.told };
      counted = let a = before.counted in let b = once.counted in omega arith;
    }

pub once_watched : {S : Type 0} (Sees : Watcher S) (p : WaitLimit) (from to : S) (began effects : ℕ) (turn : Turn) (node : Node) (buffer : Octets)
    (old new : Timed) → node ≡ new.bound_node.node → buffer ≡ new.bound_node.buffer → IsBefore began p.until
    → TakesTurnFrom began p (timed old.bound_node (with_moment old.told began)) turn new → Sees (seen node buffer turn) from to
    → effects ≡ count_of (performed_of turn.heard) → WatchesOnce Sees p from to effects old new
once_watched Sees p from to began effects turn node buffer old new node_is buffer_is early takes told counted =
    record {
      s = seen node buffer turn;
      takes =
          record {
            takes = record { began = began; early = early; takes = takes };
            is = ap (λ (n : Node). seen n buffer turn) node_is ∙ ap (λ (b : Octets). seen new.bound_node.node b turn) buffer_is;
          };
      told = told;
      counted = counted;
    }

pub seen_once : {S : Type 0} (Sees : Watcher S) (p : WaitLimit) (from to : S) (turn : Turn) (node : Node) (buffer : Octets) (old new : Timed)
    → node ≡ new.bound_node.node → buffer ≡ new.bound_node.buffer → TakesEarlyTurn p old turn new → Sees (seen node buffer turn) from to
    → TakesObservedTurn Sees p (observed old from) (seen node buffer turn) (observed new to)
seen_once Sees p from to turn node buffer old new node_is buffer_is takes sees =
    record {
      takes =
          record {
            takes = takes;
            is = ap (λ (n : Node). seen n buffer turn) node_is ∙ ap (λ (b : Octets). seen new.bound_node.node b turn) buffer_is;
          };
      sees = sees;
    }

-- what a turn was, where it was taken, and where it was not
pub once_of : (r : Option ℕ) (is_once : ℕ → Type 0) (more : ℕ) → r ≡ Some more → IfSome r is_once → is_once more
once_of r is_once more is once = subst (λ (o : Option ℕ). IfSome o is_once) is once

pub few_of : (r : Option ℕ) (is_over : Type 0) (is_few : ℕ → Type 0) (more : ℕ) → r ≡ Some more → MatchOption r is_over is_few → is_few more
few_of r is_over is_few more is over = subst (λ (o : Option ℕ). MatchOption o is_over is_few) is over

pub over_of : (r : Option ℕ) (is_over : Type 0) (is_few : ℕ → Type 0) → r ≡ None → MatchOption r is_over is_few → is_over
over_of r is_over is_few is over = subst (λ (o : Option ℕ). MatchOption o is_over is_few) is over

stops_after : (p : WaitLimit) (turns all effects : ℕ) (happens : Timed → Timed → Type 0) (old middle new : Timed) → turns < all
    → TakesTurns p turns effects old middle → happens middle new → StopsAfter (TurnsWith p effects) all happens old new
stops_after p turns all effects happens old middle new fewer before stopped =
    record { taken = turns; fewer = fewer; middle = middle; takes = before; stopped = stopped }

pub served_all : (p : WaitLimit) (turns effects : ℕ) (old new : Timed) → TakesTurns p turns effects old new → Serves p turns effects old new
served_all p turns effects old new takes = inl takes

pub served_in_time : (p : WaitLimit) (turns all effects : ℕ) (old middle new : Timed) → turns < all → TakesTurns p turns effects old middle
    → IsOver p middle new → Serves p all effects old new
served_in_time p turns all effects old middle new fewer before over = inr (stops_after p turns all effects (IsOver p) old middle new fewer before over)

pub stops_serving : (p : WaitLimit) (turns all effects : ℕ) (happens : Timed → Timed → Type 0) (old middle new : Timed) → turns < all
    → TakesTurns p turns effects old middle → happens middle new → StopsServing p all happens old new
stops_serving p turns all effects happens old middle new fewer before stopped =
    record { effects = effects; stops = stops_after p turns all effects happens old middle new fewer before stopped }

-- ---- waiting

pub none_yet : {S T : Type 0} (step : S → T → S → Type 0) (turn_in : T → Turn) (ticket : ℕ) (old : S) → NeverEnds step turn_in 0 ticket old old
none_yet step turn_in ticket old = record { taken = []; all = refl; stays = record { run = refl; none_ended = tt } }

pub one_more_waited : {S T : Type 0} (step : S → T → S → Type 0) (turn_in : T → Turn) (turns ticket : ℕ) (given : T) (old middle new : S)
    → NeverEnds step turn_in turns ticket old middle → step middle given new → ending_in ticket (turn_in given) ≡ None
    → NeverEnds step turn_in (turns + 1) ticket old new
one_more_waited step turn_in turns ticket given old middle new before goes none =
    record {
      taken = given ∷ before.taken;
      all = rw (add-one turns) (ap suc before.all);
      stays =
          record {
            run = record { middle = middle; so_far = before.stays.run; last = goes };
            none_ended = (none, before.stays.none_ended);
          };
    }

pub ends_now : {S T : Type 0} (step : S → T → S → Type 0) (turn_in : T → Turn) (turns all ticket : ℕ) (how : Ending) (given : T) (old middle new : S)
    → turns < all → NeverEnds step turn_in turns ticket old middle → step middle given new → ending_in ticket (turn_in given) ≡ Some how
    → EndsIn step turn_in all how ticket old new
ends_now step turn_in turns all ticket how given old middle new fewer before goes ends =
    record {
      taken = before.taken;
      fewer = let is = before.all in omega arith;
      middle = middle;
      stays = before.stays;
      last = given;
      steps = goes;
      ended = ends;
    }

pub stops_waiting : {S T : Type 0} (step : S → T → S → Type 0) (turn_in : T → Turn) (turns all ticket : ℕ) (fails : S → S → Type 0) (old middle new : S)
    → turns < all → NeverEnds step turn_in turns ticket old middle → fails middle new → Stops step turn_in all fails ticket old new
stops_waiting step turn_in turns all ticket fails old middle new fewer before failed =
    record { taken = before.taken; fewer = let is = before.all in omega arith; middle = middle; stays = before.stays; failed = failed }

-- ---- endings

pub none_told : {A B : Type 0} (f : A → B) (told : Option A) (is : Option B) → ((a : A) → told ≡ Some a → ⊥) → option_map f told ≡ is → is ≡ None
none_told f None is never same = sym same
none_told f (Some a) is never same = absurd (never a refl)

-- among the first of some finishes
pub ending_before : (ticket : ℕ) (xs ys : List EndedView) (how : Ending) → Some how ≡ ending_of ticket xs → Some how ≡ ending_of ticket (xs ++ ys)
ending_before ticket [] ys how is = absurd (cc)
ending_before ticket (f ∷ xs) ys how is = go (f.ticket == ticket) (ending_before ticket xs ys how) is where
  go : (same : Bool) → (Some how ≡ ending_of ticket xs → Some how ≡ ending_of ticket (xs ++ ys))
      → Some how ≡ (if same then Some f.how else ending_of ticket xs) → Some how ≡ (if same then Some f.how else ending_of ticket (xs ++ ys))
  go true rest is = is
  go false rest is = rest is

-- among those after them
pub ending_after : (ticket : ℕ) (xs ys : List EndedView) (how : Option Ending) → None ≡ ending_of ticket xs → how ≡ ending_of ticket ys
    → how ≡ ending_of ticket (xs ++ ys)
ending_after ticket [] ys how none is = is
ending_after ticket (f ∷ xs) ys how none is = go (f.ticket == ticket) (λ none. ending_after ticket xs ys how none is) none where
  go : (same : Bool) → (None ≡ ending_of ticket xs → how ≡ ending_of ticket (xs ++ ys))
      → None ≡ (if same then Some f.how else ending_of ticket xs) → how ≡ (if same then Some f.how else ending_of ticket (xs ++ ys))
  go true rest none = absurd (cc)
  go false rest none = rest none
