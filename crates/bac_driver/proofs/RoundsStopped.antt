-- Why a round stops, and that it is then as after the turns that it held.
use Rattle.std.proofs.Common.{◌≡◌, ℕ, ◌<◌, ◌≤◌, Bool, true, false, ◌||◌, List, [], ◌∷◌, ◌++◌, length, Result, Ok, Err, OnErr, IfErr, IsErrAnd}
use Rattle.std.proofs.Common.{refl, ap, sym, subst, ◌∙◌, arith, append_assoc, length-append, inl, inr}
use Rattle.bac_store.specs.Stores.{Store}
use Rattle.bac_driver.specs.Faults.{round_fault}
use Rattle.bac_driver.specs.Moments.{Told, with_moment}
use Rattle.bac_driver.specs.Observed.{Observed}
use Rattle.bac_driver.specs.Rounds.{BreaksOff, BreaksRound, CannotKeep, FindsOneOf, FirstStops, HoldFails, HoldsMore, HoldsOn, HoldsOne, HoldsSeenTurn, HoldsSome}
use Rattle.bac_driver.specs.Rounds.{HoldsTurnAtOnce, HoldsTurnFrom, MoreStops, OnlyReceives, ROUND, RoundFails, ServingStops, TakesRounds, TurnStops}
use Rattle.bac_driver.specs.Rounds.{change_store, changes_store, in_order}
use Rattle.bac_driver.specs.Runs.{Run, Timed, timed}
use Rattle.bac_driver.specs.Seen.{Watcher}
use Rattle.bac_driver.specs.Serving.{IsBefore}
use Rattle.bac_driver.specs.Turns.{Turn}
use Rattle.bac_driver.specs.Waits.{AT_ONCE}
use Rattle.bac_driver.specs.declared.fault.RoundFault.{RoundFault}
use Rattle.bac_driver.specs.declared.fault.RoundFault.TheVariants as round
use Rattle.bac_driver.specs.declared.fault.TurnFault.{TurnFault}
use Rattle.bac_driver.specs.declared.fault.TurnFault.TheVariants as fault
use Rattle.bac_driver.specs.declared.wait_limit.WaitLimit.{WaitLimit}
use Rattle.bac_driver.proofs.ChangesOfTurns.{changed_more, or_false}
use Rattle.bac_driver.proofs.RoundsTaken.{stops_early, whatever}

-- ---- a fault that a call hands on

pub of_fault : {A E : Type 0} (P : E → Type 0) (r : Result A E) (e : E) → IsErrAnd r (λ x. x ≡ e) → P e → IfErr r P
of_fault P (Ok x) e is holds = tt
of_fault P (Err x) e is holds = subst P (sym is) holds

-- ---- one turn

pub turn_stops : (e : TurnFault) (began : ℕ) (p : WaitLimit) (old new : Timed) → HoldFails e began old new → TurnStops (round_fault e) began p old new
turn_stops fault.Link began p old new fails = fails
turn_stops fault.ClockBack began p old new fails = fails

-- the first turn, at a moment of the clock
pub first_stops : (e : RoundFault) (p : WaitLimit) (began : ℕ) (old new : Timed) (told : Told) → IsBefore began p.until → told ≡ with_moment old.told began
    → TurnStops e began p (timed old.bound_node told) new → FirstStops e p old new
first_stops round.Link p began old new told early told_is stops =
    let fails = stops.1 in
    record { now = began; told = fails.told ∙ told_is; timely = stops.0; node = fails.node; count = fails.count; calls = fails.calls; rules = fails.rules }
first_stops round.ClockBack p began old new told early told_is stops =
    record {
      now = began;
      told = ap (λ (t : Timed). t.told) stops.1 ∙ told_is;
      early = stops.0;
      same = ap (λ (t : Timed). t.bound_node) stops.1;
    }
first_stops (round.Keep why) p began old new told early told_is stops =
    record {
      turn = stops.turn;
      held =
          record {
            began = began;
            early = early;
            holds = subst (λ (t : Told). HoldsTurnFrom began p (timed old.bound_node t) stops.turn new) told_is stops.held;
          };
      changed = stops.changed;
    }

-- ---- more turns

held_run : {S : Type 0} (Sees : Watcher S) (turns : List Turn) (old new : Observed S) → Run (HoldsSeenTurn Sees HoldsTurnAtOnce) turns old new
    → Run HoldsTurnAtOnce turns old.timed new.timed
held_run {S} Sees [] old new run = ap (λ (o : Observed S). o.timed) run
held_run Sees (turn ∷ before) old new run =
    record { middle = run.middle.timed; so_far = held_run Sees before old run.middle run.so_far; last = run.last.is }

holds_on : {S : Type 0} (Sees : Watcher S) (before turns : List Turn) (old new : Observed S) → HoldsMore Sees before turns old new → length turns ≤ ROUND
    → HoldsOn before turns old.timed new.timed
holds_on Sees before turns old new some few =
    record { more = some.more; goes_on = held_run Sees some.more old new some.goes_on; are = some.are; most = few }

or_true : (a b : Bool) → b ≡ true → (a || b) ≡ true
or_true true b is = refl
or_true false b is = is

pub more_stops : {S : Type 0} (Sees : Watcher S) (before turns : List Turn) (e : RoundFault) (began : ℕ) (old middle : Observed S) (new : Timed)
    → HoldsMore Sees before turns old middle → length turns < ROUND → began ≡ middle.timed.bound_node.node.latest
    → TurnStops e began AT_ONCE middle.timed new → MoreStops e before old.timed new
more_stops Sees before turns round.Link began old middle new some few began_is stops =
    record { turns = turns; middle = middle.timed; holds = holds_on Sees before turns old middle some (omega (arith, few)); room = few; fails = stops.1 }
more_stops Sees before turns round.ClockBack began old middle new some few began_is stops =
    let back = stops.0 in omega (arith, back, began_is)
more_stops Sees before turns (round.Keep why) began old middle new some few began_is stops =
    let one_more = length-append turns (stops.turn ∷ []) in
    record {
      turns = turns ++ stops.turn ∷ [];
      holds =
          record {
            more = stops.turn ∷ some.more;
            goes_on =
                record {
                  middle = middle.timed;
                  so_far = held_run Sees some.more old middle some.goes_on;
                  last = subst (λ (m : ℕ). HoldsTurnFrom m AT_ONCE middle.timed stops.turn new) began_is stops.held;
                };
            are =
                ap (λ (ts : List Turn). ts ++ stops.turn ∷ []) some.are ∙ append_assoc before (in_order some.more) (stops.turn ∷ []);
            most = omega (arith, one_more, few);
          };
      changed = changed_more turns stops.turn ∙ or_true (change_store turns) (changes_store stops.turn) stops.changed;
    }

-- ---- the round

-- in its first turn
pub fails_first : (e : RoundFault) (p : WaitLimit) (old new : Timed) → FirstStops e p old new → RoundFails e p old new
fails_first round.Link p old new stops = inl stops
fails_first round.ClockBack p old new stops = stops
fails_first (round.Keep why) p old new stops =
    record {
      turns = stops.turn ∷ [];
      holds =
          record {
            first = stops.turn;
            begun = new;
            begins = stops.held;
            others = record { more = []; goes_on = refl; are = refl; most = omega arith };
          };
      changed = or_false (changes_store stops.turn) ∙ stops.changed;
    }

holds_some : {S : Type 0} (Sees : Watcher S) (p : WaitLimit) (first turns : List Turn) (old begun : Observed S) (new : Timed)
    → HoldsOne Sees p first old begun → HoldsOn first turns begun.timed new → HoldsSome p turns old.timed new
holds_some Sees p first turns old begun new one on =
    record {
      first = one.first;
      begun = begun.timed;
      begins = one.begins.is;
      others = subst (λ (ts : List Turn). HoldsOn ts turns begun.timed new) one.are on;
    }

-- in a later one
pub fails_later : {S : Type 0} (Sees : Watcher S) (e : RoundFault) (p : WaitLimit) (first : List Turn) (old begun : Observed S) (new : Timed)
    → HoldsOne Sees p first old begun → MoreStops e first begun.timed new → RoundFails e p old.timed new
fails_later Sees round.Link p first old begun new one stops =
    inr (record {
      turns = stops.turns;
      middle = stops.middle;
      holds = holds_some Sees p first stops.turns old begun stops.middle one stops.holds;
      room = stops.room;
      fails = stops.fails;
    })
fails_later Sees round.ClockBack p first old begun new one stops = absurd stops
fails_later Sees (round.Keep why) p first old begun new one stops =
    record { turns = stops.turns; holds = holds_some Sees p first stops.turns old begun new one stops.holds; changed = stops.changed }

-- where all turns were held
pub fails_to_keep : {S : Type 0} (Sees : Watcher S) (p : WaitLimit) (first turns : List Turn) (old begun new : Observed S)
    → HoldsOne Sees p first old begun → HoldsMore Sees first turns begun new → length turns ≤ ROUND → change_store turns ≡ true
    → CannotKeep p old.timed new.timed
fails_to_keep Sees p first turns old begun new one some few changed =
    record {
      turns = turns;
      holds = holds_some Sees p first turns old begun new.timed one (holds_on Sees first turns begun new some few);
      changed = changed;
    }

-- ---- rounds

-- after some rounds one stopped
pub serving_stops : {S : Type 0} (Sees : Watcher S) (p : WaitLimit) (rounds all effects : ℕ) (e : RoundFault) (old middle new : Observed S) → rounds < all
    → TakesRounds Sees p rounds effects old middle → RoundFails e p middle.timed new.timed → ServingStops Sees p all e old new
serving_stops Sees p rounds all effects e old middle new fewer before fails =
    record { effects = effects; stops = stops_early Sees p rounds all effects _ old middle new fewer before fails }

pub breaks_off : {S K A E : Type 0} (Sees : Watcher S) (p : WaitLimit) (rounds all effects : ℕ) (IsHonest : K → Type 0) (may_find : K → Store → Type 0)
    (keeper : K) (e : RoundFault) (old middle new : Observed S) (r : Result A E) → rounds < all → TakesRounds Sees p rounds effects old middle
    → RoundFails e p middle.timed new.timed → OnlyReceives middle.timed.bound_node.calls new.timed.bound_node.calls
    → FindsOneOf IsHonest may_find middle.timed.bound_node.node.store new.timed.bound_node.node.store keeper
    → OnErr r (BreaksOff Sees p all IsHonest may_find keeper old new)
breaks_off Sees p rounds all effects IsHonest may_find keeper e old middle new r fewer before fails receives finds =
    whatever r (BreaksOff Sees p all IsHonest may_find keeper old new)
    (record {
      effects = effects;
      stops =
          stops_early Sees p rounds all effects (BreaksRound IsHonest may_find keeper) old middle new fewer before
          (record { unsent = record { why = e; limit = p; fails = fails; receives = receives }; finds = finds });
    })
