-- What was served is the same if nobody saw it.
use Rattle.std.proofs.Common.{ℕ, List, [], ◌∷◌, Option, refl, ap, inl, inr}
use Rattle.bac_store.specs.Stores.{Store}
use Rattle.bac_driver.specs.Observed.{IsOverUnseen, Observed, observed}
use Rattle.bac_driver.specs.Rounds.{BreaksRound, HoldsSeenTurn, HoldsTurnAtOnce, HoldsTurns, ServesRounds, StopsRounds, TakesRound, TakesRounds}
use Rattle.bac_driver.specs.Runs.{Run, Timed}
use Rattle.bac_driver.specs.Seen.{Watcher}
use Rattle.bac_driver.specs.Turns.{Turn}
use Rattle.bac_driver.specs.declared.wait_limit.WaitLimit.{WaitLimit}
use Rattle.bac_server.specs.Kept.{EndsKept, KeptText, RoundsText, Unseen, unwatched}

abbrev blind : {S : Type 0} → Observed S → Observed (Unit {0})
blind o = unwatched o.timed

run_of : {S R T : Type 0} (f : S → R) (step : S → T → S → Type 0) (other : R → T → R → Type 0)
    → ((old : S) (given : T) (new : S) → step old given new → other (f old) given (f new)) → (all : List T) (old new : S) → Run step all old new
    → Run other all (f old) (f new)
run_of f step other each [] old new e = ap f e
run_of f step other each (given ∷ before) old new run =
    record { middle = f run.middle; so_far = run_of f step other each before old run.middle run.so_far; last = each run.middle given new run.last }

turn_of : {S : Type 0} (Sees : Watcher S) (holds : Timed → Turn → Timed → Type 0) (old : Observed S) (turn : Turn) (new : Observed S)
    → HoldsSeenTurn Sees holds old turn new → HoldsSeenTurn Unseen holds (unwatched old.timed) turn (unwatched new.timed)
turn_of Sees holds old turn new h = record { is = h.is; sees = tt }

turns_of : {S : Type 0} (Sees : Watcher S) (p : WaitLimit) (turns : List Turn) (old new : Observed S) → HoldsTurns Sees p turns old new
    → HoldsTurns Unseen p turns (unwatched old.timed) (unwatched new.timed)
turns_of Sees p turns old new h =
    record {
      first = h.first;
      begun = unwatched h.begun.timed;
      begins = record { is = h.begins.is; sees = tt };
      more = h.more;
      goes_on =
          run_of blind (HoldsSeenTurn Sees HoldsTurnAtOnce) (HoldsSeenTurn Unseen HoldsTurnAtOnce) (turn_of Sees HoldsTurnAtOnce) h.more h.begun new h.goes_on;
      are = h.are;
      most = h.most;
    }

round_of : {S : Type 0} (Sees : Watcher S) (p : WaitLimit) (old : Observed S) (effects : ℕ) (new : Observed S) → TakesRound Sees p old effects new
    → TakesRound Unseen p (unwatched old.timed) effects (unwatched new.timed)
round_of Sees p old effects new t =
    record {
      turns = t.turns;
      round =
          record {
            middle = t.round.middle;
            holds = turns_of Sees p t.turns old (observed t.round.middle new.state) t.round.holds;
            lost = t.round.lost;
            carried = t.round.carried;
            node = t.round.node;
            buffer = t.round.buffer;
            rules = t.round.rules;
            told = t.round.told;
          };
      counted = t.counted;
    }

rounds_of : {S : Type 0} (Sees : Watcher S) (p : WaitLimit) (rounds effects : ℕ) (old new : Observed S) → TakesRounds Sees p rounds effects old new
    → TakesRounds Unseen p rounds effects (unwatched old.timed) (unwatched new.timed)
rounds_of Sees p rounds effects old new t =
    record {
      counts = t.counts;
      all = t.all;
      run = run_of blind (TakesRound Sees p) (TakesRound Unseen p) (round_of Sees p) t.counts old new t.run;
      counted = t.counted;
    }

stops_of : {S : Type 0} (Sees : Watcher S) (p : WaitLimit) (rounds effects : ℕ) (happens : Observed S → Observed S → Type 0)
    (other : Observed (Unit {0}) → Observed (Unit {0}) → Type 0)
    → ((from to : Observed S) → happens from to → other (unwatched from.timed) (unwatched to.timed)) → (old new : Observed S)
    → StopsRounds Sees p rounds effects happens old new → StopsRounds Unseen p rounds effects other (unwatched old.timed) (unwatched new.timed)
stops_of Sees p rounds effects happens other each old new s =
    record {
      taken = s.taken;
      fewer = s.fewer;
      middle = unwatched s.middle.timed;
      takes = rounds_of Sees p s.taken effects old s.middle s.takes;
      stopped = each s.middle new s.stopped;
    }

over_of : {S : Type 0} (p : WaitLimit) (old new : Observed S) → IsOverUnseen p old new → IsOverUnseen p (unwatched old.timed) (unwatched new.timed)
over_of p old new o = record { over = o.over; unseen = refl }

serves_of : {S : Type 0} (Sees : Watcher S) (p : WaitLimit) (rounds effects : ℕ) (old new : Observed S) → ServesRounds Sees p rounds effects old new
    → ServesRounds Unseen p rounds effects (unwatched old.timed) (unwatched new.timed)
serves_of Sees p rounds effects old new (inl t) = inl (rounds_of Sees p rounds effects old new t)
serves_of Sees p rounds effects old new (inr s) = inr (stops_of Sees p rounds effects (IsOverUnseen p) (IsOverUnseen p) (over_of p) old new s)

pub text_of : {S : Type 0} (Sees : Watcher S) (p : WaitLimit) (rounds : ℕ) (before after : Observed S) (old new : Option (List ℕ))
    → KeptText Sees p rounds before after old new → RoundsText p rounds before.timed after.timed old new
text_of Sees p rounds before after old new t =
    record { effects = t.effects; serves = serves_of Sees p rounds t.effects before after t.serves; printed = t.printed }

broken_of : {S K : Type 0} (IsHonest : K → Type 0) (may_find : K → Store → Type 0) (keeper : K) (old new : Observed S)
    → BreaksRound IsHonest may_find keeper old new → BreaksRound IsHonest may_find keeper (unwatched old.timed) (unwatched new.timed)
broken_of IsHonest may_find keeper old new b = record { unsent = b.unsent; finds = b.finds }

pub ends_of : {S K : Type 0} (Sees : Watcher S) (p : WaitLimit) (rounds : ℕ) (IsHonest IsOpen : K → Type 0) (kept noted : K → Store)
    (may_find : K → Store → Type 0) (keeper : K) (before after : Observed S) → EndsKept Sees p rounds IsHonest IsOpen kept noted may_find keeper before after
    → EndsKept Unseen p rounds IsHonest IsOpen kept noted may_find keeper (unwatched before.timed) (unwatched after.timed)
ends_of Sees p rounds IsHonest IsOpen kept noted may_find keeper before after (inl all) =
    inl (record { effects = all.effects; serves = serves_of Sees p rounds all.effects before after all.serves; all = all.all })
ends_of Sees p rounds IsHonest IsOpen kept noted may_find keeper before after (inr b) =
    inr (record {
      effects = b.effects;
      stops =
          stops_of Sees p rounds b.effects (BreaksRound IsHonest may_find keeper) (BreaksRound IsHonest may_find keeper)
          (broken_of IsHonest may_find keeper) before after b.stops;
    })
