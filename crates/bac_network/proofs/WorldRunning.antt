-- Runs, event by event.
use Rattle.std.proofs.Common.{◌≡◌, ◌↔◌, ℕ, zero, suc, ◌+◌, ◌≤◌, Bool, List, [], ◌∷◌, ◌++◌, length, take, Option, Some, Result, Err, IsErrOf, slice_get}
use Rattle.std.proofs.Common.{refl, sym, ap, subst, ◌∙◌, arith}
use Rattle.bac_world.specs.World as world
use Rattle.bac_world.specs.ReusingWorlds.{WorldRunSo, WorldStepSo}
use Rattle.bac_world.specs.World.{World, WorldRun, MakeNoStray, MakeRequestsAlone}
use Rattle.bac_world.proofs.Quiet.{alone_after_run}
use Rattle.bac_requester.specs.declared.ask_fault.AskFault.{AskFault}
use Rattle.bac_network.specs.AsksAlone.{HasAsksAloneNow}
use Rattle.bac_network.specs.Histories.{WorldView, HasHistory, HasRequestsAloneNow, as_world, reuses_of}
use Rattle.bac_network.specs.Rules.{reuses_by}
use Rattle.bac_network.specs.Runs.{StopsAtSo, TellsWhyNot, event_in}
use Rattle.bac_network.specs.Steps.{IsFault}
use Rattle.bac_network.specs.Clocks.{Instant}
use Rattle.bac_network.specs.Views.{event_view, events_view, instant_after, instant_after_all}
use Rattle.bac_network.specs.declared.event.Event.{Event}
use Rattle.bac_network.specs.declared.fault.WorldFault.{WorldFault}
use Rattle.bac_network.specs.declared.fault.WorldFault.TheVariants as fault
use Rattle.bac_network.proofs.AsksAlone.{asks_alone, no_stranger_after, requests_of}
use Rattle.bac_network.proofs.Histories.{run_more}

-- Fronts of lists.

take_suc : {A : Type 0} (xs : List A) (i : ℕ) (x : A) → slice_get xs i ≡ Some x → take (suc i) xs ≡ take i xs ++ x ∷ []
take_suc [] i x e = absurd cc
take_suc (y ∷ xs) zero x e = ap (λ z. z ∷ []) (let same : Some y ≡ Some x = e in cc)
take_suc (y ∷ xs) (suc i) x e = ap (λ l. y ∷ l) (take_suc xs i x e)

take_next : {A : Type 0} (xs : List A) (i : ℕ) (x : A) → slice_get xs i ≡ Some x → take (i + 1) xs ≡ take i xs ++ x ∷ []
take_next xs i x e = let on : i + 1 ≡ suc i = omega arith in ap (λ n. take n xs) on ∙ take_suc xs i x e

take_whole : {A : Type 0} (xs : List A) (n : ℕ) → length xs ≤ n → take n xs ≡ xs
take_whole [] zero h = refl
take_whole [] (suc n) h = refl
take_whole (x ∷ xs) zero h = absurd (omega arith)
take_whole (x ∷ xs) (suc n) h = ap (λ l. x ∷ l) (take_whole xs n (omega arith))

-- the next event is at the moment to which those before it lead
seen_at : (events : List Event) (place : ℕ) (event : Event) → slice_get events place ≡ Some event → (t : Instant)
    → slice_get (events_view t events) place ≡ Some (event_view (instant_after_all (take place events) t) event)
seen_at [] place event at t = absurd cc
seen_at (e ∷ es) zero event at t = let same : e ≡ event = let is : Some e ≡ Some event = at in cc in ap (λ (d : Event). Some (event_view t d)) same
seen_at (e ∷ es) (suc place) event at t = seen_at es place event at (instant_after e t)

after_more : (es : List Event) (e : Event) (t : Instant) → instant_after_all (es ++ e ∷ []) t ≡ instant_after e (instant_after_all es t)
after_more [] e t = refl
after_more (d ∷ es) e t = after_more es e (instant_after d t)

pub time_goes_on : (events : List Event) (place : ℕ) (event : Event) → slice_get events place ≡ Some event → (first mid new : Instant)
    → mid ≡ instant_after_all (take place events) first → new ≡ instant_after event mid → new ≡ instant_after_all (take (place + 1) events) first
time_goes_on events place event at first mid new before after =
    after ∙ ap (instant_after event) before ∙ sym (after_more (take place events) event first)
    ∙ ap (λ l. instant_after_all l first) (sym (take_next events place event at))

-- One event more.

pub goes_on : (old mid new : WorldView) (events : List Event) (place : ℕ) (event : Event) → slice_get events place ≡ Some event
    → WorldRunSo old.overtake (reuses_of old) (as_world old) (take place (events_view old.time events)) (as_world mid) → mid.overtake ≡ old.overtake
    → mid.reuses ≡ old.reuses → mid.time ≡ instant_after_all (take place events) old.time
    → WorldStepSo mid.overtake (reuses_of mid) (as_world mid) (event_view mid.time event) (as_world new)
    → WorldRunSo old.overtake (reuses_of old) (as_world old) (take (place + 1) (events_view old.time events)) (as_world new)
goes_on old mid new events place event at done same rules now step =
    subst (λ l. WorldRunSo old.overtake (reuses_of old) (as_world old) l (as_world new))
    (sym (take_next (events_view old.time events) place (event_view mid.time event)
    (seen_at events place event at old.time ∙ ap (λ (t : Instant). Some (event_view t event)) (sym now))))
    (run_more old.overtake (reuses_of old) (take place (events_view old.time events)) (event_view mid.time event) (as_world old) (as_world mid) (as_world new) done
    (subst (λ (v : ℕ). WorldStepSo v (reuses_of old) (as_world mid) (event_view mid.time event) (as_world new)) same
    (subst (λ (l : List Bool). WorldStepSo mid.overtake (reuses_by l) (as_world mid) (event_view mid.time event) (as_world new)) rules step)))

-- All of them.

as_many : (t : Instant) (events : List Event) → length (events_view t events) ≡ length events
as_many t [] = refl
as_many t (e ∷ es) = ap suc (as_many (instant_after e t) es)

pub all_done : (old new : WorldView) (events : List Event) (place : ℕ) → length events ≤ place
    → WorldRunSo old.overtake (reuses_of old) (as_world old) (take place (events_view old.time events)) (as_world new)
    → WorldRunSo old.overtake (reuses_of old) (as_world old) (events_view old.time events) (as_world new)
all_done old new events place all done =
    let many = as_many old.time events in
    subst (λ l. WorldRunSo old.overtake (reuses_of old) (as_world old) l (as_world new)) (take_whole (events_view old.time events) place (omega (arith, many, all))) done

pub all_passed : (old new : Instant) (events : List Event) (place : ℕ) → length events ≤ place → new ≡ instant_after_all (take place events) old
    → new ≡ instant_after_all events old
all_passed old new events place all is = is ∙ ap (λ l. instant_after_all l old) (take_whole events place all)

-- Where no node changes its own store or restarts.

alone_front : (events : List world.Event) (place : ℕ) → MakeRequestsAlone events → MakeRequestsAlone (take place events)
alone_front [] zero alone = tt
alone_front [] (suc place) alone = tt
alone_front (e ∷ events) zero alone = tt
alone_front (world.Event.Ask client server limits r ∷ events) (suc place) alone = alone_front events place alone
alone_front (world.Event.Deliver number ∷ events) (suc place) alone = alone_front events place alone
alone_front (world.Event.Noise node from octets ∷ events) (suc place) alone = alone_front events place alone
alone_front (world.Event.Stray node from octets ∷ events) (suc place) alone = alone_front events place alone
alone_front (world.Event.AskAway client peer limits r ∷ events) (suc place) alone = alone_front events place alone
alone_front (world.Event.Tick node ∷ events) (suc place) alone = alone_front events place alone
alone_front (world.Event.Advance by own ∷ events) (suc place) alone = alone_front events place alone
alone_front (world.Event.Change node c ∷ events) (suc place) alone = absurd alone
alone_front (world.Event.Restart node exact store ∷ events) (suc place) alone = absurd alone
alone_front (world.Event.Begin node exact ∷ events) (suc place) alone = alone_front events place alone
alone_front (world.Event.BeginAgain node exact first_id store ∷ events) (suc place) alone = absurd alone

pub alone_so_far : (old mid : WorldView) (events : List world.Event) (place : ℕ) → WorldRun old.overtake (as_world old) (take place events) (as_world mid)
    → HasRequestsAloneNow old → MakeRequestsAlone events → HasRequestsAloneNow mid
alone_so_far old mid events place done before alone =
    alone_after_run old.overtake (take place events) (as_world old) (as_world mid) (alone_front events place alone) done before

-- The same without strangers.

calm_front : (events : List world.Event) (place : ℕ) → MakeNoStray events → MakeNoStray (take place events)
calm_front [] zero calm = tt
calm_front [] (suc place) calm = tt
calm_front (e ∷ events) zero calm = tt
calm_front (world.Event.Ask client server limits r ∷ events) (suc place) calm = calm_front events place calm
calm_front (world.Event.Deliver number ∷ events) (suc place) calm = calm_front events place calm
calm_front (world.Event.Noise node from octets ∷ events) (suc place) calm = calm_front events place calm
calm_front (world.Event.Stray node from octets ∷ events) (suc place) calm = absurd calm
calm_front (world.Event.AskAway client peer limits r ∷ events) (suc place) calm = absurd calm
calm_front (world.Event.Tick node ∷ events) (suc place) calm = calm_front events place calm
calm_front (world.Event.Advance by own ∷ events) (suc place) calm = calm_front events place calm
calm_front (world.Event.Change node c ∷ events) (suc place) calm = calm_front events place calm
calm_front (world.Event.Restart node exact store ∷ events) (suc place) calm = calm_front events place calm
calm_front (world.Event.Begin node exact ∷ events) (suc place) calm = calm_front events place calm
calm_front (world.Event.BeginAgain node exact first_id store ∷ events) (suc place) calm = calm_front events place calm

pub asks_so_far : (old mid : WorldView) (events : List world.Event) (place : ℕ) → HasHistory old
    → WorldRun old.overtake (as_world old) (take place events) (as_world mid) → HasAsksAloneNow old → MakeRequestsAlone events → MakeNoStray events
    → HasAsksAloneNow mid
asks_so_far old mid events place history done before alone calm =
    let parts = requests_of old.log before in
    asks_alone mid.log (alone_so_far old mid events place done parts.0 alone)
    (no_stranger_after old.overtake history.1.first (as_world old) (as_world mid) history.1.fresh history.1.events history.1.run (take place events)
    (calm_front events place calm) done parts.1)

-- A fault.

clash : (r : Result (Option AskFault) WorldFault) → r ≡ Err fault.NoMemory → r ≡ Err fault.NoSuchNode → ⊥
clash r a b = cc

pub fault_is : (f : WorldFault) (w : WorldView) (e : Event) (r : Result (Option AskFault) WorldFault) → r ≡ Err f → TellsWhyNot r w e
    → IsFault f w.overtake (as_world w) (event_in w e)
fault_is fault.NoSuchNode w e r is why = why.node.0 is
fault_is fault.NoSuchDatagram w e r is why = why.datagram.0 is
fault_is fault.NodeLink w e r is why = why.link.0 is
fault_is fault.ClockEnd w e r is why = why.clock.0 is
fault_is fault.TooSoon w e r is why = why.soon.0 is
fault_is (fault.BadChange change) w e r is why = (why.change change).0 is
fault_is fault.NoMemory w e r is why = (why.memory is, λ n. clash r is (why.node.1 n))

pub stops : (f : WorldFault) (old mid new : WorldView) (events : List Event) (place : ℕ) (event : Event) → slice_get events place ≡ Some event
    → WorldRunSo old.overtake (reuses_of old) (as_world old) (take place (events_view old.time events)) (as_world mid) → mid.overtake ≡ old.overtake
    → mid.time ≡ instant_after_all (take place events) old.time → new ≡ mid
    → IsFault f mid.overtake (as_world mid) (event_view mid.time event)
    → StopsAtSo (record { place = place; fault = f }) old (events_view old.time events) new
stops f old mid new events place event at done same now is why = record {
  done = subst (λ (v : WorldView). WorldRunSo old.overtake (reuses_of old) (as_world old) (take place (events_view old.time events)) (as_world v)) (sym is) done;
  event = event_view mid.time event;
  at = seen_at events place event at old.time ∙ ap (λ (t : Instant). Some (event_view t event)) (sym now);
  fault = subst (λ (v : WorldView). IsFault f old.overtake (as_world v) (event_view mid.time event)) (sym is)
      (subst (λ (k : ℕ). IsFault f k (as_world mid) (event_view mid.time event)) same why);
}
