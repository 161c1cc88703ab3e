-- How far the deliveries of an ask have gone.
use Rattle.std.proofs.Common.{◌≡◌, ℕ, zero, suc, ◌+◌, ◌-◌, ◌<◌, ◌≤◌, Bool, true, false, List, ◌∷◌, length, map, Option, Some, None, slice_get}
use Rattle.std.proofs.Common.{refl, sym, ap, subst, inl, inr, ◌∙◌, arith}
use Rattle.std.specs.Prelude.{Result, Ok, Err, IsErrAnd, MatchBool, MatchResult}
use Rattle.std.proofs.lemmas.List.{length-map, length-reverse}
use Rattle.bac_apdu.specs.Apdu.{Limits}
use Rattle.bac_service.specs.Values.{Request}
use Rattle.bac_transaction.specs.Meanings.{Ending}
use Rattle.bac_world.specs.Node.{Node}
use Rattle.bac_world.specs.Once.{Fact, HasRequestsAlone}
use Rattle.bac_world.specs.ReusingWorlds.{WorldStepSo}
use Rattle.bac_world.specs.World.{World, Copy, Note, IsAsked, MakeRequestsAlone}
use Rattle.bac_world.specs.World.Event.{Ask, Deliver}
use Rattle.bac_world.proofs.Quiet.{alone_after_run}
use Rattle.bac_journal.specs.declared.copies.Copy as copy
use Rattle.bac_journal.specs.declared.noting.Note as note
use Rattle.bac_journal.specs.Notes.{note_view, notes_view}
use Rattle.bac_journal.specs.Views.{copy_view}
use Rattle.bac_network.specs.declared.fact.Fact as code
use Rattle.bac_network.specs.declared.fault.WorldFault.{WorldFault}
use Rattle.bac_network.specs.declared.running.StraightRun.{StraightRun}
use Rattle.bac_network.specs.Histories.{HasHistory, HasNoReuse, WorldView, as_world, reuses_of}
use Rattle.bac_network.specs.Rules.{reuses_by}
use Rattle.bac_network.specs.Runs.{KeepsSettings}
use Rattle.bac_world.specs.ReusingLogs.{NoneReuses}
use Rattle.bac_network.specs.Steps.{IsFault}
use Rattle.bac_network.specs.Views.{fact_view, log_view}
use Rattle.bac_liveness.specs.StraightRuns.{IsStraight, deliveries, ending_in}
use Rattle.bac_liveness.proofs.StraightRuns.Loops.{is_run}
use Rattle.bac_network.specs.StraightFaults.{DeliveryFails, Fails, StopsShort}
use Rattle.bac_network.specs.Going.{HasGone, HasStopped, IsStuck}
use Rattle.bac_network.specs.Logs.{IsSince, DeliverUnended, Stops, ending_by}
use Rattle.bac_network.specs.StraightRuns.{Goes, GoesAt, WentBy, WentSoFar, limits_of_server}
use Rattle.bac_network.specs.Tells.{LogTells}
use Rattle.bac_network.proofs.Deliveries.{each_strictly, none_yet, one_more, run_of}
use Rattle.bac_network.proofs.Grown.{since_grows, delivered_grows_so}
use Rattle.bac_network.proofs.Strictly.{settings_on}
use Rattle.bac_network.proofs.Tells.{log_tells}

pub gone_none : (ask since first : ℕ) (w : WorldView) → IsSince since ask w.log → HasGone ask since first w w (first - first)
gone_none ask since first w h = record {
  each = none_yet (WorldStepSo w.overtake (reuses_of w)) ask first (as_world w);
  since_is = h;
  settings = (refl, refl, refl);
  passed = refl;
}

pub gone_more : (ask since first number : ℕ) (w u v : WorldView) → first ≤ number → HasGone ask since first w u (number - first)
    → ending_in ask u.log ≡ None → WorldStepSo u.overtake (reuses_of u) (as_world u) (Deliver number) (as_world v) → KeepsSettings u v
    → v.time ≡ u.time → HasGone ask since first w v (number + 1 - first)
gone_more ask since first number w u v le h none step settings passed =
    let did : WorldStepSo w.overtake (reuses_of w) (as_world u) (Deliver number) (as_world v) =
    subst (λ k. WorldStepSo k (reuses_of w) (as_world u) (Deliver number) (as_world v)) h.settings.0
    (subst (λ (l : List Bool). WorldStepSo u.overtake (reuses_by l) (as_world u) (Deliver number) (as_world v)) h.settings.2 step) in
    record {
      each = one_more (WorldStepSo w.overtake (reuses_of w)) ask first number (as_world w) (as_world u) (as_world v) le h.each none did;
      since_is = since_grows since ask u.log v.log (delivered_grows_so w.overtake (reuses_of w) number (as_world u) (as_world v) did) h.since_is;
      settings = settings_on w u v settings h.settings;
      passed = passed ∙ h.passed;
    }

pub stopped_at : (ask since first number : ℕ) (w u : WorldView) → first ≤ number → HasGone ask since first w u (number - first) → Stops ask number (as_world u)
    → HasStopped ask since first w u (number - first)
stopped_at ask since first number w u le h stops =
    let at : number ≡ first + (number - first) = omega (arith, le) in
    record { gone = h; stops = subst (λ k. Stops ask k (as_world u)) at stops }

pub stuck_at : (f : WorldFault) (ask since first number : ℕ) (w u v : WorldView) → first ≤ number → HasGone ask since first w u (number - first)
    → ending_in ask u.log ≡ None → number < length u.copies → IsFault f u.overtake (as_world u) (Deliver number) → v ≡ u
    → IsStuck f ask since first w v
stuck_at f ask since first number w u v le h none left why is =
    let at : number ≡ first + (number - first) = omega (arith, le) in
    subst (λ y. IsStuck f ask since first w y) (sym is) (record {
      count = number - first;
      gone = h;
      unended = none;
      left = subst (λ k. k < length u.copies) at left;
      why = subst (λ k. IsFault f w.overtake (as_world u) (Deliver k)) at (subst (λ k. IsFault f k (as_world u) (Deliver number)) h.settings.0 why);
    })

-- wherever the deliveries stopped, the rest stays
pub stays_so : (ask since first : ℕ) (w u : WorldView) (q : Result StraightRun WorldFault)
    → MatchResult q (λ s. HasStopped ask since first w u s.deliveries × (s.ask ≡ Some ask)) (λ f. IsStuck f ask since first w u)
    → KeepsSettings w u × (u.time ≡ w.time)
stays_so ask since first w u (Ok s) h = (h.0.gone.settings, h.0.gone.passed)
stays_so ask since first w u (Err f) h = (h.gone.settings, h.gone.passed)

-- what the log of a world with a history tells
pub tells : (w : WorldView) → HasHistory w → LogTells w.overtake (as_world w)
tells w h = log_tells h.0 w.overtake h.1.first (as_world w) h.1.fresh h.1.timely h.1.bounded h.1.events h.1.run

module _ (w asked new : WorldView) (h : HasHistory w) (strict : HasNoReuse w) (client server : ℕ) (limits : Limits) (r : Request)
    (asks : IsAsked (as_world w) client server limits r (as_world asked)) (overtake : asked.overtake ≡ w.overtake) (rules : asked.reuses ≡ w.reuses)
    (ask since first : ℕ) (ask_is : ask ≡ length w.notes) (first_is : first ≡ length w.copies) where
  each_of : (count : ℕ) → HasGone ask since first asked new count
      → DeliverUnended w.overtake (length w.notes) count (length w.copies) (as_world asked) (as_world new)
  each_of count g =
      subst (λ k. DeliverUnended k (length w.notes) count (length w.copies) (as_world asked) (as_world new)) overtake
      (subst (λ k. DeliverUnended asked.overtake k count (length w.copies) (as_world asked) (as_world new)) ask_is
      (subst (λ k. DeliverUnended asked.overtake ask count k (as_world asked) (as_world new)) first_is
      (each_strictly asked.overtake (reuses_of asked) ask (subst (λ (l : List Bool). NoneReuses (reuses_by l)) (sym rules) strict) count first (as_world asked)
      (as_world new) g.each)))

  was_straight : (count : ℕ) (ending : Option Ending) → HasStopped ask since first asked new count → ending ≡ ending_in ask new.log
      → IsStraight w.overtake (as_world w) client server limits r ending count (as_world new)
  was_straight count ending g is =
      let stops : Stops (length w.notes) (length w.copies + count) (as_world new) =
      subst (λ k. Stops k (length w.copies + count) (as_world new)) ask_is (subst (λ k. Stops ask (k + count) (as_world new)) first_is g.stops) in
      let same : ending_in (length w.notes) new.log ≡ ending = sym (is ∙ ap (λ k. ending_in k new.log) ask_is) in
      subst (λ e. IsStraight w.overtake (as_world w) client server limits r e count (as_world new)) same
      ((tells w h).straight client server limits r (as_world asked) (as_world new) asks count (each_of count g.gone) stops)

  pub stopped_goes : (count : ℕ) (number : Option ℕ) → HasStopped ask since first asked new count → number ≡ Some ask
      → Goes w.overtake (as_world w) client server limits r (ending_by number new.log) count (as_world new)
  stopped_goes count number g is = inl (was_straight count (ending_by number new.log) g (ap (λ n. ending_by n new.log) is))

  -- a fault of a delivery
  module _ (f : WorldFault) where
    stuck : IsStuck f ask since first asked new → DeliveryFails f w.overtake (as_world w) client server limits r (as_world new)
    stuck s = record {
      count = s.count;
      asked = (as_world asked);
      asks = asks;
      done = run_of w.overtake (length w.notes) s.count (length w.copies) (as_world asked) (as_world new) (each_of s.count s.gone);
      unended = subst (λ k. ending_in k new.log ≡ None) ask_is s.unended;
      left = subst (λ k. k + s.count < length new.copies) first_is s.left;
      why = subst (λ k. IsFault f k (as_world new) (Deliver (length w.copies + s.count))) overtake
          (subst (λ k. IsFault f asked.overtake (as_world new) (Deliver (k + s.count))) first_is s.why);
    }

    pub stuck_fails : IsStuck f ask since first asked new → Fails f w.overtake (as_world w) client server limits r (as_world new)
    stuck_fails s = inr (stuck s)

-- the facts before an accepted ask are the oldest
pub asked_since : (w asked : WorldView) → HasHistory w → (client server : ℕ) (limits : Limits) (r : Request)
    → IsAsked (as_world w) client server limits r (as_world asked) → (since ask : ℕ) → since ≡ length w.log → ask ≡ length w.notes
    → IsSince since ask asked.log
asked_since w asked h client server limits r asks since ask since_is ask_is =
    subst (λ k. IsSince k ask asked.log) (sym since_is) (subst (λ k. IsSince (length w.log) k asked.log) (sym ask_is)
    ((tells w h).since client server limits r (as_world asked) asks))

alone_deliveries : (count number : ℕ) → MakeRequestsAlone (deliveries count number)
alone_deliveries zero number = tt
alone_deliveries (suc count) number = alone_deliveries count (suc number)

module _ (overtake : ℕ) (old : World) (client server : ℕ) (limits : Limits) (r : Request) (new : World) where
  -- it went as far as it goes
  pub goes_went : (ending : Option Ending) (count : ℕ) → Goes overtake old client server limits r ending count new
      → WentBy overtake old client server limits r new
  goes_went ending count (inl s) = inr (count, is_run overtake old client server limits r ending count new s)
  goes_went ending count (inr x) = inl x.refused.same

  -- no node changed its own store or restarted
  pub alone_by : WentBy overtake old client server limits r new → HasRequestsAlone old.log → HasRequestsAlone new.log
  alone_by (inl same) alone = subst (λ (w : World). HasRequestsAlone w.log) (sym same) alone
  alone_by (inr g) alone = alone_after_run overtake (Ask client server limits r ∷ deliveries g.0 (length old.copies)) old new
      (alone_deliveries g.0 (length old.copies)) g.1 alone

  -- so it did where it met a fault
  pub fails_went : (f : WorldFault) → Fails f overtake old client server limits r new → WentBy overtake old client server limits r new
  fails_went f (inl ask) = inl ask.1
  fails_went f (inr d) = inr (d.count, (d.asked, inl d.asks, d.done))

  module _ (node : Node) (at : slice_get old.nodes server ≡ Some node) (same : limits ≡ limits_of_server node) where
    pub went_at : WentBy overtake old client server limits r new → WentSoFar overtake old client server r new
    went_at g = inr (record { node = node; at = at; went = subst (λ l. WentBy overtake old client server l r new) same g })

    pub goes_at : (ending : Option Ending) (count : ℕ) → Goes overtake old client server limits r ending count new
        → GoesAt overtake old client server r ending count new
    goes_at ending count g = record { node = node; at = at; goes = subst (λ l. Goes overtake old client server l r ending count new) same g }

    pub fails_at : (f : WorldFault) → Fails f overtake old client server limits r new → StopsShort f overtake old client server r new
    fails_at f g = inr (record { node = node; at = at; fails = subst (λ l. Fails f overtake old client server l r new) same g })

pub some_none : {A : Type 0} (x : A) → Some x ≡ None → ⊥
some_none x e = absurd cc

-- What results tell.

pub told_why : {T E : Type 0} (P : T → Type 0) (Q : E → Type 0) (e : E) (q : Result T E) → IsErrAnd q (λ y. y ≡ e) → Q e → MatchResult q P Q
told_why P Q e (Ok x) h p = absurd h
told_why P Q e (Err y) h p = subst Q (sym h) p

-- a test's outcome
pub when_true : (P Q : Type 0) (b : Bool) → MatchBool b P Q → b ≡ true → P
when_true P Q true h e = h
when_true P Q false h e = absurd cc

pub when_false : (P Q : Type 0) (b : Bool) → MatchBool b P Q → b ≡ false → Q
when_false P Q true h e = absurd cc
when_false P Q false h e = h

pub either_way : {T E R : Type 0} {P : T → Type 0} {Q : E → Type 0} (q : Result T E) → ((x : T) → P x → R) → ((y : E) → Q y → R) → MatchResult q P Q → R
either_way (Ok x) f g h = f x h
either_way (Err y) f g h = g y h

pub told_as : {T E : Type 0} {P R : T → Type 0} {Q S : E → Type 0} (q : Result T E) → ((x : T) → P x → R x) → ((y : E) → Q y → S y) → MatchResult q P Q
    → MatchResult q R S
told_as (Ok x) f g h = f x h
told_as (Err y) f g h = g y h

-- in code: how many facts, asks and copies there are
pub facts_many : (facts : List code.Fact) (log : List Fact) → log_view facts ≡ log → length facts ≡ length log
facts_many facts log is = sym (length-reverse (map fact_view facts) ∙ length-map facts fact_view) ∙ ap (λ l. length l) is

pub notes_many : (notes : List note.Note) (seen : List Note) → notes_view notes ≡ seen → length notes ≡ length seen
notes_many notes seen is = sym (length-reverse (map note_view notes) ∙ length-map notes note_view) ∙ ap (λ l. length l) is

pub copies_many : (copies : List copy.Copy) (seen : List Copy) → map copy_view copies ≡ seen → length copies ≡ length seen
copies_many copies seen is = sym (length-map copies copy_view) ∙ ap (λ l. length l) is
