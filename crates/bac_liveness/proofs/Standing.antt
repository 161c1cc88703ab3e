-- After every run the two ends of an open transaction that is in time are in step, so one turn answers its ask.
use Rattle.std.proofs.Common.{◌≡◌, ℕ, ◌+◌, ◌-◌, ◌<◌, ◌≤◌, ◌⊎◌, Bool, true, false, List, length, take, Option, Some, None, if◌then◌else◌, refl, sym, ap, subst}
use Rattle.std.proofs.Common.{inl, inr, ◌∙◌, arith, nat_le}
use Rattle.std.proofs.lemmas.Bool.Decides.{nat_tests}
use Rattle.bac_segment.specs.Limits.{N_RETRY}
use Rattle.bac_segment.specs.Window.{Outgoing, Incoming}
use Rattle.bac_protocol.specs.declared.times.TheConstants.{DEADLINE, KEEP}
use Rattle.bac_protocol.specs.Client.{Ask, Phase, ClientTransaction, is_idle}
use Rattle.bac_protocol.specs.Client.Phase.{SegmentedRequest, AwaitConfirmation, SegmentedConf, Idle}
use Rattle.bac_protocol.specs.Server as server
use Rattle.bac_protocol.specs.Server.{State, ServerTransaction, live_entry, is_live}
use Rattle.bac_protocol.specs.Server.State.{Done, SegmentedResponse, Dropped}
use Rattle.bac_protocol.specs.Log.{Fact, StoreModel}
use Rattle.bac_protocol.specs.Own.{lesser_window, StateHas, EntryHas, PhaseHas, TicketHas, IsSentByServer, IsLesser}
use Rattle.bac_protocol.specs.Transaction.{Key, Rules, Copy}
use Rattle.bac_protocol.specs.World.{World, Event, run, start, copies_of, client_now, server_now}
use Rattle.bac_protocol.specs.Claims.{Moments, moments_of, HasRestartedSince, IsBegunSince, IsBounded}
use Rattle.bac_protocol.specs.Pace.{Pace, IsTimely}
use Rattle.bac_protocol.proofs.Paces.{within_most, beyond_least}
use Rattle.bac_protocol.proofs.Headline.{run_kept, start_kept}
use Rattle.bac_protocol.proofs.Nets.{sound_at}
use Rattle.bac_protocol.proofs.Owned.{own_in_run}
use Rattle.bac_protocol.proofs.Sound.{Up, Down, IsUntaken, ClientFits, IsRead, PassFits, CollectsDown, IsUnbegun, SendsDown, StateFits, ServerFits, IsBegunFor}
use Rattle.bac_protocol.proofs.Sound.{Sound}
use Rattle.bac_protocol.proofs.Sound.Up.{Reading, Repeated}
use Rattle.bac_protocol.proofs.Sound.Down.{Unsent, Sent}
use Rattle.bac_liveness.specs.Runs.{HasWindows}
use Rattle.bac_liveness.specs.InStep.{IsAtStart, IsUnderway, AreTogether, StandsSending, StandsWaiting, StandsCollecting, Stands, AreInStep, IsCutFor}
use Rattle.bac_liveness.specs.AfterPast.{AfterAnyPast, AnsweringRunExists, EndsAreInStep}
use Rattle.bac_liveness.proofs.Flow.{reach, PhaseFlows, TakenUp, StateMade, Flow}
use Rattle.bac_liveness.proofs.InRun.{hands_of, sending_whole, sending_behind}
use Rattle.bac_liveness.proofs.Lifted.{flows_in_run}
use Rattle.bac_liveness.proofs.There.{there}
use Rattle.bac_liveness.proofs.AnyTurn.{in_step_is_answered, in_step_runs}

at_start : (actual : ℕ) (out : Outgoing) → out.first ≤ 0 → (IsAtStart out ⊎ IsUnderway actual out) → IsAtStart out
at_start actual out none (inl h) = h
at_start actual out none (inr h) = let a = h.0 in absurd (omega arith)

-- nothing of a reply was taken, so nothing was acknowledged
untaken_start : (W : ℕ) (out : Outgoing) (down : Down) → IsUntaken down → SendsDown W out down → out.first ≤ 0
untaken_start W out Unsent h d = absurd d
untaken_start W out (Sent ps t s) h d = let b = d.1.behind in omega arith

none_taken : (W number : ℕ) (ask : Ask) (out : Outgoing) (all : Bool) (up : Up) (down : Down) (log : List Fact) → IsUnbegun number up down log
    → ClientFits W ask (SegmentedRequest out all) up down → out.first ≤ 0
none_taken W number ask out all (Reading t s) Unsent log h c = let b = sending_behind W ask out all t s Unsent c in let z = h.0 in omega arith
none_taken W number ask out all (Reading t s) (Sent ps a b) log h c = absurd h
none_taken W number ask out all Repeated Unsent log h c = absurd h
none_taken W number ask out all Repeated (Sent ps a b) log h c = absurd h

unread_whole : (W number : ℕ) (ask : Ask) (up : Up) (down : Down) (log : List Fact) → 0 < length ask.pieces → IsUnbegun number up down log → IsRead ask up
    → ask.whole ≡ true
unread_whole W number ask (Reading t s) Unsent log some h (inl whole) = whole
unread_whole W number ask (Reading t s) Unsent log some h (inr all) = let z = h.0 in absurd (omega arith)
unread_whole W number ask (Reading t s) (Sent ps a b) log some h r = absurd h
unread_whole W number ask Repeated Unsent log some h r = absurd h
unread_whole W number ask Repeated (Sent ps a b) log some h r = absurd h

uncollected : (W number : ℕ) (inc : Incoming) (up : Up) (down : Down) (log : List Fact) → IsUnbegun number up down log → CollectsDown inc down → ⊥
uncollected W number inc (Reading t s) Unsent log h c = c
uncollected W number inc (Reading t s) (Sent ps a b) log h c = h
uncollected W number inc Repeated Unsent log h c = h
uncollected W number inc Repeated (Sent ps a b) log h c = h

first_pass : (ask : Ask) (repeats t s : ℕ) → ask.whole ≡ false → PassFits ask repeats (Reading t s) → repeats ≡ N_RETRY
first_pass ask repeats t s whole (inl is) = absurd (let z = sym whole ∙ is in cc)
first_pass ask repeats t s whole (inr is) = is

module _ (W : ℕ) (x : Rules) (bound : IsBounded W x) (key : Key) (some : 0 < lesser_window x key) (times : Moments) (most asks number : ℕ) (t : ClientTransaction)
    (o : Option ServerTransaction)
    (copies : List Copy) (log : List Fact) (flow : Flow W x key (hands_of times) t.ask t.repeats t.phase o copies) (up : Up) (down : Down)
    (s : Sound W most key times asks number t o copies log up down) (stays : o ≡ None → HasRestartedSince times → ⊥)
    (young : times.client.shows - t.ask.first ≤ DEADLINE)
    (entry_window : EntryHas (IsSentByServer x key) (IsLesser x key) o) (ticket_window : TicketHas (IsLesser x key) (Some t)) where
  abbrev now : ℕ
  now = times.server.shows

  abbrev L : ℕ
  L = lesser_window x key

  abbrev ask : Ask
  ask = t.ask

  client_at : (ph : Phase) → t.phase ≡ ph → ClientFits W ask ph up down
  client_at ph is = subst (λ (y : Phase). ClientFits W ask y up down) is s.client

  flows_at : (ph : Phase) → t.phase ≡ ph → PhaseFlows L ask t.repeats ph
  flows_at ph is = subst (λ (y : Phase). PhaseFlows L ask t.repeats y) is flow.client

  -- what was begun for the ask is live
  alive : is_idle t.phase ≡ false → (e : ServerTransaction) → IsBegunSince times e.begin → is_live now e ≡ true
  alive going e begun = go (nat_le (now - e.begin) KEEP) refl
    where
      go : (z : Bool) → nat_le (now - e.begin) KEEP ≡ z → nat_le (now - e.begin) KEEP ≡ true
      go true is = is
      go false is =
          let dead : e.begin + KEEP < now = grind (arith, nat_tests) in
          let late = beyond_least times.pace s.clock.timely KEEP begun.began e.begin times.now times.server s.clock.server begun.since dead in
          let early = within_most times.pace s.clock.timely DEADLINE times.made t.ask.first times.now times.client s.clock.client
          (s.clock.counts (s.lives going)).since (omega arith) in
          let after = begun.after in
          let keeps = s.clock.timely.keeps in
          absurd (omega arith)

  -- no entry is live: none was begun for the ask
  unbegun : is_idle t.phase ≡ false → live_entry now o ≡ None → IsUnbegun number up down log
  unbegun going none = go o refl none s.server
    where
      go : (y : Option ServerTransaction) → o ≡ y → live_entry now y ≡ None → ServerFits W times number ask y up down log → IsUnbegun number up down log
      go None is dead (inl h) = h
      go None is dead (inr lost) = absurd (stays is lost.before)
      go (Some e) is dead (inl past) = past.unbegun
      go (Some e) is dead (inr begun) =
          let live = alive going e begun.begun in
          absurd (let z = ap (λ b. if b then Some e else None) (sym live) ∙ dead in cc)

  stands_alone : live_entry now o ≡ None → (ph : Phase) → t.phase ≡ ph → Stands L ask ph None
  stands_alone none (SegmentedRequest out all) is =
      let c = client_at (SegmentedRequest out all) is in
      let f = flows_at (SegmentedRequest out all) is in (
        sending_whole W ask out all up down c,
        f.0,
        at_start L out (none_taken W number ask out all up down log (unbegun (ap is_idle is) none) c) ((f.0).window),
      )
  stands_alone none AwaitConfirmation is =
      unread_whole W number ask up down log flow.some (unbegun (ap is_idle is) none) ((client_at AwaitConfirmation is).0)
  stands_alone none (SegmentedConf inc) is = uncollected W number inc up down log (unbegun (ap is_idle is) none) (client_at (SegmentedConf inc) is)
  stands_alone none Idle is = tt

  module _ (e : ServerTransaction) (at : o ≡ Some e) (begun : IsBegunFor W times number ask e up down log) (live : is_live now e ≡ true) where
    state_at : (st : State) → e.state ≡ st → StateFits W number ask st up down log
    state_at st is = subst (λ (y : State). StateFits W number ask y up down log) is begun.state

    made_at : (st : State) → e.state ≡ st → StateMade x key st
    made_at st is = subst (λ (y : State). StateMade x key y) is ((flow.made e at live).state)

    window_at : (inc : Incoming) (since : ℕ) → e.state ≡ State.SegmentedRequest inc since → inc.window ≡ L
    window_at inc since is = subst (λ (st : State). StateHas (IsSentByServer x key) (IsLesser x key) st) is
        (subst (λ (y : Option ServerTransaction). EntryHas (IsSentByServer x key) (IsLesser x key) y) at entry_window)

    -- a reassembly
    receives : (out : Outgoing) (all : Bool) → t.phase ≡ SegmentedRequest out all → (inc : Incoming) (since : ℕ)
        → e.state ≡ State.SegmentedRequest inc since → (u : Up) (v : Down) → up ≡ u → down ≡ v
        → StateFits W number ask (State.SegmentedRequest inc since) u v log → AreTogether L ask.pieces out inc
    receives out all is inc since st (Reading a b) Unsent up_is none fits =
        let c = client_at (SegmentedRequest out all) is in
        let front = fits.front in
        let taken = front.taken_is in
        let first = sending_behind W ask out all a b down (subst (λ (y : Up). ClientFits W ask (SegmentedRequest out all) y down) up_is c) in
        let full = first_pass ask t.repeats a b fits.in_pieces (subst (λ (y : Up). PassFits ask t.repeats y) up_is s.passes) in
        let reached = subst (λ (y : State). TakenUp (length ask.pieces) (reach out) y) st (flow.taken_up out all is full e at live) in
        let left = front.left in
        record {
          sender = (flows_at (SegmentedRequest out all) is).0;
          window = window_at inc since st;
          parts = front.parts_are ∙ ap (λ (k : ℕ). take k ask.pieces) (sym taken);
          acknowledged = omega arith;
          sent = reached;
          left = omega arith;
        }
    receives out all is inc since st (Reading a b) (Sent ps m k) up_is none fits = absurd fits
    receives out all is inc since st Repeated Unsent up_is none fits = absurd fits
    receives out all is inc since st Repeated (Sent ps m k) up_is none fits = absurd fits

    -- a kept reply: all segments were sent
    has_sent : (out : Outgoing) (all : Bool) → t.phase ≡ SegmentedRequest out all
        → (repeats_full : t.repeats ≡ N_RETRY → length ask.pieces ≤ reach out) → all ≡ true
    has_sent out all is reached = go ((flows_at (SegmentedRequest out all) is).1)
      where
        go : ((all ≡ true) ⊎ ((t.repeats ≡ N_RETRY) × (reach out < length ask.pieces))) → all ≡ true
        go (inl h) = h
        go (inr h) = let r = reached h.0 in let l = h.1 in absurd (omega arith)

    sends_beside : (out : Outgoing) (all : Bool) → t.phase ≡ SegmentedRequest out all → (st : State) → e.state ≡ st → StandsSending L ask.pieces out all st
    sends_beside out all is (State.SegmentedRequest inc since) st =
        receives out all is inc since st up down refl refl (state_at (State.SegmentedRequest inc since) st)
    sends_beside out all is (Done kept) st =
        has_sent out all is (λ full. subst (λ (y : State). TakenUp (length ask.pieces) (reach out) y) st (flow.taken_up out all is full e at live))
    sends_beside out all is (SegmentedResponse reply transfer since) st = (
      has_sent out all is (λ full. subst (λ (y : State). TakenUp (length ask.pieces) (reach out) y) st (flow.taken_up out all is full e at live)),
      at_start L reply (untaken_start W reply down ((client_at (SegmentedRequest out all) is).untaken)
          ((state_at (SegmentedResponse reply transfer since) st).sends)) (((made_at (SegmentedResponse reply transfer since) st).0).window),
    )
    sends_beside out all is Dropped st = tt

    unwaited : (inc : Incoming) (since : ℕ) (u : Up) (v : Down) → StateFits W number ask (State.SegmentedRequest inc since) u v log → IsRead ask u → ⊥
    unwaited inc since (Reading a b) Unsent fits (inl whole) = absurd (let z = sym (fits.in_pieces) ∙ whole in cc)
    unwaited inc since (Reading a b) Unsent fits (inr all) = let left = (fits.front).left in absurd (omega arith)
    unwaited inc since (Reading a b) (Sent ps m k) fits r = fits
    unwaited inc since Repeated Unsent fits r = fits
    unwaited inc since Repeated (Sent ps m k) fits r = fits

    waits_beside : t.phase ≡ AwaitConfirmation → (st : State) → e.state ≡ st → StandsWaiting st
    waits_beside is (State.SegmentedRequest inc since) st =
        unwaited inc since up down (state_at (State.SegmentedRequest inc since) st) ((client_at AwaitConfirmation is).0)
    waits_beside is (Done kept) st = tt
    waits_beside is (SegmentedResponse reply transfer since) st =
        at_start L reply (untaken_start W reply down ((client_at AwaitConfirmation is).1) ((state_at (SegmentedResponse reply transfer since) st).sends))
        (((made_at (SegmentedResponse reply transfer since) st).0).window)
    waits_beside is Dropped st = tt

    conf_window : (inc : Incoming) → t.phase ≡ SegmentedConf inc → inc.window ≡ L
    conf_window inc is = subst (λ (ph : Phase). PhaseHas (IsLesser x key) ph) is ticket_window

    collected : (inc : Incoming) → t.phase ≡ SegmentedConf inc → (reply : Outgoing) (transfer : server.Transfer) (since : ℕ)
        → e.state ≡ SegmentedResponse reply transfer since → (v : Down) → CollectsDown inc v → SendsDown W reply v → AreTogether L reply.pieces reply inc
    collected inc is reply transfer since st Unsent c d' = absurd c
    collected inc is reply transfer since st (Sent ps a b) c d' =
        let taken = c.taken_is in
        let left = c.left in
        let behind = d'.1.behind in
        let len : length reply.pieces ≡ length ps = ap length d'.0 in
        let m = (made_at (SegmentedResponse reply transfer since) st).0 in
        record {
          sender = record { pieces_are = refl; left = omega arith; window = m.window };
          window = conf_window inc is;
          parts = c.parts_are ∙ (λ i. take (sym taken i) (sym d'.0 i));
          acknowledged = omega arith;
          sent = flow.taken_down inc is e at live reply transfer since st;
          left = omega arith;
        }

    no_pass : (inc : Incoming) (st : State) (u : Up) (v : Down) → CollectsDown inc v → StateFits W number ask st u v log
        → ((reply : Outgoing) (transfer : server.Transfer) (since : ℕ) → st ≡ SegmentedResponse reply transfer since → StandsCollecting L inc st)
        → StandsCollecting L inc st
    no_pass inc (SegmentedResponse reply transfer since) u v c fits goes = goes reply transfer since refl
    no_pass inc (State.SegmentedRequest i since) (Reading a b) Unsent c fits goes = absurd c
    no_pass inc (State.SegmentedRequest i since) (Reading a b) (Sent ps m k) c fits goes = absurd fits
    no_pass inc (State.SegmentedRequest i since) Repeated Unsent c fits goes = absurd c
    no_pass inc (State.SegmentedRequest i since) Repeated (Sent ps m k) c fits goes = absurd fits
    no_pass inc (Done kept) u Unsent c fits goes = absurd c
    no_pass inc (Done kept) u (Sent ps m k) c fits goes = absurd fits
    no_pass inc Dropped (Reading a b) Unsent c fits goes = absurd c
    no_pass inc Dropped (Reading a b) (Sent ps m k) c fits goes = absurd fits
    no_pass inc Dropped Repeated Unsent c fits goes = absurd c
    no_pass inc Dropped Repeated (Sent ps m k) c fits goes = absurd fits

    collects_beside : (inc : Incoming) → t.phase ≡ SegmentedConf inc → (st : State) → e.state ≡ st → StandsCollecting L inc st
    collects_beside inc is st state_is =
        let c = client_at (SegmentedConf inc) is in
        no_pass inc st up down c (state_at st state_is)
        (λ reply transfer since same. subst (λ (y : State). StandsCollecting L inc y) (sym same)
        (collected inc is reply transfer since (state_is ∙ same) down c ((state_at (SegmentedResponse reply transfer since) (state_is ∙ same)).sends)))

    stands_beside : (ph : Phase) → t.phase ≡ ph → Stands L ask ph (Some e)
    stands_beside (SegmentedRequest out all) is = (
      sending_whole W ask out all up down (client_at (SegmentedRequest out all) is),
      (flows_at (SegmentedRequest out all) is).0,
      sends_beside out all is e.state refl,
    )
    stands_beside AwaitConfirmation is = waits_beside is e.state refl
    stands_beside (SegmentedConf inc) is = collects_beside inc is e.state refl
    stands_beside Idle is = tt

    cut_at : (st : State) → StateMade x key st → IsCutFor x key st
    cut_at (SegmentedResponse reply transfer since) h = h.1
    cut_at (State.SegmentedRequest inc since) h = tt
    cut_at (Done kept) h = tt
    cut_at Dropped h = tt

    in_step_beside : AreInStep x key ask t.phase (Some e)
    in_step_beside =
        let m = flow.made e at live in
        record {
          some = flow.some;
          entry = record { choice = begun.choice; limits = m.limits; request = m.request; cut = cut_at e.state m.state };
          stand = stands_beside t.phase refl;
        }

  live_begun_for : (e : ServerTransaction) → o ≡ Some e → is_live now e ≡ true → IsBegunFor W times number ask e up down log
  live_begun_for e at live = go (subst (λ (y : Option ServerTransaction). ServerFits W times number ask y up down log) at s.server)
    where
      go : ServerFits W times number ask (Some e) up down log → IsBegunFor W times number ask e up down log
      go (inl past) = let d = past.dead in absurd (grind (arith, nat_tests))
      go (inr begun) = begun

  pub in_step : (y : Option ServerTransaction) → live_entry now o ≡ y → AreInStep x key ask t.phase y
  in_step None none = record { some = flow.some; entry = tt; stand = stands_alone none t.phase refl }
  in_step (Some e) is =
      let f = there now o e is in
      in_step_beside e f.at (live_begun_for e f.at f.live) f.live

pub stands_in_step : (S : Type 0) (model : StoreModel S) (opening : ℕ → S) (W : ℕ) (x : Rules) → IsBounded W x → (pace : Pace) → IsTimely pace
    → (clocks : ℕ → ℕ)
    → (events : List Event) → (let w = run S model x events (start S pace clocks opening) in (key : Key) → HasWindows x key → (t : ClientTransaction)
    → w.net.tickets key ≡ Some t → (w.net.entries key ≡ None → HasRestartedSince (moments_of w.net key) → ⊥) → client_now w.net key - t.ask.first ≤ DEADLINE
    → AreInStep x key t.ask t.phase (live_entry (server_now w.net key) (w.net.entries key)))
stands_in_step S model opening W x bound pace timely clocks events key windows t at stays young =
    let w = run S model x events (start S pace clocks opening) in
    let s = run_kept S model opening W x bound events (start S pace clocks opening) (start_kept S model opening W x bound pace timely clocks) in
    let a = windows.client in
    let b = windows.server in
    let some : 0 < lesser_window x key = omega arith in
    let flow = flows_in_run W x bound key some S model opening pace timely clocks events t at in
    let own = own_in_run x S model pace clocks opening events in
    let f = sound_at W w.net key (Some t) at s.stands.net in
    in_step W x bound key some (moments_of w.net key) (w.net.pieces key) w.net.asks (w.net.numbers key) t (w.net.entries key)
    (copies_of key w.net.posts) w.net.log flow f.0 f.1 f.2
    stays young (own.entries key) (subst (λ (y : Option ClientTransaction). TicketHas (IsLesser x key) y) at (own.tickets key))
    (live_entry (server_now w.net key) (w.net.entries key)) refl

pub ends_in_step : (S : Type 0) (model : StoreModel S) (opening : ℕ → S) (W : ℕ) (x : Rules) → IsBounded W x → (pace : Pace) → IsTimely pace → (clocks : ℕ → ℕ)
    → (events : List Event) → EndsAreInStep S x (run S model x events (start S pace clocks opening))
ends_in_step S model opening W x bound pace timely clocks events key windows t at stays young =
    stands_in_step S model opening W x bound pace timely clocks events key windows t at (λ none. stays) young

module _ (S : Type 0) (model : StoreModel S) (opening : ℕ → S) (W : ℕ) (x : Rules) (bound : IsBounded W x) (pace : Pace) (timely : IsTimely pace)
    (clocks : ℕ → ℕ) (events : List Event) where
  abbrev reached : World S
  reached = run S model x events (start S pace clocks opening)

  pub after_any_past : AfterAnyPast S model x reached
  after_any_past key t at stays good p can as_client as_server turn count v straight stops =
      in_step_is_answered S model opening W x bound pace timely clocks events key t at
      (ends_in_step S model opening W x bound pace timely clocks events key (record { client = good.client; server = good.server }) t at stays can.in_time)
      good p can as_client as_server turn count v straight stops

  pub answering_run : AnsweringRunExists S model x reached
  answering_run key t at stays good p can =
      in_step_runs S model opening W x bound reached (run_kept S model opening W x bound events (start S pace clocks opening)
      (start_kept S model opening W x bound pace timely clocks))
      key t at good p can (ends_in_step S model opening W x bound pace timely clocks events key
      (record { client = good.client; server = good.server }) t at stays can.in_time)
