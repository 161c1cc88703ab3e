-- Clients that start one after another find that all is over that was sent from their ports before.
use Rattle.std.proofs.Common.{◌≡◌, ℕ, ◌+◌, ◌-◌, ◌*◌, ◌/◌, ◌<◌, ◌≤◌, Bool, true, false, List, [], ◌∷◌, map, Option, Some, IfSome, if◌then◌else◌, nat_eq, nat_le, refl, sym, ap, subst, ◌∙◌, inl, inr, arith}
use Rattle.std.proofs.lemmas.Bool.Decides.{nat_tests}
use Rattle.std.proofs.Math.Nat.{add-mul, div-mul-le_self, div-one, lt-div-mul-add, lt_of_mul-lt-mul_right, mul-add, mul-le-mul_left, mul-le-mul_right, mul_assoc, mul_comm}
use Rattle.bac_apdu.specs.Apdu.{Limits}
use Rattle.bac_service.specs.Values.{Request}
use Rattle.bac_pairs.specs.Pairs.{port_at, share_end}
use Rattle.bac_store.specs.Stores.{Store}
use Rattle.bac_pairs.proofs.Ports.{comes_late}
use Rattle.bac_protocol.specs.Pace.{IsTimely, Pace, least, most, period}
use Rattle.bac_protocol.specs.declared.times.TheConstants.{DEADLINE, KEEP}
use Rattle.bac_world.specs.ReusingLogs.{Reuses}
use Rattle.bac_world.specs.World.{Life, is_quiet, with_ask}
use Rattle.bac_plant.specs.Anew.{PlantRunIn, Stretch}
use Rattle.bac_plant.specs.Clients.{AreDone, BootsGoOn, Client, DaysAreLong, Deed, DeedsAreCalls, DeedsAreRight, DeedsAreSteps, IsAskedEarly, KeepTime, PausesAreShort}
use Rattle.bac_plant.specs.Clients.{AsksSo, Host, Hosts, IsAsDone, IsDone, IsKnown, IsOneOf, MayAsk, Port, QuietIsKnown, StartsThere, day_in, elsewhere}
use Rattle.bac_plant.specs.Clients.{move_of, port_taken, with_client, with_clients, with_host}
use Rattle.bac_plant.specs.Clients.Deed.{Does, StartsClient}
use Rattle.bac_plant.specs.Composed.{AreCalled}
use Rattle.bac_plant.specs.Moves.{AreCalledIn, IsAsCalledIn, IsCalledIn, IsReachedIn, MayStart, Move, MoveRun, Moves}
use Rattle.bac_plant.specs.Moves.Move.{Goes, StartsAnew}
use Rattle.bac_plant.specs.Pauses.{asks}
use Rattle.bac_plant.specs.Plants.{Plant, world_of}
use Rattle.bac_plant.specs.Steps.{PlantStep, Step}
use Rattle.bac_plant.specs.Steps.Step.{Begins, BeginsAway, Changes, FailsToReceive, Holds, Passes, Restarts, SendsHeld, Starts, StartsAgain, Takes}
use Rattle.bac_plant.proofs.Anew.{once_anew, once_ever_anew}
use Rattle.bac_plant.proofs.Composed.{moved}
use Rattle.bac_plant.proofs.Pauses.{GoesOn, asks_not, run_on, same_time, starts_not, starts_on, step_on, then_on}

-- ---- tests

le_of : (a b : ℕ) → nat_le a b ≡ true → a ≤ b
le_of a b e = grind (arith, nat_tests)

above_of : (a b : ℕ) → nat_le a b ≡ false → b < a
above_of a b e = grind (arith, nat_tests)

le_so : (a b : ℕ) → a ≤ b → nat_le a b ≡ true
le_so a b l = grind (arith, nat_tests)

same_of : (i j : ℕ) → nat_eq i j ≡ true → j ≡ i
same_of i j e = grind (arith, nat_tests)

-- ---- times

-- what is over in 165,080 ms, by clocks as fast or slow as any
enough : (g s d u v w h l : ℕ) → 0 < g → s + d ≡ 1000000 → u * s ≤ 1000000 * (60000 * g + (g - 1)) → 1000000 * (60000 * g + (g - 1)) < u * s + s
    → v * (1000000 + d) ≤ 1000000 * (65000 * g + 1) - 1 → w * s ≤ 1000000 * (65000 * g + (g - 1)) → h * s ≤ 1000000 * (30000 * g + (g - 1)) → u + l ≤ v
    → h + (u + 1 + l + w + l) ≤ 165080 * g
enough g s d u v w h l some whole low high keep kept asked keeps =
    let split : u * (s + d) ≡ u * s + u * d = mul-add u s d in
    let same : u * (s + d) ≡ u * 1000000 = ap (λ (n : ℕ). u * n) whole in
    let other : v * (1000000 + d) ≡ v * 1000000 + v * d = mul-add v 1000000 d in
    let more : u * d ≤ v * d = mul-le-mul_right d (omega (arith, keeps)) in
    let both : u + v ≤ 125001 * g = omega (arith, some, split, same, low, other, keep, more) in
    let one : v ≤ 65000 * g = omega (arith, other, keep) in
    let left : 12 * w * s ≡ 12 * (w * s) = mul_assoc 12 w s in
    let right : (13 * u + 13) * s ≡ 13 * u * s + 13 * s = add-mul (13 * u) 13 s in
    let inner : 13 * u * s ≡ 13 * (u * s) = mul_assoc 13 u s in
    let less : 12 * w < 13 * u + 13 = lt_of_mul-lt-mul_right s (omega (arith, some, left, right, inner, kept, high)) in
    let half_left : 800 * h * s ≡ 800 * (h * s) = mul_assoc 800 h s in
    let half_right : (401 * u + 401) * s ≡ 401 * u * s + 401 * s = add-mul (401 * u) 401 s in
    let half_inner : 401 * u * s ≡ 401 * (u * s) = mul_assoc 401 u s in
    let half : 800 * h < 401 * u + 401 = lt_of_mul-lt-mul_right s (omega (arith, some, half_left, half_right, half_inner, asked, high)) in
    omega (arith, some, both, one, less, half, keeps)

whole_millis : (g ms t : ℕ) → t ≡ 1 → g * t * (ms / t) ≡ ms * g
whole_millis g ms t e =
    let at_one : g * t * (ms / t) ≡ g * 1 * (ms / 1) = ap (λ (x : ℕ). g * x * (ms / x)) e in
    let times : g * 1 * (ms / 1) ≡ g * 1 * ms = ap (λ (x : ℕ). g * 1 * x) (div-one ms) in
    let unit : g * 1 * ms ≡ g * ms = ap (λ (x : ℕ). x * ms) (omega arith) in
    at_one ∙ times ∙ unit ∙ mul_comm g ms

pub pauses_are_short : PausesAreShort
unfolding most least
pauses_are_short p ticks t =
    let s = 1000000 - p.drift in
    let slow = t.slow in
    let period_is : period p ≡ p.grain = ap (λ (x : ℕ). p.grain * x) ticks ∙ omega arith in
    let parts_is : (ms : ℕ) → period p * (ms / p.tick) + (period p - 1) ≡ ms * p.grain + (p.grain - 1) = λ ms.
    let first = whole_millis p.grain ms p.tick ticks in omega (arith, first, period_is) in
    let asked : ℕ = 1000000 * (period p * (60000 / p.tick) + (period p - 1)) in
    let soon : ℕ = 1000000 * (period p * (30000 / p.tick) + (period p - 1)) in
    let kept : ℕ = 1000000 * (period p * (65000 / p.tick) + (period p - 1)) in
    let keeps : ℕ = 1000000 * (period p * (65000 / p.tick) + 1) - 1 in
    let asked_is = parts_is 60000 in
    let kept_is = parts_is 65000 in
    let soon_is = parts_is 30000 in
    let keeps_is = whole_millis p.grain 65000 p.tick ticks in
    let low : asked / s * s ≤ asked = div-mul-le_self asked s in
    let high : asked < asked / s * s + s = lt-div-mul-add (omega (arith, slow)) in
    let keep : keeps / (1000000 + p.drift) * (1000000 + p.drift) ≤ keeps = div-mul-le_self keeps (1000000 + p.drift) in
    let keep_most : kept / s * s ≤ kept = div-mul-le_self kept s in
    let soon_most : soon / s * s ≤ soon = div-mul-le_self soon s in
    enough p.grain s p.drift (most p DEADLINE) (least p KEEP) (most p KEEP) (most p 30000) p.life t.some (omega (arith, slow))
    (omega (arith, low, asked_is)) (omega (arith, high, asked_is)) (omega (arith, keep, keeps_is)) (omega (arith, keep_most, kept_is)) (omega (arith, soon_most, soon_is)) t.keeps

pub days_are_long : DaysAreLong
days_are_long grain day keeps one other far = before (nat_le one other) refl
  where
    after : one ≤ other → (b : Bool) → nat_le other (one + 166000 * grain) ≡ b → one + 165088 * grain ≤ other
    after l false e = let beyond = above_of other (one + 166000 * grain) e in omega (arith, beyond)
    after l true e =
        let gains = keeps.gains one other l (le_of other (one + 166000 * grain) e) in
        let apart : grain * 165888000 ≤ grain * (day other - day one) = mul-le-mul_left grain (omega (arith, far)) in
        omega (arith, l, gains, apart)

    before : (b : Bool) → nat_le one other ≡ b → one + 165088 * grain ≤ other
    before true e = after (le_of one other e) (nat_le other (one + 166000 * grain)) refl
    before false e =
        let back = above_of one other e in
        let less = keeps.on other one (omega (arith, back)) in
        absurd (omega (arith, far, less))

-- ---- what is known of the ports

module _ (hosts : Hosts) (pace : Pace) (timely : IsTimely pace) (keep : KeepTime hosts pace) where
  still : (clients : List Client) (old new : Plant) → GoesOn old new → (i : ℕ) (at : Port) → (new.lives i).sends_until ≤ (old.lives i).sends_until
      → AsksSo hosts pace clients old i at → AsksSo hosts pace clients new i at
  still clients old new goes i at less (inl over) = inl (let on = goes.on in omega (arith, less, over, on))
  still clients old new goes i at less (inr a) =
      inr (record {
        client = a.client;
        one_of = a.one_of;
        port = a.port;
        moment = a.moment;
        in_share = a.in_share;
        until = let until = a.until in omega (arith, less, until);
      })

  known_on : (clients : List Client) (old new : Plant) → GoesOn old new → IsKnown hosts pace clients old
      → ((i : ℕ) (at : Port) → hosts.port_of i ≡ Some at → AsksSo hosts pace clients new i at) → IsKnown hosts pace clients new
  known_on clients old new goes known asked = record { paced = goes.pace ∙ known.paced; asked = asked }

  -- a move in which no station asks another one
  calm : (clients : List Client) (old new : Plant) → GoesOn old new → ((i : ℕ) → (new.lives i).sends_until ≤ (old.lives i).sends_until)
      → IsKnown hosts pace clients old → IsKnown hosts pace clients new
  calm clients old new goes less known = known_on clients old new goes known (λ i at is. still clients old new goes i at (less i) (known.asked i at is))

  calm_step : (overtake : ℕ) (clients : List Client) (old : Plant) (step : Step) (new : Plant) → PlantStep overtake old step new
      → ((i : ℕ) → asks i step ≡ false) → IsKnown hosts pace clients old → IsKnown hosts pace clients new
  calm_step overtake clients old step new s none known =
      calm clients old new (step_on overtake old step new s) (λ i. asks_not i overtake old step new s (none i)) known

  -- an ask
  asked_early : (clients : List Client) (old new : Plant) (i j : ℕ) → old.time.pace ≡ pace → new.lives ≡ with_ask old.time old.lives j → nat_eq i j ≡ true
      → (at : Port) → IsAskedEarly hosts clients old at → AsksSo hosts pace clients new i at
  asked_early clients old new i j paced lives e at a =
      let is : (new.lives i).sends_until ≡ (with_ask old.time old.lives j i).sends_until = ap (λ (l : ℕ → Life). (l i).sends_until) lives in
      let here : (with_ask old.time old.lives j i).sends_until ≡ old.time.now + most old.time.pace DEADLINE + 1 =
      ap (λ (b : Bool). (if b then record { active = true; sends_until = old.time.now + most old.time.pace DEADLINE + 1 } else old.lives i).sends_until) e in
      let pace_is : most old.time.pace DEADLINE ≡ most pace DEADLINE = ap (λ (q : Pace). most q DEADLINE) paced in
      let asking_is : most old.time.pace 30000 ≡ most pace 30000 = ap (λ (q : Pace). most q 30000) paced in
      let soon = a.early.soon in
      inr (record {
        client = a.client;
        one_of = a.one_of;
        port = a.port;
        moment = a.early.moment;
        in_share = a.early.in_share;
        until = omega (arith, is, here, pace_is, asking_is, soon);
      })

  asks_on : (overtake : ℕ) (clients : List Client) (old new : Plant) (j server : ℕ) (limits : Limits) (r : Request)
      → PlantStep overtake old (Begins j server limits r) new → IfSome (hosts.port_of j) (λ at. IsAskedEarly hosts clients old at)
      → IsKnown hosts pace clients old → IsKnown hosts pace clients new
  asks_on overtake clients old new j server limits r s may known = known_on clients old new goes known asked
    where
      goes : GoesOn old new
      goes = step_on overtake old (Begins j server limits r) new s

      asked : (i : ℕ) (at : Port) → hosts.port_of i ≡ Some at → AsksSo hosts pace clients new i at
      asked i at is = go (nat_eq i j) refl
        where
          go : (b : Bool) → nat_eq i j ≡ b → AsksSo hosts pace clients new i at
          go false e = still clients old new goes i at (asks_not i overtake old (Begins j server limits r) new s e) (known.asked i at is)
          go true e =
              let there : hosts.port_of j ≡ Some at = ap (λ (k : ℕ). hosts.port_of k) (same_of i j e) ∙ is in
              let early : IsAskedEarly hosts clients old at =
              subst (λ (o : Option Port). IfSome o (λ x. IsAskedEarly hosts clients old x)) there may in
              asked_early clients old new i j known.paced (ap (λ (p : Plant). p.lives) s.is) e at early

  step_known : (overtake : ℕ) (clients : List Client) (old : Plant) (step : Step) (new : Plant) → PlantStep overtake old step new
      → MayAsk hosts clients old (Goes step) → IsKnown hosts pace clients old → IsKnown hosts pace clients new
  step_known overtake clients old (Begins j server limits r) new s may known = asks_on overtake clients old new j server limits r s may known
  step_known overtake clients old (Passes by own) new s may known = calm_step overtake clients old (Passes by own) new s (λ i. refl) known
  step_known overtake clients old (Takes j source turn) new s may known = calm_step overtake clients old (Takes j source turn) new s (λ i. refl) known
  step_known overtake clients old (FailsToReceive j) new s may known = calm_step overtake clients old (FailsToReceive j) new s (λ i. refl) known
  step_known overtake clients old (BeginsAway j peer limits r) new s may known =
      calm_step overtake clients old (BeginsAway j peer limits r) new s (λ i. refl) known
  step_known overtake clients old (Changes j c) new s may known = calm_step overtake clients old (Changes j c) new s (λ i. refl) known
  step_known overtake clients old (Restarts j exact store) new s may known = calm_step overtake clients old (Restarts j exact store) new s (λ i. refl) known
  step_known overtake clients old (Starts j exact) new s may known = calm_step overtake clients old (Starts j exact) new s (λ i. refl) known
  step_known overtake clients old (StartsAgain j exact first_id store) new s may known =
      calm_step overtake clients old (StartsAgain j exact first_id store) new s (λ i. refl) known
  step_known overtake clients old (Holds j source turn) new s may known = calm_step overtake clients old (Holds j source turn) new s (λ i. refl) known
  step_known overtake clients old (SendsHeld j turns) new s may known = calm_step overtake clients old (SendsHeld j turns) new s (λ i. refl) known

  move_known : (overtake : ℕ) (clients : List Client) (old : Plant) (move : Move) (new : Plant) → Moves overtake old move new
      → MayAsk hosts clients old move → IsKnown hosts pace clients old → IsKnown hosts pace clients new
  move_known overtake clients old (Goes step) new s may known = step_known overtake clients old step new s may known
  move_known overtake clients old (StartsAnew anew) new s may known =
      calm clients old new (starts_on old anew new s) (λ i. starts_not i old anew new s) known

  -- ---- a client that starts

  quiet_when : (p : Plant) (i : ℕ) → p.time.pace ≡ pace → (p.lives i).sends_until + pace.life + most pace KEEP + pace.life ≤ p.time.now
      → is_quiet (world_of p) i ≡ true
  quiet_when p i paced over =
      le_so ((p.lives i).sends_until + p.time.pace.life + most p.time.pace KEEP + p.time.pace.life) p.time.now
      (subst (λ (q : Pace). (p.lives i).sends_until + q.life + most q KEEP + q.life ≤ p.time.now) (sym paced) over)

  quiet_at : (p : Plant) (i moment : ℕ) → p.time.pace ≡ pace → (p.lives i).sends_until ≤ moment + most pace 30000 + most pace DEADLINE + 1
      → moment + 165088 * pace.grain ≤ p.time.now → is_quiet (world_of p) i ≡ true
  quiet_at p i moment paced until long =
      let fits = pauses_are_short pace keep.ticks timely in quiet_when p i paced (omega (arith, fits, until, long))

  quiet_after : (clients : List Client) (p : Plant) (station : ℕ) (c : Client) → IsKnown hosts pace clients p → StartsThere hosts clients p station c
      → AsksSo hosts pace clients p station (port_taken hosts c) → is_quiet (world_of p) station ≡ true
  quiet_after clients p station c known s (inl over) = quiet_when p station known.paced over
  quiet_after clients p station c known s (inr a) =
      let host : c.host ≡ a.client.host = ap (λ (at : Port). at.host) a.port in
      let here = hosts.host a.client.host in
      let day_is : day_in hosts c.host p ≡ day_in hosts a.client.host p = ap (λ (h : ℕ). day_in hosts h p) host in
      let port : port_at here.key c.took ≡ port_at here.key a.client.took =
      ap (λ (h : ℕ). port_at (hosts.host h).key c.took) (sym host) ∙ ap (λ (at : Port). at.number) a.port in
      let past = s.past in
      let apart : share_end a.client.took + 165888000 ≤ c.took =
      comes_late here.key a.client.took c.took (s.in_turn a.client a.one_of (sym a.port)) (sym port) in
      let in_share = a.in_share in
      let long : a.moment + 165088 * pace.grain ≤ p.time.now =
      days_are_long pace.grain here.day (keep.days a.client.host) a.moment p.time.now (omega (arith, apart, past, day_is, in_share)) in
      quiet_at p station a.moment known.paced a.until long

  more_clients : (clients : List Client) (c : Client) (p : Plant) (i : ℕ) (at : Port) → AsksSo hosts pace clients p i at → AsksSo hosts pace (c ∷ clients) p i at
  more_clients clients c p i at (inl over) = inl over
  more_clients clients c p i at (inr a) =
      inr (record {
        client = a.client;
        one_of = inr a.one_of;
        port = a.port;
        moment = a.moment;
        in_share = a.in_share;
        until = a.until;
      })

  started : (overtake : ℕ) (clients : List Client) (old : Plant) (station exact first_id : ℕ) (store : Option Store) (c : Client) (new : Plant)
      → PlantStep overtake old (StartsAgain station exact first_id store) new → IsKnown hosts pace clients old → IsKnown hosts pace (c ∷ clients) new
  started overtake clients old station exact first_id store c new s known =
      record { paced = after.paced; asked = λ i at is. more_clients clients c new i at (after.asked i at is) }
    where
      after : IsKnown hosts pace clients new
      after = calm_step overtake clients old (StartsAgain station exact first_id store) new s (λ i. refl) known

  -- ---- all of them

  -- the call that a deed stands for
  call_of : (overtake : ℕ) (clients : List Client) (p : Plant) → IsKnown hosts pace clients p → (deed : Deed) → IsDone hosts overtake clients p deed
      → IsCalledIn overtake p (move_of deed)
  call_of overtake clients p known (Does move) done = done.0
  call_of overtake clients p known (StartsClient station exact first_id store c) done = record {
    started = done.0;
    quiet = quiet_after clients p station c known done.1 (known.asked station (port_taken hosts c) done.1.port);
  }

  as_done : (overtake : ℕ) (clients : List Client) (p : Plant) (known : IsKnown hosts pace clients p) (deed : Deed) (done : IsDone hosts overtake clients p deed)
      (next : Plant) → IsAsCalledIn overtake p (move_of deed) (call_of overtake clients p known deed done) next → IsAsDone hosts overtake clients p deed done next
  unfolding call_of
  as_done overtake clients p known (Does move) done next left = left
  as_done overtake clients p known (StartsClient station exact first_id store c) done next left = left

  deed_known : (overtake : ℕ) (clients : List Client) (p : Plant) (deed : Deed) → IsDone hosts overtake clients p deed → (next : Plant)
      → Moves overtake p (move_of deed) next → IsKnown hosts pace clients p → IsKnown hosts pace (with_client deed clients) next
  deed_known overtake clients p (Does move) done next goes known = move_known overtake clients p move next goes done.1 known
  deed_known overtake clients p (StartsClient station exact first_id store c) done next goes known =
      started overtake clients p station exact first_id store c next goes known

  called : (overtake : ℕ) (deeds : List Deed) (clients : List Client) (p : Plant) → IsKnown hosts pace clients p → AreDone hosts overtake clients deeds p
      → AreCalledIn overtake (map move_of deeds) p
  called overtake [] clients p known done = tt
  called overtake (deed ∷ later) clients p known done = (
    call_of overtake clients p known deed done.0,
    λ next goes left.
        called overtake later (with_client deed clients) next (deed_known overtake clients p deed done.0 next goes known)
        (done.1 next goes (as_done overtake clients p known deed done.0 next left)),
  )

  -- a plant to which they lead
  record Last (W overtake : ℕ) (ever : Reuses) (clients : List Client) (first p : Plant) (deeds : List Deed) : Type 0 where
    last : Plant
    run : MoveRun overtake p (map move_of deeds) last
    reached : IsReachedIn W overtake ever first last
    known : IsKnown hosts pace (with_clients deeds clients) last

  done_all : (W overtake : ℕ) (ever : Reuses) (first : Plant) (deeds : List Deed) (clients : List Client) (p : Plant) → IsReachedIn W overtake ever first p
      → MayStart W ever (map move_of deeds) → IsKnown hosts pace clients p → AreDone hosts overtake clients deeds p
      → Last W overtake ever clients first p deeds
  done_all W overtake ever first [] clients p r may known done = record { last = p; run = refl; reached = r; known = known }
  done_all W overtake ever first (deed ∷ later) clients p r may known done =
      let next =
      moved W overtake ever first p r (move_of deed) (map move_of later) may (call_of overtake clients p known deed done.0) in
      let rest =
      done_all W overtake ever first later (with_client deed clients) next.0 next.3 next.4
      (deed_known overtake clients p deed done.0 next.0 next.1 known) (done.1 next.0 next.1 (as_done overtake clients p known deed done.0 next.0 next.2)) in
      record { last = rest.last; run = (next.0, next.1, rest.run); reached = rest.reached; known = rest.known }

pub quiet_is_known : QuietIsKnown
quiet_is_known hosts p quiet =
    record {
      paced = refl;
      asked = λ i at is.
          inl (le_of ((p.lives i).sends_until + p.time.pace.life + most p.time.pace KEEP + p.time.pace.life) p.time.now (quiet i at is));
    }

pub deeds_are_calls : DeedsAreCalls
deeds_are_calls hosts overtake clients p timely keep known deeds done =
    called hosts p.time.pace timely keep overtake deeds clients p known done

as_steps : (overtake : ℕ) (steps : List Step) (p : Plant) → AreCalledIn overtake (map Goes steps) p → AreCalled overtake steps p
as_steps overtake [] p calls = tt
as_steps overtake (step ∷ later) p calls = (calls.0, λ next goes left. as_steps overtake later next (calls.1 next goes left))

pub deeds_are_steps : DeedsAreSteps
deeds_are_steps hosts overtake clients p timely keep known deeds done steps are =
    as_steps overtake steps p
    (subst (λ (moves : List Move). AreCalledIn overtake moves p) are (deeds_are_calls hosts overtake clients p timely keep known deeds done))

-- ---- after each run

stretches_on : (overtake : ℕ) (ss : List Stretch) (p new : Plant) → PlantRunIn overtake p ss new → GoesOn p new
stretches_on overtake [] p new run = same_time p new (ap (λ (q : Plant). q.time) run)
stretches_on overtake (s ∷ ss) p new run =
    then_on p run.0 new (starts_on p s.anew run.0 run.2)
    (then_on run.0 run.1 new (run_on overtake s.steps run.0 run.1 run.3) (stretches_on overtake ss run.1 new run.4))

reached_timely : (W overtake : ℕ) (ever : Reuses) (first p : Plant) → IsReachedIn W overtake ever first p → IsTimely p.time.pace
reached_timely W overtake ever first p r =
    let led = r.led in
    let goes = then_on first led.middle p (run_on overtake led.steps first led.middle led.run) (stretches_on overtake led.stretches led.middle p led.later) in
    subst IsTimely (sym goes.pace) r.timely

abbrev AreAsked : Hosts → List Client → Plant → Pace → Type 0
AreAsked hosts clients p pace = (station : ℕ) (at : Port) → hosts.port_of station ≡ Some at → AsksSo hosts pace clients p station at

pub deeds_are_right : DeedsAreRight
deeds_are_right hosts W overtake ever clients first p r keep known deeds may done =
    let c =
    done_all hosts p.time.pace (reached_timely W overtake ever first p r) keep W overtake ever first deeds clients p r may known done in
    record {
      last = c.last;
      run = c.run;
      reached = c.reached;
      known = record { paced = refl; asked = subst (λ (pace : Pace). AreAsked hosts (with_clients deeds clients) c.last pace) (sym c.known.paced) c.known.asked };
      once = once_anew W overtake ever first c.last c.reached;
      once_without_reuse = λ never. once_ever_anew W overtake ever first c.last c.reached never;
    }

-- ---- a boot

module _ (hosts : Hosts) (number : ℕ) (host : Host) where
  other_host : (h : ℕ) → nat_eq h number ≡ false → (with_host hosts number host).host h ≡ hosts.host h
  other_host h e = ap (λ (b : Bool). if b then host else hosts.host h) e

  stays_there : (c : Client) (clients : List Client) → nat_eq c.host number ≡ false → IsOneOf c clients → IsOneOf c (elsewhere number clients)
  stays_there c [] e none = none
  stays_there c (d ∷ clients) e one = go (λ later. stays_there c clients e later) (nat_eq d.host number) refl one
    where
      go : (IsOneOf c clients → IsOneOf c (elsewhere number clients)) → (b : Bool) → nat_eq d.host number ≡ b → IsOneOf c (d ∷ clients)
          → IsOneOf c (if b then elsewhere number clients else d ∷ elsewhere number clients)
      go stays true at (inl same) = absurd (let no : true ≡ false = sym at ∙ ap (λ (x : Client). nat_eq x.host number) (sym same) ∙ e in cc)
      go stays true at (inr later) = stays later
      go stays false at (inl same) = inl same
      go stays false at (inr later) = inr (stays later)

  asked_elsewhere : (clients : List Client) (p : Plant) (station : ℕ) (at : Port) → nat_eq at.host number ≡ false
      → AsksSo hosts p.time.pace clients p station at → AsksSo (with_host hosts number host) p.time.pace (elsewhere number clients) p station at
  asked_elsewhere clients p station at e (inl over) = inl over
  asked_elsewhere clients p station at e (inr a) =
      let off : nat_eq a.client.host number ≡ false = ap (λ (x : Port). nat_eq x.host number) (sym a.port) ∙ e in
      let same : (with_host hosts number host).host a.client.host ≡ hosts.host a.client.host = other_host a.client.host off in
      inr (record {
        client = a.client;
        one_of = stays_there a.client clients off a.one_of;
        port = a.port ∙ ap (λ (h : Host). record { host = a.client.host; number = port_at h.key a.client.took }) (sym same);
        moment = a.moment;
        in_share = subst (λ (h : Host). h.day a.moment ≤ share_end a.client.took) (sym same) a.in_share;
        until = a.until;
      })

  booted : (clients : List Client) (p : Plant) → IsKnown hosts p.time.pace clients p
      → ((station : ℕ) (at : Port) → hosts.port_of station ≡ Some at → at.host ≡ number → is_quiet (world_of p) station ≡ true)
      → IsKnown (with_host hosts number host) p.time.pace (elsewhere number clients) p
  booted clients p known quiet = record { paced = refl; asked = asked }
    where
      asked : (station : ℕ) (at : Port) → hosts.port_of station ≡ Some at
          → AsksSo (with_host hosts number host) p.time.pace (elsewhere number clients) p station at
      asked station at is = go (nat_eq at.host number) refl
        where
          go : (b : Bool) → nat_eq at.host number ≡ b → AsksSo (with_host hosts number host) p.time.pace (elsewhere number clients) p station at
          go true e =
              inl (le_of ((p.lives station).sends_until + p.time.pace.life + most p.time.pace KEEP + p.time.pace.life) p.time.now
              (quiet station at is (sym (same_of at.host number e))))
          go false e = asked_elsewhere clients p station at e (known.asked station at is)

pub boots_go_on : BootsGoOn
boots_go_on hosts number host clients p known quiet = booted hosts number host clients p known quiet
