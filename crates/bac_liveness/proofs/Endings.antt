-- Each ask ends, once.
use Rattle.std.specs.List.{Contains}
use Rattle.std.proofs.Common.{◌≡◌, ℕ, zero, suc, ◌-◌, ◌<◌, ◌⊎◌, Bool, true, false, ◌||◌, not, List, [], ◌∷◌, Option, Some, None, if◌then◌else◌, nat_eq, nat_lt}
use Rattle.std.proofs.Common.{◌&&◌, refl, sym, ap, subst, inl, inr, ◌∙◌, arith}
use Rattle.std.proofs.lemmas.Bool.Decides.{nat_tests}
use Rattle.bac_apdu.specs.Apdu.{Apdu}
use Rattle.bac_apdu.specs.Apdu.Apdu.{ConfirmedRequest, UnconfirmedRequest, SimpleAck, ComplexAck, SegmentAck, Error, Reject, Abort}
use Rattle.bac_protocol.specs.declared.times.TheConstants.{DEADLINE}
use Rattle.bac_protocol.specs.Context.{Context}
use Rattle.bac_protocol.specs.Service.{Ending}
use Rattle.bac_protocol.specs.Service.Ending.{Expired}
use Rattle.bac_protocol.specs.Wire.{is_from_client, is_from_server}
use Rattle.bac_protocol.specs.Client as client
use Rattle.bac_protocol.specs.Client.{Ask, Phase, ClientTransaction, is_idle, is_held, is_expired, ending_of}
use Rattle.bac_protocol.specs.Client.Phase.{SegmentedRequest, AwaitConfirmation, SegmentedConf, Idle}
use Rattle.bac_protocol.specs.Client.Reaction.{Stays, Ends}
use Rattle.bac_protocol.specs.Log.{Fact, StoreModel, IsUnended, IsOrderly}
use Rattle.bac_protocol.specs.Log.Fact.{Asked, Performed, Ended, Changed, Restarted, Served, AskedAway, EndedAway}
use Rattle.bac_protocol.specs.Transaction.{Key, Rules, client_context, ended}
use Rattle.bac_protocol.specs.World.{is_key_held, Net, World, Event, is_id_held, happens, run, start, ticks_ticket, ticks_as_client, ticks_as_server}
use Rattle.bac_protocol.specs.World.{client_now, takes_at_client, takes_at_server, arrives, delivered}
use Rattle.bac_protocol.specs.Pace.{Pace, IsTimely}
use Rattle.bac_protocol.specs.World.Event.{Tick, Deliver}
use Rattle.bac_protocol.specs.Claims.{IsBounded, ClientStays}
use Rattle.bac_protocol.proofs.Dead.{ended_is_silent}
use Rattle.bac_protocol.proofs.Nets.{net_log, sound_at}
use Rattle.bac_protocol.proofs.Sound.{IsOpenIn}
use Rattle.bac_protocol.proofs.Headline.{Kept, run_kept, event_kept, start_kept}
use Rattle.bac_liveness.specs.Runs.{endings_of, IsOnItsWay, StaysSince}
use Rattle.bac_liveness.specs.Ends.{EndsInTime, EndingsAreLogged}
use Rattle.bac_liveness.proofs.Paths.{Step, Path, Any, Bounded, bounded_start, step_log, path_log, path_bounded, stays_before, was_made_path, clients_path, servers_path, ticket_path}
use Rattle.bac_liveness.proofs.Paths.{event_steps, run_steps}
use Rattle.bac_liveness.proofs.Paths.Path.{Here, Then}
use Rattle.bac_liveness.proofs.Changes.{HasEnded, ended_grows, IdleIsLogged, logged_path, IsThere, there_step, there_was_made}

-- A log in order has one ending of an ask that has ended.

unended_none : (n : ℕ) (log : List Fact) → IsUnended n log → endings_of n log ≡ 0
unended_none n [] h = refl
unended_none n (Asked m c s r ∷ log) h = unended_none n log h
unended_none n (Performed m r p ∷ log) h = unended_none n log h
unended_none n (Changed s c ∷ log) h = unended_none n log h
unended_none n (Restarted s o ∷ log) h = unended_none n log h
unended_none n (Served q s i b r p ∷ log) h = unended_none n log h
unended_none n (AskedAway m c q r ∷ log) h = unended_none n log h
unended_none n (EndedAway m how ∷ log) h = unended_none n log h
unended_none n (Ended m how ∷ log) h =
    let other : nat_eq m n ≡ false = go (nat_eq m n) refl in
    ap (λ b. if b then suc (endings_of n log) else endings_of n log) other ∙ unended_none n log h.1
  where
    go : (b : Bool) → nat_eq m n ≡ b → b ≡ false
    go true e = absurd (h.0 (grind (arith, nat_tests)))
    go false e = refl

pub ended_once : (n : ℕ) (log : List Fact) → IsOrderly log → HasEnded n log → endings_of n log ≡ 1
ended_once n [] o h = absurd h.1
ended_once n (Asked m c s r ∷ log) o (how, inl e) = absurd cc
ended_once n (Asked m c s r ∷ log) o (how, inr k) = ended_once n log o.1 (how, k)
ended_once n (Performed m r p ∷ log) o (how, inl e) = absurd cc
ended_once n (Performed m r p ∷ log) o (how, inr k) = ended_once n log o.2 (how, k)
ended_once n (Changed s c ∷ log) o (how, inl e) = absurd cc
ended_once n (Changed s c ∷ log) o (how, inr k) = ended_once n log o (how, k)
ended_once n (Restarted s q ∷ log) o (how, inl e) = absurd cc
ended_once n (Restarted s q ∷ log) o (how, inr k) = ended_once n log o (how, k)
ended_once n (EndedAway m other ∷ log) o (how, inl e) = absurd cc
ended_once n (EndedAway m other ∷ log) o (how, inr k) = ended_once n log o.2 (how, k)
ended_once n (AskedAway m c z r ∷ log) o (how, inl e) = absurd cc
ended_once n (AskedAway m c z r ∷ log) o (how, inr k) = ended_once n log o.1 (how, k)
ended_once n (Served z s i b r p ∷ log) o (how, inl e) = absurd cc
ended_once n (Served z s i b r p ∷ log) o (how, inr k) = ended_once n log o (how, k)
ended_once n (Ended m other ∷ log) o (how, inl e) =
    let same : m ≡ n = cc in
    let is : nat_eq m n ≡ true = grind (arith, nat_tests) in
    ap (λ b. if b then suc (endings_of n log) else endings_of n log) is
    ∙ ap suc (unended_none n log (subst (λ (k : ℕ). IsUnended k log) same o.1))
ended_once n (Ended m other ∷ log) o (how, inr k) = go (nat_eq m n) refl (ended_once n log o.2 (how, k))
  where
    go : (b : Bool) → nat_eq m n ≡ b → endings_of n log ≡ 1 → (if b then suc (endings_of n log) else endings_of n log) ≡ 1
    go false e h = h
    go true e h =
        let same : m ≡ n = grind (arith, nat_tests) in
        let none = unended_none n log (subst (λ (k : ℕ). IsUnended k log) same o.1) in
        absurd (omega arith)

open_unended : (n : ℕ) (log : List Fact) (phase : Phase) → is_idle phase ≡ false → IsOpenIn phase n log → IsUnended n log
open_unended n log (SegmentedRequest out all_sent) e h = h
open_unended n log AwaitConfirmation e h = h
open_unended n log (SegmentedConf inc) e h = h
open_unended n log Idle e h = absurd cc

-- what comes from a server does not come from a client
pub not_from_client : (a : Apdu) → is_from_server a ≡ true → is_from_client a ≡ false
not_from_client (ConfirmedRequest limits i g choice o) e = absurd cc
not_from_client (UnconfirmedRequest choice o) e = refl
not_from_client (SimpleAck i choice) e = refl
not_from_client (ComplexAck i g choice o) e = refl
not_from_client (SegmentAck true i ack) e = refl
not_from_client (SegmentAck false i ack) e = absurd cc
not_from_client (Error i choice class code) e = refl
not_from_client (Reject i r) e = refl
not_from_client (Abort true i r) e = refl
not_from_client (Abort false i r) e = absurd cc

pub contains_tail : (k : Key) (keys : List Key) (key : Key) → Contains (k ∷ keys) key → (k ≡ key) ⊎ Contains keys key
contains_tail k keys key (zero, lt, e) = inl e
contains_tail k keys key (suc i, lt, e) = inr (i, omega arith, e)

-- a copy on its way is delivered
arrives_now : (S : Type 0) (model : StoreModel S) (x : Rules) (w : World S) (key : Key) (a : Apdu) (number : ℕ) (free : Bool)
    → IsOnItsWay x w.net key a number → happens S model x w (Deliver number free) ≡ arrives S model x w key free a
arrives_now S model x w key a number free m =
    ap (delivered S model x w number free) m.at
    ∙ ap (λ b. if b then arrives S model x w m.post.key free m.post.copy.apdu else w) m.arrives
    ∙ (λ i. arrives S model x w (m.key_is i) free (m.apdu_is i))

-- to the server, where it is a client's
pub request_now : (S : Type 0) (model : StoreModel S) (x : Rules) (w : World S) (key : Key) (a : Apdu) (number : ℕ) (free : Bool)
    → is_from_client a ≡ true → IsOnItsWay x w.net key a number
    → happens S model x w (Deliver number free) ≡ takes_at_server S model x w key free a
request_now S model x w key a number free up m =
    arrives_now S model x w key a number free m
    ∙ ap (λ b. if b then takes_at_server S model x w key free a else takes_at_client S x w key a (w.net.tickets key)) up

-- and otherwise to the client
pub answer_now : (S : Type 0) (model : StoreModel S) (x : Rules) (w : World S) (key : Key) (a : Apdu) (number : ℕ) (free : Bool)
    → is_from_client a ≡ false → IsOnItsWay x w.net key a number
    → happens S model x w (Deliver number free) ≡ takes_at_client S x w key a (w.net.tickets key)
answer_now S model x w key a number free down m =
    arrives_now S model x w key a number free m
    ∙ ap (λ b. if b then takes_at_server S model x w key free a else takes_at_client S x w key a (w.net.tickets key)) down

-- a ticket that holds its invoke ID no longer, where its client has not restarted since
unheld : (n : Net) (key : Key) (t : ClientTransaction) → n.tickets key ≡ Some t → ClientStays n key → is_id_held n key ≡ false
    → is_held (client_now n key) t ≡ false
unheld n key t at stays free = go (nat_lt (client_now n key) (n.asks_from key.client)) (sym free)
  where
    kept : nat_lt (n.made key) (n.restarted key.client) ≡ false
    kept = let le = stays in grind (arith, nat_tests)

    go : (b : Bool) → false ≡ (b || (not (nat_lt (n.made key) (n.restarted key.client)) && is_key_held (client_now n key) (n.tickets key)))
        → is_held (client_now n key) t ≡ false
    go true h = absurd cc
    go false h =
        ap (λ (c : Bool). not c && is_held (client_now n key) t) (sym kept)
        ∙ ap (λ (o : Option ClientTransaction). not (nat_lt (n.made key) (n.restarted key.client)) && is_key_held (client_now n key) o) (sym at) ∙ sym h

module _ (x : Rules) (key : Key) (number : ℕ) (ask : Ask) (made : ℕ) where
  -- its ticket is there, or it has ended
  abbrev pub Tracked : Net → Type 0
  Tracked n = IsThere x Any key number ask made n ⊎ HasEnded number n.log

  tracked_step : (n m : Net) → Step x Any n m → StaysSince n key made → IdleIsLogged n → Tracked n → Tracked m
  tracked_step n m s stays logged (inr h) = inr (ended_grows number n.log m.log (step_log x Any n m s) h)
  tracked_step n m s stays logged (inl h) = go (there_step x Any key number ask made n m s h)
    where
      stays' : ClientStays n key
      stays' = let le = stays in let e = h.made_is in omega arith

      go : (IsThere x Any key number ask made m ⊎ (is_id_held n key ≡ false)) → Tracked m
      go (inl k) = inl k
      go (inr free) = inr (ended_grows number n.log m.log (step_log x Any n m s) (subst (λ (k : ℕ). HasEnded k n.log) h.number_is
          (logged key h.ticket h.at stays' (ended_is_silent.unheld (client_now n key) h.ticket (unheld n key h.ticket h.at stays' free)))))

  pub tracked_path : (n m : Net) → Path x Any n m → Bounded n → StaysSince m key made → IdleIsLogged n → Tracked n → Tracked m
  tracked_path n m p b stays logged (inr h) = inr (ended_grows number n.log m.log (path_log x Any n m p) h)
  tracked_path n _ Here b stays logged (inl h) = inl h
  tracked_path n _ (Then l m p s) b stays logged (inl h) =
      let was = was_made_path x Any n l p key made (there_was_made x Any key number ask made n b h) in
      let before = stays_before x Any l m s (path_bounded x Any n l p b) key made was stays in
      tracked_step l m s before (logged_path x Any n l p b logged) (tracked_path n l p b before logged (inl h))

  -- past DEADLINE a client's step ends it
  module _ (S : Type 0) (model : StoreModel S) (w : World S) (stays : StaysSince w.net key made) (logged : IdleIsLogged w.net)
      (late : DEADLINE < client_now w.net key - ask.first) where
    abbrev c : Context
    c = client_context x key (client_now w.net key)

    expired : (t : ClientTransaction) → t.ask ≡ ask → is_expired (client_now w.net key) t.ask ≡ true
    expired t is = ap (is_expired (client_now w.net key)) is ∙ grind (arith, nat_tests)

    own_log : IsThere x Any key number ask made w.net → (o : Option Ending) → HasEnded number (ended number o w.net.log)
        → HasEnded number (ended (w.net.numbers key) o w.net.log)
    own_log h o e = subst (λ (k : ℕ). HasEnded number (ended k o w.net.log)) (sym h.number_is) e

    idle_ended : (h : IsThere x Any key number ask made w.net) → is_idle h.ticket.phase ≡ true → HasEnded number w.net.log
    idle_ended h idle = subst (λ (k : ℕ). HasEnded k w.net.log) h.number_is
        (logged key h.ticket h.at (let le = stays in let e = h.made_is in omega arith) idle)

    late_tick : Tracked w.net → HasEnded number (ticks_ticket S x w key (w.net.tickets key)).net.log
    late_tick (inr h) = let u = ticks_ticket S x w key (w.net.tickets key) in
        ended_grows number w.net.log u.net.log (path_log x Any w.net u.net (ticket_path x Any S model w key (w.net.tickets key) refl)) h
    late_tick (inl h) = subst (λ (o : Option ClientTransaction). HasEnded number (ticks_ticket S x w key o).net.log) (sym h.at)
        (own_log h (ending_of (client.client_ticks c h.ticket)) (go (is_idle h.ticket.phase) refl (is_expired (client_now w.net key) h.ticket.ask)
        (expired h.ticket h.is)))
      where
        go : (b : Bool) → is_idle h.ticket.phase ≡ b → (d : Bool) → d ≡ true
            → HasEnded number (ended number (ending_of (if b then Stays else if d then Ends [] Expired
            else client.open_ticks c h.ticket h.ticket.phase)) w.net.log)
        go true e d f = idle_ended h e
        go false e true f = (Expired, inl refl)
        go false e false f = absurd cc

    late_answer : (a : Apdu) → is_from_server a ≡ true → IsThere x Any key number ask made w.net
        → HasEnded number (takes_at_client S x w key a (w.net.tickets key)).net.log
    late_answer a from h = subst (λ (o : Option ClientTransaction). HasEnded number (takes_at_client S x w key a o).net.log) (sym h.at)
        (own_log h (ending_of (client.client_on_apdu c x.readable h.ticket a))
        (go (is_idle h.ticket.phase) refl (is_from_server a) from (is_expired (client_now w.net key) h.ticket.ask) (expired h.ticket h.is)))
      where
        go : (b : Bool) → is_idle h.ticket.phase ≡ b → (f : Bool) → f ≡ true → (d : Bool) → d ≡ true
            → HasEnded number (ended number (ending_of (if b || not f then Stays else if d then Ends [] Expired
            else client.open_on_apdu c x.readable h.ticket.ask h.ticket.phase a)) w.net.log)
        go true e f g d i = idle_ended h e
        go false e true g true i = (Expired, inl refl)
        go false e true g false i = absurd cc
        go false e false g d i = absurd cc

-- On worlds: the keys before it tick, then its own, then the others.
module _ (S : Type 0) (model : StoreModel S) (x : Rules) (key : Key) (number : ℕ) (ask : Ask) (made : ℕ) where
  still_now : (w : World S) (k : Key) (o : Option ClientTransaction) → client_now (ticks_ticket S x w k o).net key ≡ client_now w.net key
  still_now w k None = refl
  still_now w k (Some t) = refl

  ticks_end : (keys : List Key) → Contains keys key → (w : World S) → Bounded w.net → StaysSince w.net key made → IdleIsLogged w.net
      → Tracked x key number ask made w.net → DEADLINE < client_now w.net key - ask.first → HasEnded number (ticks_as_client S x keys w).net.log
  ticks_end [] i w b stays logged t late = let lt = i.1 in absurd (omega arith)
  ticks_end (k ∷ keys) i w b stays logged t late = go (contains_tail k keys key i) (ticks_end keys)
    where
      u : World S
      u = ticks_ticket S x w k (w.net.tickets k)

      on : Path x Any w.net u.net
      on = ticket_path x Any S model w k (w.net.tickets k) refl

      stays_now : (o : Option ClientTransaction) → StaysSince (ticks_ticket S x w k o).net key made
      stays_now None = stays
      stays_now (Some u) = stays

      go : ((k ≡ key) ⊎ Contains keys key) → (Contains keys key → (v : World S) → Bounded v.net → StaysSince v.net key made → IdleIsLogged v.net
          → Tracked x key number ask made v.net → DEADLINE < client_now v.net key - ask.first → HasEnded number (ticks_as_client S x keys v).net.log)
          → HasEnded number (ticks_as_client S x keys u).net.log
      go (inl is) rest = ended_grows number u.net.log (ticks_as_client S x keys u).net.log
          (path_log x Any u.net (ticks_as_client S x keys u).net (clients_path x Any S model keys u))
          (subst (λ (j : Key). HasEnded number (ticks_ticket S x w j (w.net.tickets j)).net.log) (sym is)
          (late_tick x key number ask made S model w stays logged late t))
      go (inr j) rest = rest j u (path_bounded x Any w.net u.net on b) (stays_now (w.net.tickets k)) (logged_path x Any w.net u.net on b logged)
          (tracked_path x key number ask made w.net u.net on b (stays_now (w.net.tickets k)) logged t)
          (subst (λ (m : ℕ). DEADLINE < m - ask.first) (sym (still_now w k (w.net.tickets k))) late)

  tick_ends : (as_client as_server : List Key) → Contains as_client key → (w : World S) → Bounded w.net → StaysSince w.net key made → IdleIsLogged w.net
      → Tracked x key number ask made w.net → DEADLINE < client_now w.net key - ask.first
      → HasEnded number (happens S model x w (Tick as_client as_server)).net.log
  tick_ends as_client as_server i w b stays logged t late =
      let u = ticks_as_client S x as_client w in
      ended_grows number u.net.log (ticks_as_server S model x as_server u).net.log
      (path_log x Any u.net (ticks_as_server S model x as_server u).net (servers_path x Any S model as_server u))
      (ticks_end as_client i w b stays logged t late)

  answer_ends_late : (at : ℕ) (free : Bool) (a : Apdu) → is_from_server a ≡ true → (w : World S) → Bounded w.net → StaysSince w.net key made → IdleIsLogged w.net
      → Tracked x key number ask made w.net → DEADLINE < client_now w.net key - ask.first → IsOnItsWay x w.net key a at
      → HasEnded number (happens S model x w (Deliver at free)).net.log
  answer_ends_late at free a from w b stays logged (inr h) late m =
      let u = happens S model x w (Deliver at free) in
      ended_grows number w.net.log u.net.log (path_log x Any w.net u.net (event_steps x S model w b (Deliver at free))) h
  answer_ends_late at free a from w b stays logged (inl h) late m =
      subst (λ (u : World S). HasEnded number u.net.log) (sym (answer_now S model x w key a at free (not_from_client a from) m))
      (late_answer x key number ask made S model w stays logged late a from h)

-- In every run.
module _ (S : Type 0) (model : StoreModel S) (opening : ℕ → S) (W : ℕ) (x : Rules) (bound : IsBounded W x)
    (pace : Pace) (timely : IsTimely pace) (clocks : ℕ → ℕ) where
  pub bounded_in_run : (events : List Event) → Bounded (run S model x events (start S pace clocks opening)).net
  bounded_in_run events =
      path_bounded x Any (start S pace clocks opening).net (run S model x events (start S pace clocks opening)).net
      (run_steps x S model events (start S pace clocks opening) (bounded_start pace clocks)) (bounded_start pace clocks)

  pub idle_in_run : (events : List Event) → IdleIsLogged (run S model x events (start S pace clocks opening)).net
  idle_in_run events = logged_path x Any (start S pace clocks opening).net (run S model x events (start S pace clocks opening)).net
      (run_steps x S model events (start S pace clocks opening) (bounded_start pace clocks)) (bounded_start pace clocks) (λ key t at stays idle. absurd cc)

  once_after : (w : World S) → Kept S model opening W x bound w → (e : Event) (n : ℕ) → HasEnded n (happens S model x w e).net.log
      → endings_of n (happens S model x w e).net.log ≡ 1
  once_after w s e n h =
      let u = happens S model x w e in
      ended_once n u.net.log (net_log W u.net (event_kept S model opening W x bound w s e).stands.net).orderly h

  ends_in_time : (w : World S) → Kept S model opening W x bound w → Bounded w.net → IdleIsLogged w.net → EndsInTime S model x w
  ends_in_time w s b logged = record {
    ticks = λ key t at events as_client as_server stays late there.
        let v = run S model x events w in
        once_after v (run_kept S model opening W x bound events w s) (Tick as_client as_server) (w.net.numbers key)
        (tick_ends S model x key (w.net.numbers key) t.ask (w.net.made key) as_client as_server there v
        (path_bounded x Any w.net v.net (run_steps x S model events w b) b) stays (logged_on events) (tracked key t at events stays) late);
    answers = λ key t at events number free a stays late from m.
        let v = run S model x events w in
        once_after v (run_kept S model opening W x bound events w s) (Deliver number free) (w.net.numbers key)
        (answer_ends_late S model x key (w.net.numbers key) t.ask (w.net.made key) number free a from v
        (path_bounded x Any w.net v.net (run_steps x S model events w b) b) stays (logged_on events)
        (tracked key t at events stays) late m);
  }
    where
      logged_on : (events : List Event) → IdleIsLogged (run S model x events w).net
      logged_on events = logged_path x Any w.net (run S model x events w).net (run_steps x S model events w b) b logged

      tracked : (key : Key) (t : ClientTransaction) → w.net.tickets key ≡ Some t → (events : List Event)
          → StaysSince (run S model x events w).net key (w.net.made key) → Tracked x key (w.net.numbers key) t.ask (w.net.made key) (run S model x events w).net
      tracked key t at events stays = tracked_path x key (w.net.numbers key) t.ask (w.net.made key) w.net (run S model x events w).net
          (run_steps x S model events w b) b
          stays logged
          (inl (record { ticket = t; at = at; is = refl; number_is = refl; made_is = refl }))

  pub all_end : (events : List Event) → EndsInTime S model x (run S model x events (start S pace clocks opening))
  all_end events = ends_in_time (run S model x events (start S pace clocks opening))
      (run_kept S model opening W x bound events (start S pace clocks opening) (start_kept S model opening W x bound pace timely clocks))
      (bounded_in_run events) (idle_in_run events)

  pub endings_in_run : (events : List Event) → EndingsAreLogged (run S model x events (start S pace clocks opening)).net
  endings_in_run events key t at stays = go (is_idle t.phase) refl
    where
      w : World S
      w = run S model x events (start S pace clocks opening)

      s : Kept S model opening W x bound (run S model x events (start S pace clocks opening))
      s = run_kept S model opening W x bound events (start S pace clocks opening) (start_kept S model opening W x bound pace timely clocks)

      go : (b : Bool) → is_idle t.phase ≡ b → endings_of (w.net.numbers key) w.net.log ≡ (if b then 1 else 0)
      go true e = ended_once (w.net.numbers key) w.net.log (net_log W w.net s.stands.net).orderly (idle_in_run events key t at stays e)
      go false e = unended_none (w.net.numbers key) w.net.log
          (open_unended (w.net.numbers key) w.net.log t.phase e ((sound_at W w.net key (Some t) at s.stands.net).2).unended)
