-- An ask of one APDU whose copies find their server is waited for, answered, or given up by its client's clock or restart.
use Rattle.std.proofs.Common.{◌≡◌, ℕ, zero, suc, ◌+◌, ◌-◌, ◌*◌, ◌<◌, ◌≤◌, ◌⊎◌, Bool, true, false, ◌&&◌, List, [], ◌∷◌, ◌++◌, map, Option, Some, None, slice_get}
use Rattle.std.proofs.Common.{if◌then◌else◌, ◌||◌, not, nat_le, nat_lt, nat_eq, refl, sym, ap, subst, inl, inr, ◌∙◌, arith}
use Rattle.std.proofs.lemmas.Bool.Decides.{nat_tests}
use Rattle.bac_apdu.specs.Apdu.{Apdu}
use Rattle.bac_segment.specs.Pieces.{join}
use Rattle.bac_protocol.specs.declared.times.TheConstants.{T_OUT, REST}
use Rattle.bac_protocol.specs.Context.{Context}
use Rattle.bac_protocol.specs.Service.{Octets, Reply}
use Rattle.bac_protocol.specs.Service.Outcome.{Replies}
use Rattle.bac_protocol.specs.Service.Ending.{Answered, TimedOut, Expired}
use Rattle.bac_protocol.specs.Wire.{Each, is_from_client}
use Rattle.bac_protocol.specs.Client as client
use Rattle.bac_protocol.specs.Client.{Ask, Phase, ClientTransaction, is_idle, is_expired, after, sends_of, ending_of, request_of}
use Rattle.bac_protocol.specs.Client.Phase.{AwaitConfirmation, Idle}
use Rattle.bac_protocol.specs.Client.Reaction.{Stays, Repeats, Ends}
use Rattle.bac_protocol.specs.Server as server
use Rattle.bac_protocol.specs.Server.{State, ServerTransaction, Service, is_live, is_none_live}
use Rattle.bac_protocol.specs.Server.State.{Done}
use Rattle.bac_protocol.specs.Log.{Fact, Has}
use Rattle.bac_protocol.specs.Log.Fact.{Asked, Performed, Ended, Changed, Restarted}
use Rattle.bac_protocol.specs.Transaction.{Key, Rules, client_context, server_context, ended, performed}
use Rattle.bac_protocol.specs.World.{Net, Post, is_id_held, is_room, is_short, lost, asked_at, client_acts, server_acts, notes_change, client_restarted, server_restarted}
use Rattle.bac_protocol.specs.World.{is_lost, is_key_held, post_of, set_at, later, client_now, server_now, passes}
use Rattle.bac_protocol.specs.Pace.{clock_at, Pace, Clock}
use Rattle.bac_protocol.proofs.Facts.{Grows, grows_more}
use Rattle.bac_protocol.proofs.Keys.{decide_key, set_same, set_other}
use Rattle.bac_protocol.proofs.Dead.{ended_is_silent}
use Rattle.bac_protocol.proofs.Paces.{since_now, shows_on}
use Rattle.bac_liveness.specs.Runs.{IsOnItsWay, StaysSince}
use Rattle.bac_liveness.specs.RoundTrip.{FitsInOne, request_to, answer_to}
use Rattle.bac_liveness.specs.Repeats.{IsAnswered, PATIENCE}
use Rattle.bac_liveness.proofs.Paths.{some_is, ask_of, Comes, Step, Path, grows_ended, grows_performed}
use Rattle.bac_liveness.proofs.Paths.Step.{Asks, Serves, Hears, TicksTicket, TicksEntry, Passes, Changes, RestartsClient, RestartsServer, BeginsClient, BeginsServer, BeginsNext, Strange}
use Rattle.bac_protocol.specs.World.{client_begun, server_begun, is_quiet, next_client}
use Rattle.bac_protocol.proofs.Aside.{IsAside}
use Rattle.bac_protocol.proofs.Resting.{IsUnasked, IsUnserved}
use Rattle.bac_liveness.proofs.Paths.Path.{Here, Then}
use Rattle.bac_liveness.proofs.Clocks.{IsBegunAfter, AskedIn, SoonIn, alive_soon, asks_no_more, asked_asks, asked_step, soon_before, begun_passes}
use Rattle.bac_liveness.proofs.Kept.{held_in_time}
use Rattle.bac_liveness.proofs.Serving.{answer_any_time, answer_not_from_client, answer_from_server, late_gets, answer_ends, performed_entry, answers_first}
use Rattle.bac_liveness.proofs.Serving.{serves_new, serves_again}

-- Lists of copies.

pub got : (xs ys : List Post) (i : ℕ) (q : Post) → slice_get (xs ++ ys) i ≡ Some q → (slice_get xs i ≡ Some q) ⊎ ((j : ℕ) × (slice_get ys j ≡ Some q))
got [] ys i q e = inr (i, e)
got (p ∷ xs) ys zero q e = inl e
got (p ∷ xs) ys (suc i) q e = got xs ys i q e

key_of_map : (k : Key) (now : ℕ) (sends : List Apdu) (j : ℕ) (q : Post) → slice_get (map (post_of k now) sends) j ≡ Some q → q.key ≡ k
key_of_map k now [] j q e = absurd cc
key_of_map k now (a ∷ more) zero q e = let is : post_of k now a ≡ q = cc in sym (ap (λ (y : Post). y.key) is)
key_of_map k now (a ∷ more) (suc j) q e = key_of_map k now more j q e

pub of_map : (P : Apdu → Type 0) (k : Key) (now : ℕ) (sends : List Apdu) → Each P sends → (j : ℕ) (q : Post)
    → slice_get (map (post_of k now) sends) j ≡ Some q → P q.copy.apdu
of_map P k now [] h j q e = absurd cc
of_map P k now (a ∷ more) h zero q e = let is : post_of k now a ≡ q = cc in subst (λ (y : Post). P y.copy.apdu) is h.0
of_map P k now (a ∷ more) h (suc j) q e = of_map P k now more h.1 j q e

none_later : (now later : ℕ) → now ≤ later → (o : Option ServerTransaction) → is_none_live now o ≡ true → is_none_live later o ≡ true
none_later now later le None e = refl
none_later now later le (Some d) e = go (is_live now d) refl (is_live later d) refl e
  where
    go : (a : Bool) → is_live now d ≡ a → (b : Bool) → is_live later d ≡ b → (if a then false else true) ≡ true → (if b then false else true) ≡ true
    go true p b q z = absurd cc
    go false p true q z = absurd (grind (arith, nat_tests))
    go false p false q z = refl

module _ (x : Rules) (key : Key) (ask : Ask) (number made : ℕ) where
  -- a reply of the ask
  abbrev pub WasGiven : Reply → List Fact → Type 0
  WasGiven p log = FitsInOne x key ask p × Has (Performed number (request_of ask) p) log

  -- a copy that may arrive is the request, or a reply with which it was performed
  abbrev pub IsFine : List Fact → Apdu → Type 0
  IsFine log a = (a ≡ request_to x key ask) ⊎ ((p : Reply) × (a ≡ answer_to x key ask p) × WasGiven p log)

  -- the entry keeps a reply with which it was performed
  pub record IsDoneFor (p : Pace) (now : ℕ) (server : Clock) (o : Option ServerTransaction) (log : List Fact) : Type 0 where
    pub entry : ServerTransaction
    pub at : o ≡ Some entry
    pub begun : IsBegunAfter p now server made entry.begin
    pub choice : entry.choice ≡ ask.choice
    pub request : entry.request ≡ Some (join ask.pieces)
    pub reply : Reply
    pub state : entry.state ≡ Done (answer_to x key ask reply)
    pub given : WasGiven reply log

  abbrev pub EntryFits : (p : Pace) (now : ℕ) (server : Clock) → Option ServerTransaction → List Fact → Type 0
  EntryFits p now server o log = (is_none_live server.shows o ≡ true) ⊎ IsDoneFor p now server o log

  abbrev pub EntryIn : Net → Option ServerTransaction → List Fact → Type 0
  EntryIn n o log = EntryFits n.pace n.now (n.server_clocks key.server) o log

  abbrev pub DoneFor : Net → Option ServerTransaction → List Fact → Type 0
  DoneFor n o log = IsDoneFor n.pace n.now (n.server_clocks key.server) o log

  -- the ticket waits: each repeat that was used took T_OUT
  pub record Patient (now : ℕ) (t : ClientTransaction) : Type 0 where
    pub waits : t.phase ≡ AwaitConfirmation
    pub few : t.repeats ≤ 3
    pub since : ask.first + (3 - t.repeats) * 3000 ≤ t.since
    pub passed : t.since ≤ now

  -- the client restarted since, or PATIENCE has passed by its clock
  abbrev pub IsGivenUp : (restarted now : ℕ) → Type 0
  IsGivenUp restarted now = (made < restarted) ⊎ (ask.first + PATIENCE ≤ now)

  -- or it is over: the ask is answered or given up
  abbrev pub PatientOrOver : (restarted now : ℕ) → ClientTransaction → List Fact → Type 0
  PatientOrOver restarted now t log = Patient now t ⊎ ((is_idle t.phase ≡ true) × (IsAnswered number ask log ⊎ IsGivenUp restarted now))

  pub record TicketFits (restarted now : ℕ) (o : Option ClientTransaction) (log : List Fact) : Type 0 where
    pub ticket : ClientTransaction
    pub at : o ≡ Some ticket
    pub is : ticket.ask ≡ ask
    pub state : PatientOrOver restarted now ticket log

  pub record Waits (n : Net) : Type 0 where
    pub clock : AskedIn n key ask.first made
    pub entry : EntryIn n (n.entries key) n.log
    pub posts : (i : ℕ) (q : Post) → slice_get n.posts i ≡ Some q → q.key ≡ key → n.now - q.copy.moment ≤ n.pace.life → IsFine n.log q.copy.apdu
    pub ticket : TicketFits (n.restarted key.client) (client_now n key) (n.tickets key) n.log
    pub number_is : n.numbers key ≡ number
    pub made_is : n.made key ≡ made

  -- All this stays as the log grows.

  fine_grows : (log new : List Fact) → Grows log new → (a : Apdu) → IsFine log a → IsFine new a
  fine_grows log new g a (inl h) = inl h
  fine_grows log new g a (inr h) = inr (h.0, h.1, (h.2.0, g (Performed number (request_of ask) h.0) h.2.1))

  entry_grows : (p : Pace) (now : ℕ) (server : Clock) (o : Option ServerTransaction) (log new : List Fact) → Grows log new → EntryFits p now server o log
      → EntryFits p now server o new
  entry_grows p now server o log new g (inl h) = inl h
  entry_grows p now server o log new g (inr h) = inr (record {
    entry = h.entry;
    at = h.at;
    begun = h.begun;
    choice = h.choice;
    request = h.request;
    reply = h.reply;
    state = h.state;
    given = (h.given.0, g (Performed number (request_of ask) h.reply) h.given.1);
  })

  pub answered_grows : (log new : List Fact) → Grows log new → IsAnswered number ask log → IsAnswered number ask new
  answered_grows log new g h = (h.0, g (Performed number (request_of ask) h.0) h.1, g (Ended number (Answered h.0)) h.2)

  over_grows : (restarted now : ℕ) (log new : List Fact) → Grows log new → IsAnswered number ask log ⊎ IsGivenUp restarted now
      → IsAnswered number ask new ⊎ IsGivenUp restarted now
  over_grows restarted now log new g (inl h) = inl (answered_grows log new g h)
  over_grows restarted now log new g (inr h) = inr h

  ticket_grows : (restarted now : ℕ) (o : Option ClientTransaction) (log new : List Fact) → Grows log new → TicketFits restarted now o log
      → TicketFits restarted now o new
  ticket_grows restarted now o log new g h = record { ticket = h.ticket; at = h.at; is = h.is; state = go h.state }
    where
      go : PatientOrOver restarted now h.ticket log → PatientOrOver restarted now h.ticket new
      go (inl p) = inl p
      go (inr o) = inr (o.0, over_grows restarted now log new g o.1)

  -- the copies after some were sent
  posts_on : (n : Net) (k : Key) (sends : List Apdu) (log : List Fact) → Waits n → Grows n.log log → (k ≡ key → Each (IsFine log) sends)
      → (i : ℕ) (q : Post) → slice_get (n.posts ++ map (post_of k n.now) sends) i ≡ Some q → q.key ≡ key → n.now - q.copy.moment ≤ n.pace.life
      → IsFine log q.copy.apdu
  posts_on n k sends log h g own i q at is young = go (got n.posts (map (post_of k n.now) sends) i q at)
    where
      go : (slice_get n.posts i ≡ Some q) ⊎ ((j : ℕ) × (slice_get (map (post_of k n.now) sends) j ≡ Some q)) → IsFine log q.copy.apdu
      go (inl old) = fine_grows n.log log g q.copy.apdu (h.posts i q old is young)
      go (inr new) = of_map (IsFine log) k n.now sends (own (sym (key_of_map k n.now sends new.0 q new.1) ∙ is)) new.0 q new.1

  -- What one end does.

  abbrev ClientGoal : Net → ClientTransaction → client.Reaction → Type 0
  ClientGoal n t r = TicketFits (n.restarted key.client) (client_now n key) (Some (after (client_now n key) t r)) (ended number (ending_of r) n.log)
      × Each (IsFine n.log) (sends_of r)

  abbrev ServerGoal : Net → server.Reaction → Type 0
  ServerGoal n v = EntryIn n v.entry (performed number v.effect n.log) × Each (IsFine (performed number v.effect n.log)) v.sends

  client_waits : (n : Net) (k : Key) (t : ClientTransaction) (r : client.Reaction) → Waits n → (k ≡ key → ClientGoal n t r) → Waits (client_acts n k t r)
  client_waits n k t r h own = record {
    clock = h.clock;
    entry = entry_grows n.pace n.now (n.server_clocks key.server) (n.entries key) n.log log g h.entry;
    posts = posts_on n k (sends_of r) log h g (λ is. all_grow (sends_of r) (own is).1);
    ticket = go (decide_key k key);
    number_is = h.number_is;
    made_is = h.made_is;
  }
    where
      log : List Fact
      log = ended (n.numbers k) (ending_of r) n.log

      g : Grows n.log log
      g = grows_ended (n.numbers k) (ending_of r) n.log

      all_grow : (ms : List Apdu) → Each (IsFine n.log) ms → Each (IsFine log) ms
      all_grow [] e = tt
      all_grow (a ∷ ms) e = (fine_grows n.log log g a e.0, all_grow ms e.1)

      kept : Option ClientTransaction
      kept = Some (after (client_now n k) t r)

      go : ((k ≡ key) ⊎ (k ≡ key → ⊥)) → TicketFits (n.restarted key.client) (client_now n key) (set_at n.tickets k kept key) log
      go (inl is) =
          let own_log : n.numbers k ≡ number = ap n.numbers is ∙ h.number_is in
          subst (λ (o : Option ClientTransaction). TicketFits (n.restarted key.client) (client_now n key) o log)
          (sym (subst (λ (j : Key). set_at n.tickets k kept j ≡ kept) is (set_same n.tickets k kept)))
          (subst (λ (m : ℕ). TicketFits (n.restarted key.client) (client_now n key) kept (ended m (ending_of r) n.log)) (sym own_log)
          (subst (λ (j : Key). TicketFits (n.restarted key.client) (client_now n key) (Some (after (client_now n j) t r)) (ended number (ending_of r) n.log))
          (sym is) (own is).0))
      go (inr ne) = subst (λ (o : Option ClientTransaction). TicketFits (n.restarted key.client) (client_now n key) o log)
          (sym (set_other n.tickets k kept key ne))
          (ticket_grows (n.restarted key.client) (client_now n key) (n.tickets key) n.log log g h.ticket)

  server_waits : (n : Net) (k : Key) (v : server.Reaction) → Waits n → (k ≡ key → ServerGoal n v) → Waits (server_acts n k v)
  server_waits n k v h own = record {
    clock = h.clock;
    entry = go (decide_key k key);
    posts = posts_on n k v.sends log h g (λ is. subst (λ (m : ℕ). Each (IsFine (performed m v.effect n.log)) v.sends) (sym (own_log is)) (own is).1);
    ticket = ticket_grows (n.restarted key.client) (client_now n key) (n.tickets key) n.log log g h.ticket;
    number_is = h.number_is;
    made_is = h.made_is;
  }
    where
      log : List Fact
      log = performed (n.numbers k) v.effect n.log

      g : Grows n.log log
      g = grows_performed (n.numbers k) v.effect n.log

      own_log : k ≡ key → n.numbers k ≡ number
      own_log is = ap n.numbers is ∙ h.number_is

      go : ((k ≡ key) ⊎ (k ≡ key → ⊥)) → EntryIn n (set_at n.entries k v.entry key) log
      go (inl is) = subst (λ (o : Option ServerTransaction). EntryIn n o log)
          (sym (subst (λ (j : Key). set_at n.entries k v.entry j ≡ v.entry) is (set_same n.entries k v.entry)))
          (subst (λ (m : ℕ). EntryIn n v.entry (performed m v.effect n.log)) (sym (own_log is)) (own is).0)
      go (inr ne) = subst (λ (o : Option ServerTransaction). EntryIn n o log) (sym (set_other n.entries k v.entry key ne))
          (entry_grows n.pace n.now (n.server_clocks key.server) (n.entries key) n.log log g h.entry)

  abbrev pub InPatience : Net → Type 0
  InPatience n = client_now n key < ask.first + PATIENCE

  -- no more real time has passed since the ask than may pass while a clock goes on by DEADLINE
  abbrev pub Soon : Net → Type 0
  Soon n = SoonIn n made

  -- The ticket is over, or an answer or its timer comes.

  idle_stays : (n : Net) (t : ClientTransaction) → t.ask ≡ ask → is_idle t.phase ≡ true
      → IsAnswered number ask n.log ⊎ IsGivenUp (n.restarted key.client) (client_now n key) → ClientGoal n t Stays
  idle_stays n t is idle over = (record { ticket = t; at = refl; is = is; state = inr (idle, over) }, tt)

  -- what is known of the ticket, by its name
  pub known : (n : Net) (t : ClientTransaction) → n.tickets key ≡ Some t → Waits n → (t.ask ≡ ask)
      × PatientOrOver (n.restarted key.client) (client_now n key) t n.log
  known n t at h =
      let same : h.ticket.ticket ≡ t = some_is h.ticket.ticket t (sym h.ticket.at ∙ at) in (
        subst (λ (y : ClientTransaction). y.ask ≡ ask) same h.ticket.is,
        subst
            (λ (y : ClientTransaction). PatientOrOver (n.restarted key.client) (client_now n key) y n.log) same h.ticket.state,
      )

  hears_answer : (n : Net) (p : Reply) → WasGiven p n.log → (t : ClientTransaction) → t.ask ≡ ask
      → PatientOrOver (n.restarted key.client) (client_now n key) t n.log
      → ClientGoal n t (client.client_on_apdu (client_context x key (client_now n key)) x.readable t (answer_to x key ask p))
  hears_answer n p given t is (inr o) =
      subst (ClientGoal n t) (sym (ended_is_silent.gets (client_context x key (client_now n key)) x.readable t (answer_to x key ask p) o.0))
      (idle_stays n t is o.0 o.1)
  hears_answer n p given t is (inl w) = go (is_expired (client_now n key) t.ask) refl
    where
      c : Context
      c = client_context x key (client_now n key)

      first : t.ask.first ≡ ask.first
      first = ap (λ (a : Ask). a.first) is

      over : ClientTransaction
      over = record t { phase = Idle }

      go : (b : Bool) → is_expired (client_now n key) t.ask ≡ b
          → ClientGoal n t (client.client_on_apdu (client_context x key (client_now n key)) x.readable t (answer_to x key ask p))
      go false young =
          subst (ClientGoal n t) (sym (subst (λ (a : Ask). client.client_on_apdu c x.readable t (answer_to x key a p) ≡ Ends [] (Answered p)) is
          (answer_ends c (server_context x key t.ask.first) x.readable t p w.waits young
          (subst (λ (a : Ask). FitsInOne x key a p) (sym is) given.0).kind)))
          (record { ticket = record t { phase = Idle }; at = refl; is = is; state = inr (refl, inl (p, inr given.1, inl refl)) }, tt)
      go true late =
          subst (ClientGoal n t) (sym (late_gets x.readable c t (answer_to x key ask p)
          (answer_from_server (server_context x key ask.first) ask.choice p) (ap is_idle w.waits) (grind (arith, nat_tests)))) (
            record {
              ticket = record t { phase = Idle };
              at = refl;
              is = is;
              state = inr (refl, inr (inr (let f = first in grind (arith, nat_tests))));
            },
            tt,
          )

  -- an answer that comes to it leaves the ask answered, where its client has not restarted
  pub told_answered : (n : Net) → Waits n → StaysSince n key made → InPatience n → (t : ClientTransaction) → n.tickets key ≡ Some t → (p : Reply)
      → WasGiven p n.log
      → IsAnswered number ask (ended number (ending_of (client.client_on_apdu (client_context x key (client_now n key)) x.readable t
      (answer_to x key ask p))) n.log)
  told_answered n h stays young t at p given = go (known n t at h).0 (known n t at h).1
    where
      go : t.ask ≡ ask → PatientOrOver (n.restarted key.client) (client_now n key) t n.log
          → IsAnswered number ask (ended number (ending_of (client.client_on_apdu (client_context x key (client_now n key)) x.readable t
          (answer_to x key ask p))) n.log)
      go is (inr (idle, inr (inl lost))) = let le = stays in absurd (omega arith)
      go is (inr (idle, inr (inr late))) = let lt = young in absurd (omega arith)
      go is (inr (idle, inl o)) = answered_grows n.log
          (ended number (ending_of (client.client_on_apdu (client_context x key (client_now n key)) x.readable t (answer_to x key ask p))) n.log)
          (grows_ended number (ending_of (client.client_on_apdu (client_context x key (client_now n key)) x.readable t (answer_to x key ask p))) n.log) o
      go is (inl w) =
          let c = client_context x key (client_now n key) in
          let first : t.ask.first ≡ ask.first = ap (λ (a : Ask). a.first) is in
          subst (λ (r : client.Reaction). IsAnswered number ask (ended number (ending_of r) n.log))
          (sym (subst (λ (a : Ask). client.client_on_apdu c x.readable t (answer_to x key a p) ≡ Ends [] (Answered p)) is
          (answer_ends c (server_context x key t.ask.first) x.readable t p w.waits (grind (arith, nat_tests))
          (subst (λ (a : Ask). FitsInOne x key a p) (sym is) given.0).kind)))
          (p, inr given.1, inl refl)

  -- a tick's tests
  pub ticks_by : (now : ℕ) (t : ClientTransaction) → t.ask ≡ ask → Patient now t → now < ask.first + PATIENCE → client.client_ticks (client_context x key now) t
      ≡ (if nat_le T_OUT (now - t.since) then client.repeats (client_context x key now) t else Stays)
  ticks_by now t is w young =
      ap (λ (ph : Phase). if is_idle ph then Stays else if is_expired now t.ask then Ends [] Expired
      else client.open_ticks (client_context x key now) t ph) w.waits
      ∙ ap (λ b. if b then Ends [] Expired else client.open_ticks (client_context x key now) t AwaitConfirmation) in_time
    where
      in_time : is_expired now t.ask ≡ false
      in_time = let e : t.ask.first ≡ ask.first = ap (λ (a : Ask). a.first) is in grind (arith, nat_tests)

  -- before PATIENCE a timer that is due finds a repeat
  pub repeat_left : (now : ℕ) (t : ClientTransaction) → Patient now t → now < ask.first + PATIENCE → T_OUT ≤ now - t.since → 0 < t.repeats
  repeat_left now t w young due = go t.repeats w.few w.since
    where
      go : (r : ℕ) → r ≤ 3 → ask.first + (3 - r) * 3000 ≤ t.since → 0 < r
      go zero few s = absurd (omega arith)
      go (suc r) few s = omega arith

  -- and the request is sent again
  pub tick_repeats : (now : ℕ) (t : ClientTransaction) → ask.whole ≡ true → t.ask ≡ ask → Patient now t → now < ask.first + PATIENCE → T_OUT ≤ now - t.since
      → client.client_ticks (client_context x key now) t ≡ Repeats t.phase (request_to x key ask ∷ [])
  tick_repeats now t whole is w young due =
      ticks_by now t is w young
      ∙ ap (λ b. if b then client.repeats c t else Stays) due_is
      ∙ ap (λ b. if b then client.repeats_whole c t else client.repeats_pieces c t) (ap (λ (a : Ask). a.whole) is ∙ whole)
      ∙ ap (λ b. if b then Ends [] TimedOut else Repeats t.phase (client.request_apdu c t.ask ∷ [])) left
      ∙ ap (λ (a : Ask). Repeats t.phase (client.request_apdu c a ∷ [])) is
    where
      c : Context
      c = client_context x key now

      due_is : nat_le T_OUT (now - t.since) ≡ true
      due_is = grind (arith, nat_tests)

      left : nat_eq t.repeats 0 ≡ false
      left = let some = repeat_left now t w young due in grind (arith, nat_tests)

  pub patient_on : (now : ℕ) (t : ClientTransaction) → Patient now t → T_OUT ≤ now - t.since
      → Patient now (after now t (Repeats t.phase (request_to x key ask ∷ [])))
  patient_on now t w due = record { waits = w.waits; few = let f = w.few in omega arith; since = steps t.repeats w.few w.since; passed = omega arith }
    where
      steps : (r : ℕ) → r ≤ 3 → ask.first + (3 - r) * 3000 ≤ t.since → ask.first + (3 - (r - 1)) * 3000 ≤ now
      steps r few s = let p = w.passed in omega arith

  -- what its timer does, also later
  module _ (n : Net) (whole : ask.whole ≡ true) (t : ClientTransaction) (is : t.ask ≡ ask) (w : Patient (client_now n key) t) where
    abbrev ticking : Context
    ticking = client_context x key (client_now n key)

    given_up : (log : List Fact) → ask.first + PATIENCE ≤ client_now n key
        → TicketFits (n.restarted key.client) (client_now n key) (Some (record t { phase = Idle })) log
    given_up log late = record { ticket = record t { phase = Idle }; at = refl; is = is; state = inr (refl, inr (inr late)) }

    due_goal : T_OUT ≤ client_now n key - t.since → (b : Bool) → nat_eq t.repeats 0 ≡ b
        → ClientGoal n t (if b then Ends [] TimedOut else Repeats t.phase (client.request_apdu ticking t.ask ∷ []))
    due_goal due true none = (given_up (Ended number TimedOut ∷ n.log) (used_up t.repeats (grind (arith, nat_tests)) w.since), tt)
      where
        used_up : (r : ℕ) → r ≡ 0 → ask.first + (3 - r) * 3000 ≤ t.since → ask.first + PATIENCE ≤ client_now n key
        used_up zero e since = omega arith
        used_up (suc r) e since = absurd (omega arith)
    due_goal due false some = (
      record {
        ticket = after (client_now n key) t (Repeats t.phase (request_to x key ask ∷ []));
        at = refl;
        is = is;
        state = inl (patient_on (client_now n key) t w due);
      },
      (inl (ap (client.request_apdu ticking) is), tt),
    )

    timer_goal : (b : Bool) → nat_le T_OUT (client_now n key - t.since) ≡ b → ClientGoal n t (if b then client.repeats ticking t else Stays)
    timer_goal false e = (record { ticket = t; at = refl; is = is; state = inl w }, tt)
    timer_goal true e = subst (λ (b : Bool). ClientGoal n t (if b then client.repeats_whole ticking t else client.repeats_pieces ticking t))
        (sym (ap (λ (a : Ask). a.whole) is ∙ whole)) (due_goal (grind (arith, nat_tests)) (nat_eq t.repeats 0) refl)

    open_goal : (b : Bool) → is_expired (client_now n key) t.ask ≡ b
        → ClientGoal n t (if b then Ends [] Expired else client.open_ticks ticking t AwaitConfirmation)
    open_goal true late = (
      given_up (Ended number Expired ∷ n.log)
          (let f : t.ask.first ≡ ask.first = ap (λ (a : Ask). a.first) is in grind (arith, nat_tests)),
      tt,
    )
    open_goal false young = timer_goal (nat_le T_OUT (client_now n key - t.since)) refl

  ticks_timer : (n : Net) → ask.whole ≡ true → (t : ClientTransaction) → t.ask ≡ ask → PatientOrOver (n.restarted key.client) (client_now n key) t n.log
      → ClientGoal n t (client.client_ticks (client_context x key (client_now n key)) t)
  ticks_timer n whole t is (inr o) =
      subst (ClientGoal n t) (sym (ended_is_silent.ticks (client_context x key (client_now n key)) t o.0)) (idle_stays n t is o.0 o.1)
  ticks_timer n whole t is (inl w) = subst (λ (ph : Phase). ClientGoal n t (if is_idle ph then Stays
      else if is_expired (client_now n key) t.ask then Ends [] Expired else client.open_ticks (client_context x key (client_now n key)) t ph))
      (sym w.waits) (open_goal n whole t is w (is_expired (client_now n key) t.ask) refl)

  -- The request or a tick comes to the server.

  pub done_live : (n : Net) → AskedIn n key ask.first made → Soon n → (d : DoneFor n (n.entries key) n.log) → is_live (server_now n key) d.entry ≡ true
  done_live n runs soon d = alive_soon n.pace runs.timely n.now (n.server_clocks key.server) runs.server_told made soon d.entry d.begun

  -- a delivery finds a free slot of a server that does not wait and a reply that goes in one APDU, where no entry is live
  abbrev pub Finds : Net → ℕ → Bool → Service → Type 0
  Finds n i free service = IsOnItsWay x n key (request_to x key ask) i → is_none_live (server_now n key) (n.entries key) ≡ true
      → (p : Reply) × (is_room n key free ≡ true) × (service ask.choice (join ask.pieces) ≡ Replies p) × FitsInOne x key ask p

  abbrev on_request : Net → Service → Option ServerTransaction → Bool → server.Reaction
  on_request n service o b = server.server_on_apdu (server_context x key (server_now n key)) service o b (request_to x key ask)

  kept_goal : (n : Net) (o : Option ServerTransaction) (d : DoneFor n o n.log) (sends : List Apdu) → Each (IsFine n.log) sends
      → ServerGoal n (record { entry = Some d.entry; sends = sends; effect = None })
  kept_goal n o d sends fine = (
    inr (record {
      entry = d.entry;
      at = refl;
      begun = d.begun;
      choice = d.choice;
      request = d.request;
      reply = d.reply;
      state = d.state;
      given = d.given;
    }),
    fine,
  )

  serves_request : (n : Net) → Waits n → Soon n → (service : Service) (free : Bool)
      → (is_none_live (server_now n key) (n.entries key) ≡ true → (p : Reply) × (free ≡ true) × (service ask.choice (join ask.pieces) ≡ Replies p)
      × FitsInOne x key ask p)
      → EntryIn n (n.entries key) n.log → ServerGoal n (on_request n service (n.entries key) free)
  serves_request n h young service free finds (inl none) =
      let cl = client_context x key ask.first in
      let y = finds none in
      subst (ServerGoal n) (sym (ap (on_request n service (n.entries key)) y.1
      ∙ serves_new (server_context x key (server_now n key)) cl service (n.entries key) ask y.0 none y.2 (y.3).way
      ∙ ap (λ (a : Apdu). answers_first (performed_entry (server_now n key) cl ask a) ask y.0 a)
      (answer_any_time x key (server_now n key) ask.first ask.choice y.0))) (
        inr (record {
          entry = performed_entry (server_now n key) cl ask (answer_to x key ask y.0);
          at = refl;
          begun = record {
            began = n.now;
            after = h.clock.on;
            since = since_now n.pace n.now (n.server_clocks key.server) h.clock.server_told;
          };
          choice = refl;
          request = refl;
          reply = y.0;
          state = refl;
          given = (y.3, inl refl);
        }),
        (inr (y.0, refl, (y.3, inl refl)), tt),
      )
  serves_request n h young service free finds (inr d) =
      subst (ServerGoal n) (sym (ap (λ (o : Option ServerTransaction). on_request n service o free) d.at
      ∙ serves_again (server_context x key (server_now n key)) (client_context x key ask.first) service d.entry free ask (answer_to x key ask d.reply)
      (done_live n h.clock young d) d.state d.choice d.request))
      (kept_goal n (n.entries key) d (answer_to x key ask d.reply ∷ []) (inr (d.reply, refl, d.given), tt))

  -- it brings one answer
  pub brings_answer : (n : Net) → Waits n → Soon n → (service : Service) (free : Bool)
      → (is_none_live (server_now n key) (n.entries key) ≡ true → (p : Reply) × (free ≡ true) × (service ask.choice (join ask.pieces) ≡ Replies p)
      × FitsInOne x key ask p)
      → (p : Reply) × ((server.server_on_apdu (server_context x key (server_now n key)) service (n.entries key) free
      (request_to x key ask)).sends ≡ answer_to x key ask p ∷ [])
  brings_answer n h young service free finds = go h.entry
    where
      go : EntryIn n (n.entries key) n.log → (p : Reply) × ((on_request n service (n.entries key) free).sends ≡ answer_to x key ask p ∷ [])
      go (inl none) =
          let cl = client_context x key ask.first in
          let y = finds none in (
            y.0,
            ap (λ (v : server.Reaction). v.sends) (ap (on_request n service (n.entries key)) y.1
                ∙ serves_new (server_context x key (server_now n key)) cl service (n.entries key) ask y.0 none y.2 (y.3).way)
                ∙ ap (λ (a : Apdu). a ∷ []) (answer_any_time x key (server_now n key) ask.first ask.choice y.0),
          )
      go (inr d) = (
        d.reply,
        ap (λ (v : server.Reaction). v.sends) (ap (λ (o : Option ServerTransaction). on_request n service o free) d.at
            ∙ serves_again (server_context x key (server_now n key)) (client_context x key ask.first) service d.entry free ask (answer_to x key ask d.reply)
            (done_live n h.clock young d) d.state d.choice d.request),
      )

  ticks_entry : (n : Net) → AskedIn n key ask.first made → Soon n → EntryIn n (n.entries key) n.log
      → ServerGoal n (server.server_ticks (server_context x key (server_now n key)) (n.entries key))
  ticks_entry n runs young (inl none) = go (n.entries key) none
    where
      go : (o : Option ServerTransaction) → is_none_live (server_now n key) o ≡ true
          → ServerGoal n (server.server_ticks (server_context x key (server_now n key)) o)
      go None e = (inl refl, tt)
      go (Some d) e = by (is_live (server_now n key) d) refl e
        where
          by : (b : Bool) → is_live (server_now n key) d ≡ b → (if b then false else true) ≡ true
              → ServerGoal n (if b then server.live_ticks (server_context x key (server_now n key)) d d.state else server.rests (Some d) [])
          by true is z = absurd cc
          by false is z = (inl e, tt)
  ticks_entry n runs young (inr d) =
      let c = server_context x key (server_now n key) in
      subst (ServerGoal n) (sym (ap (server.server_ticks c) d.at
      ∙ ap (λ b. if b then server.live_ticks c d.entry d.entry.state else server.rests (Some d.entry) []) (done_live n runs young d)
      ∙ ap (λ (st : State). server.live_ticks c d.entry st) d.state))
      (kept_goal n (n.entries key) d [] tt)

  -- Each step.

  pub fine_comes : (n : Net) → Waits n → (i : ℕ) (q : Post) → Comes x n i q → q.key ≡ key → IsFine n.log q.copy.apdu
  fine_comes n h i q comes is = h.posts i q comes.at is
      (young (nat_le (n.now - q.copy.moment) n.pace.life) (nat_le (later q.key i n.posts) x.overtake || is_short n q.key) refl comes.arrives)
    where
      young : (a b : Bool) → nat_le (n.now - q.copy.moment) n.pace.life ≡ a → (a && b) ≡ true → n.now - q.copy.moment ≤ n.pace.life
      young true b e f = grind (arith, nat_tests)
      young false b e f = absurd cc

  pub fine_up : (log : List Fact) (a : Apdu) → is_from_client a ≡ true → IsFine log a → a ≡ request_to x key ask
  fine_up log a up (inl is) = is
  fine_up log a up (inr r) =
      let down = ap is_from_client r.1 ∙ answer_not_from_client (server_context x key ask.first) ask.choice r.0 in absurd (let z = sym up ∙ down in cc)

  pub fine_down : (log : List Fact) (a : Apdu) → is_from_client a ≡ false → IsFine log a → (p : Reply) × (a ≡ answer_to x key ask p) × WasGiven p log
  fine_down log a down (inl is) = absurd (let z = sym (ap is_from_client is) ∙ down in cc)
  fine_down log a down (inr r) = r

  key_held : (n : Net) → Waits n → Soon n → is_id_held n key ≡ true
  key_held n h soon = go (asks_no_more n key ask.first made h.clock soon)
    where
      go : ((n.restarted key.client ≤ made) × (client_now n key ≤ ask.first + REST)) ⊎ (client_now n key < n.asks_from key.client)
          → is_id_held n key ≡ true
      go (inl k) = held_in_time x Finds key number ask made n
          (record { ticket = h.ticket.ticket; at = h.ticket.at; is = h.ticket.is; number_is = h.number_is; made_is = h.made_is }) k.0
          (let le = k.1 in omega arith)
      go (inr lt) =
          let waits : nat_lt (client_now n key) (n.asks_from key.client) ≡ true = grind (arith, nat_tests) in
          ap (λ (b : Bool). b || (not (is_lost n key) && is_key_held (client_now n key) (n.tickets key))) waits

  -- another transaction's ask
  asked_waits : (n : Net) (k : Key) (other : Ask) → (k ≡ key → ⊥) → Waits n → Waits (asked_at x n k other)
  asked_waits n k other ne h = record {
    clock = asked_asks x Finds key ask.first made n k other h.clock;
    entry = entry_grows n.pace n.now (n.server_clocks key.server) (n.entries key) n.log log g h.entry;
    posts = posts_on n k (sends_of (client.asks (client_context x k (client_now n k)) other)) log h g (λ is. absurd (ne is));
    ticket = subst (λ (o : Option ClientTransaction). TicketFits (n.restarted key.client) (client_now n key) o log)
        (sym (set_other n.tickets k next_ticket key ne))
        (ticket_grows (n.restarted key.client) (client_now n key) (n.tickets key) n.log log g h.ticket);
    number_is = set_other n.numbers k n.asks key ne ∙ h.number_is;
    made_is = set_other n.made k n.now key ne ∙ h.made_is;
  }
    where
      log : List Fact
      log = Asked n.asks k.client k.server (request_of other) ∷ n.log

      g : Grows n.log log
      g = grows_more (Asked n.asks k.client k.server (request_of other)) n.log

      next_ticket : Option ClientTransaction
      next_ticket = Some (client.asked_ticket (client_context x k (client_now n k)) other)

  passes_waits : (n : Net) (by : ℕ) (clients servers : ℕ → ℕ) → Waits n → Waits (passes n by clients servers)
  passes_waits n by clients servers h = record {
    clock = asked_step x Finds key ask.first made n (passes n by clients servers) (Passes by clients servers) h.clock;
    entry = entry_later h.entry;
    posts = λ i q at is young. h.posts i q at is (omega arith);
    ticket = record { ticket = h.ticket.ticket; at = h.ticket.at; is = h.ticket.is; state = state_later h.ticket.state };
    number_is = h.number_is;
    made_is = h.made_is;
  }
    where
      entry_later : EntryIn n (n.entries key) n.log → EntryIn (passes n by clients servers) (n.entries key) n.log
      entry_later (inl none) = inl (none_later (server_now n key) (server_now (passes n by clients servers) key)
          (shows_on n.pace h.clock.timely.some by (servers key.server) (n.server_clocks key.server) h.clock.server_told) (n.entries key) none)
      entry_later (inr d) = inr (record {
        entry = d.entry;
        at = d.at;
        begun = begun_passes x Finds key ask.first made n by clients servers d.entry.begin d.begun;
        choice = d.choice;
        request = d.request;
        reply = d.reply;
        state = d.state;
        given = d.given;
      })

      on : client_now n key ≤ client_now (passes n by clients servers) key
      on = shows_on n.pace h.clock.timely.some by (clients key.client) (n.client_clocks key.client) h.clock.client_told

      over_later : IsAnswered number ask n.log ⊎ IsGivenUp (n.restarted key.client) (client_now n key)
          → IsAnswered number ask n.log ⊎ IsGivenUp (n.restarted key.client) (client_now (passes n by clients servers) key)
      over_later (inl a) = inl a
      over_later (inr (inl lost)) = inr (inl lost)
      over_later (inr (inr late)) = inr (inr (let le = on in omega arith))

      state_later : PatientOrOver (n.restarted key.client) (client_now n key) h.ticket.ticket n.log
          → PatientOrOver (n.restarted key.client) (client_now (passes n by clients servers) key) h.ticket.ticket n.log
      state_later (inl p) = inl (record {
        waits = p.waits;
        few = p.few;
        since = p.since;
        passed = let q = p.passed in let le = on in omega arith;
      })
      state_later (inr o) = inr (o.0, over_later o.1)

  changes_waits : (n : Net) (node : ℕ) (change : Octets) → Waits n → Waits (notes_change n node change)
  changes_waits n node change h = record {
    clock = h.clock;
    entry = entry_grows n.pace n.now (n.server_clocks key.server) (n.entries key) n.log log g h.entry;
    posts = λ i q at is young. fine_grows n.log log g q.copy.apdu (h.posts i q at is young);
    ticket = ticket_grows (n.restarted key.client) (client_now n key) (n.tickets key) n.log log g h.ticket;
    number_is = h.number_is;
    made_is = h.made_is;
  }
    where
      log : List Fact
      log = Changed node change ∷ n.log

      g : Grows n.log log
      g = grows_more (Changed node change) n.log

  -- a step with a stranger
  strange_waits : (n m : Net) (aside : IsAside n m) → Waits n
      → Waits (record n { asks = aside.asks; asked = aside.asked; served = aside.served; far = aside.far; log = aside.log })
  strange_waits n m aside h = record {
    clock = h.clock;
    entry = entry_grows n.pace n.now (n.server_clocks key.server) (n.entries key) n.log aside.log aside.grows h.entry;
    posts = λ i q at is young. fine_grows n.log aside.log aside.grows q.copy.apdu (h.posts i q at is young);
    ticket = ticket_grows (n.restarted key.client) (client_now n key) (n.tickets key) n.log aside.log aside.grows h.ticket;
    number_is = h.number_is;
    made_is = h.made_is;
  }

  -- its client begins anew, and the ticket is lost
  ticket_lost : (n : Net) → Waits n → (node exact at : ℕ) → (key.client ≡ node → made < at)
      → TicketFits (if nat_eq key.client node then at else n.restarted key.client)
      (if nat_eq key.client node then clock_at n.pace exact else n.client_clocks key.client).shows
      (if nat_eq key.client node then lost (n.tickets key) else n.tickets key) n.log
  ticket_lost n h node exact at later = go (nat_eq key.client node) refl
    where
      go : (b : Bool) → nat_eq key.client node ≡ b → TicketFits (if b then at else n.restarted key.client)
          (if b then clock_at n.pace exact else n.client_clocks key.client).shows (if b then lost (n.tickets key) else n.tickets key) n.log
      go true is = record {
        ticket = record (h.ticket.ticket) { phase = Idle };
        at = ap lost h.ticket.at;
        is = h.ticket.is;
        state = inr (refl, inr (inl (later (grind (arith, nat_tests)))));
      }
      go false is = h.ticket

  client_lost : (n : Net) (node exact : ℕ) → Waits n → Waits (client_restarted n node exact)
  client_lost n node exact h = record {
    clock = asked_step x Finds key ask.first made n (client_restarted n node exact) (RestartsClient node exact) h.clock;
    entry = h.entry;
    posts = h.posts;
    ticket = ticket_lost n h node exact (n.now + 1) (λ is. let on = h.clock.on in omega arith);
    number_is = h.number_is;
    made_is = h.made_is;
  }

  next_waits : (n : Net) (node exact : ℕ) (quiet : is_quiet n node ≡ true)
      → ((k : Key) (t : ClientTransaction) → k.client ≡ node → n.tickets k ≡ Some t → n.made k < n.now) → Waits n → Waits (next_client n node exact)
  next_waits n node exact quiet earlier h = record {
    clock = asked_step x Finds key ask.first made n (next_client n node exact) (BeginsNext node exact quiet earlier) h.clock;
    entry = h.entry;
    posts = h.posts;
    ticket = ticket_lost n h node exact n.now
        (λ is. let lt = earlier key h.ticket.ticket is h.ticket.at in let e = h.made_is in omega arith);
    number_is = h.number_is;
    made_is = h.made_is;
  }

  client_begins : (n : Net) (node exact : ℕ) (off : IsUnasked n.tickets n.restarted n.sends_until node) → Waits n → Waits (client_begun n node exact)
  client_begins n node exact off h = record {
    clock = asked_step x Finds key ask.first made n (client_begun n node exact) (BeginsClient node exact off) h.clock;
    entry = h.entry;
    posts = h.posts;
    ticket = go (nat_eq key.client node) refl;
    number_is = h.number_is;
    made_is = h.made_is;
  }
    where
      go : (b : Bool) → nat_eq key.client node ≡ b
          → TicketFits (n.restarted key.client) (if b then clock_at n.pace exact else n.client_clocks key.client).shows (n.tickets key) n.log
      go true is = let none = off.tickets key (grind (arith, nat_tests)) in let some = h.ticket.at in absurd cc
      go false is = h.ticket

  server_begins : (n : Net) (node exact : ℕ) (off : IsUnserved n.entries n.far.entries n.serves_from node) → Waits n → Waits (server_begun n node exact)
  server_begins n node exact off h = record {
    clock = asked_step x Finds key ask.first made n (server_begun n node exact) (BeginsServer node exact off) h.clock;
    entry = go (nat_eq key.server node) refl;
    posts = h.posts;
    ticket = h.ticket;
    number_is = h.number_is;
    made_is = h.made_is;
  }
    where
      go : (b : Bool) → nat_eq key.server node ≡ b
          → EntryFits n.pace n.now (if b then clock_at n.pace exact else n.server_clocks key.server) (n.entries key) n.log
      go true is = subst (λ (o : Option ServerTransaction). EntryFits n.pace n.now (clock_at n.pace exact) o n.log)
          (sym (off.entries key (grind (arith, nat_tests)))) (inl refl)
      go false is = h.entry

  -- its server restarts, and the entry is lost
  server_lost : (n : Net) (node exact : ℕ) (store : Option Octets) → Waits n → Waits (server_restarted n node exact store)
  server_lost n node exact store h = record {
    clock = asked_step x Finds key ask.first made n (server_restarted n node exact store) (RestartsServer node exact store) h.clock;
    entry = go (nat_eq key.server node);
    posts = λ i q at is young. fine_grows n.log log g q.copy.apdu (h.posts i q at is young);
    ticket = ticket_grows (n.restarted key.client) (client_now n key) (n.tickets key) n.log log g h.ticket;
    number_is = h.number_is;
    made_is = h.made_is;
  }
    where
      log : List Fact
      log = Restarted node store ∷ n.log

      g : Grows n.log log
      g = grows_more (Restarted node store) n.log

      go : (b : Bool) → EntryFits n.pace n.now (if b then clock_at n.pace exact else n.server_clocks key.server) (if b then None else n.entries key) log
      go true = inl refl
      go false = entry_grows n.pace n.now (n.server_clocks key.server) (n.entries key) n.log log g h.entry

  waits_step : ask.whole ≡ true → (n m : Net) → Step x Finds n m → Waits n → Soon n → Waits m
  waits_step whole n _ (Asks k choice w front rest free) h soon = asked_waits n k (ask_of (client_now n k) choice w front rest)
      (λ is. let held = ap (is_id_held n) is ∙ key_held n h soon in absurd (let z = sym held ∙ free in cc)) h
  waits_step whole n _ (Serves i q free service comes up finds) h soon =
      server_waits n q.key (server.server_on_apdu (server_context x q.key (server_now n q.key)) service (n.entries q.key) (is_room n q.key free) q.copy.apdu) h
      (λ is.
      let a = fine_up n.log q.copy.apdu up (fine_comes n h i q comes is) in
      subst (λ (j : Key). ServerGoal n (server.server_on_apdu (server_context x j (server_now n j)) service (n.entries j) (is_room n j free) q.copy.apdu))
      (sym is)
      (subst (λ (y : Apdu). ServerGoal n (server.server_on_apdu (server_context x key (server_now n key)) service (n.entries key) (is_room n key free) y))
      (sym a)
      (serves_request n h soon service (is_room n key free)
      (finds (record { post = q; at = comes.at; key_is = is; apdu_is = a; arrives = comes.arrives })) h.entry)))
  waits_step whole n _ (Hears i q t comes down there) h soon =
      client_waits n q.key t (client.client_on_apdu (client_context x q.key (client_now n q.key)) x.readable t q.copy.apdu) h (λ is.
      let r = fine_down n.log q.copy.apdu down (fine_comes n h i q comes is) in
      let k = known n t (ap n.tickets (sym is) ∙ there) h in
      subst (λ (j : Key). ClientGoal n t (client.client_on_apdu (client_context x j (client_now n j)) x.readable t q.copy.apdu)) (sym is)
      (subst (λ (y : Apdu). ClientGoal n t (client.client_on_apdu (client_context x key (client_now n key)) x.readable t y)) (sym r.1)
      (hears_answer n r.0 r.2 t k.0 k.1)))
  waits_step whole n _ (TicksTicket k t there) h soon =
      client_waits n k t (client.client_ticks (client_context x k (client_now n k)) t) h (λ is.
      let y = known n t (ap n.tickets (sym is) ∙ there) h in
      subst (λ (j : Key). ClientGoal n t (client.client_ticks (client_context x j (client_now n j)) t)) (sym is) (ticks_timer n whole t y.0 y.1))
  waits_step whole n _ (TicksEntry k) h soon =
      server_waits n k (server.server_ticks (server_context x k (server_now n k)) (n.entries k)) h (λ is.
      subst (λ (j : Key). ServerGoal n (server.server_ticks (server_context x j (server_now n j)) (n.entries j))) (sym is)
      (ticks_entry n h.clock soon h.entry))
  waits_step whole n _ (Passes by clients servers) h soon = passes_waits n by clients servers h
  waits_step whole n _ (Changes node change) h soon = changes_waits n node change h
  waits_step whole n _ (Strange m aside) h soon = strange_waits n m aside h
  waits_step whole n _ (RestartsClient node exact) h soon = client_lost n node exact h
  waits_step whole n _ (RestartsServer node exact store) h soon = server_lost n node exact store h
  waits_step whole n _ (BeginsClient node exact off) h soon = client_begins n node exact off h
  waits_step whole n _ (BeginsServer node exact off) h soon = server_begins n node exact off h
  waits_step whole n _ (BeginsNext node exact quiet earlier) h soon = next_waits n node exact quiet earlier h

  pub waits_path : ask.whole ≡ true → (n m : Net) → Path x Finds n m → Waits n → Soon m → Waits m
  waits_path whole n _ Here h soon = h
  waits_path whole n _ (Then l m p s) h soon =
      let earlier = soon_before x Finds key ask.first made l m s soon in
      waits_step whole l m s (waits_path whole n l p h earlier) earlier
