-- A run of events is a path of single steps of one end, or of asks, of time, of changes at nodes, of restarts, or of late starts. Of each delivery to a server
-- a premise says with which service it comes, and whether a slot is free.
use Rattle.std.proofs.Common.{◌≡◌, ℕ, zero, suc, ◌+◌, ◌≤◌, Bool, true, false, List, [], ◌∷◌, ◌++◌, map, Option, Some, None, slice_get, if◌then◌else◌, ◌⊎◌}
use Rattle.std.proofs.Common.{◌<◌, min, nat_eq, refl, sym, inl, inr, subst, ◌∙◌, arith}
use Rattle.std.proofs.lemmas.Bool.Decides.{nat_tests}
use Rattle.bac_protocol.specs.Service.{Octets, Ending}
use Rattle.bac_protocol.specs.Wire.{is_from_client}
use Rattle.bac_protocol.specs.Client as client
use Rattle.bac_protocol.specs.Client.{Ask, ClientTransaction}
use Rattle.bac_protocol.specs.Server as server
use Rattle.bac_protocol.specs.Server.{Effect, Service}
use Rattle.bac_protocol.specs.Log.{Fact, StoreModel}
use Rattle.bac_protocol.specs.Log.Fact.{Ended, Changed, Restarted}
use Rattle.bac_protocol.specs.Transaction.{Key, Rules, client_context, server_context, ended, performed}
use Rattle.bac_protocol.specs.World.{Net, World, Post, Event, is_deliverable, is_id_held, is_room, asked_at, ask_made, server_acts, notes_change}
use Rattle.bac_protocol.specs.World.{client_restarted, server_restarted, set_at, client_now, server_now, passes, takes_at_client, takes_at_server, net_start}
use Rattle.bac_protocol.specs.World.{delivered, happens, run, ticks_ticket, ticks_as_client, ticks_as_server, serves, service_of, post_of}
use Rattle.bac_protocol.specs.declared.times.TheConstants.{DEADLINE, KEEP}
use Rattle.bac_protocol.specs.Pace.{Pace, clock_at, most}
use Rattle.bac_protocol.specs.World.Event.{MakeAsk, Deliver, Tick, Noise, Advance, Change, RestartClient, RestartServer, Begin, BeginAgain, Stray, AskAway, TickAway}
use Rattle.bac_protocol.specs.World.{lost, with_clock, is_active, begun, client_begun, server_begun, is_quiet, next_client, begun_again}
use Rattle.bac_protocol.specs.World.{client_acts_away, server_acts_away, asked_away_at, is_id_held_away, strays_to_client, strays_to_server}
use Rattle.bac_protocol.specs.World.{asked_away, ticks_ticket_away, ticks_as_client_away, ticks_as_server_away, serves_away}
use Rattle.bac_protocol.proofs.Aside.{IsAside, client_aside, server_aside, asked_aside}
use Rattle.bac_protocol.specs.Moves.{taken_by_client, taken_by_server, ticket_ticked}
use Rattle.bac_protocol.proofs.Keys.{decide_key, set_same, set_other}
use Rattle.bac_protocol.proofs.Facts.{Grows, grows_same, grows_more}
use Rattle.bac_protocol.proofs.Nets.{was_there}
use Rattle.bac_protocol.proofs.Resting.{IsUnasked, IsUnserved, Unasked, Unserved, not_active, unasked_acts, unasked_anew, unasked_asks, unasked_restarts}
use Rattle.bac_protocol.proofs.Resting.{unserved_acts, unserved_restarts}
use Rattle.bac_liveness.specs.Runs.{StaysSince, Throughout}

pub some_is : {A : Type 0} (a b : A) → Some a ≡ Some b → a ≡ b
some_is a b e = cc

abbrev pub ask_of : (now choice : ℕ) (whole : Bool) (front : Octets) (rest : List Octets) → Ask
ask_of now choice whole front rest = record { first = now; choice = choice; whole = whole; pieces = front ∷ rest }

-- the copy of that number may be delivered
pub record Comes (x : Rules) (n : Net) (number : ℕ) (p : Post) : Type 0 where
  pub at : slice_get n.posts number ≡ Some p
  pub arrives : is_deliverable x n number p ≡ true

pub data Step (x : Rules) (Q : Net → ℕ → Bool → Service → Type 0) (n : Net) : Net → Type 0 where
  Asks : (key : Key) (choice : ℕ) (whole : Bool) (front : Octets) (rest : List Octets) → is_id_held n key ≡ false
      → Step x Q n (asked_at x n key (ask_of (client_now n key) choice whole front rest))
  Serves : (number : ℕ) (p : Post) (free : Bool) (service : Service) → Comes x n number p → is_from_client p.copy.apdu ≡ true
      → Q n number free service → Step x Q n (taken_by_server x n p free service)
  Hears : (number : ℕ) (p : Post) (t : ClientTransaction) → Comes x n number p → is_from_client p.copy.apdu ≡ false → n.tickets p.key ≡ Some t
      → Step x Q n (taken_by_client x n p (Some t))
  TicksTicket : (key : Key) (t : ClientTransaction) → n.tickets key ≡ Some t → Step x Q n (ticket_ticked x n key (Some t))
  TicksEntry : (key : Key) → Step x Q n (server_acts n key (server.server_ticks (server_context x key (server_now n key)) (n.entries key)))
  Passes : (by : ℕ) (clients servers : ℕ → ℕ) → Step x Q n (passes n by clients servers)
  Changes : (node : ℕ) (change : Octets) → Step x Q n (notes_change n node change)
  RestartsClient : (node exact : ℕ) → Step x Q n (client_restarted n node exact)
  RestartsServer : (node exact : ℕ) (store : Option Octets) → Step x Q n (server_restarted n node exact store)
  BeginsClient : (node exact : ℕ) → IsUnasked n.tickets n.restarted n.sends_until node → Step x Q n (client_begun n node exact)
  BeginsServer : (node exact : ℕ) → IsUnserved n.entries n.far.entries n.serves_from node → Step x Q n (server_begun n node exact)
  BeginsNext : (node exact : ℕ) → is_quiet n node ≡ true
      → ((key : Key) (t : ClientTransaction) → key.client ≡ node → n.tickets key ≡ Some t → n.made key < n.now) → Step x Q n (next_client n node exact)
  -- a step with a stranger: nothing of nodes among themselves changes
  Strange : (m : Net) (aside : IsAside n m) → Step x Q n
      (record n { asks = aside.asks; asked = aside.asked; served = aside.served; far = aside.far; log = aside.log })

-- no ask was made later than now, and no client restarted later; what a node has that never asked, or never served
pub record Bounded (n : Net) : Type 0 where
  pub made : (key : Key) → n.made key ≤ n.now
  pub lives : (node : ℕ) → n.restarted node ≤ n.now + 1
  pub sends : (key : Key) (t : ClientTransaction) → n.tickets key ≡ Some t → n.made key < n.sends_until key.client
  pub unasked : Unasked n
  pub unserved : Unserved n

-- an ask of that real moment was made by now, and then its client was to send for it
pub record WasMade (now sends made : ℕ) : Type 0 where
  pub by_now : made ≤ now
  pub sent : made < sends

abbrev pub WasMadeIn : Net → Key → (made : ℕ) → Type 0
WasMadeIn n key made = WasMade n.now (n.sends_until key.client) made

pub bounded_start : (pace : Pace) (clocks : ℕ → ℕ) → Bounded (net_start pace clocks)
bounded_start pace clocks = record {
  made = λ key. omega arith;
  lives = λ node. omega arith;
  sends = λ key t at. absurd cc;
  unasked = λ node off. record { tickets = λ key is. refl; restarted = refl; sends = refl };
  unserved = λ node off. record { entries = λ key is. refl; away = λ key is. refl; opens = refl };
}

pub data Path (x : Rules) (Q : Net → ℕ → Bool → Service → Type 0) (from : Net) : Net → Type 0 where
  Here : Path x Q from from
  Then : (n m : Net) → Path x Q from n → Step x Q n m → Path x Q from m

-- What stays on a path: the clock goes on, and facts and copies stay.

pub grows_ended : (n : ℕ) (o : Option Ending) (log : List Fact) → Grows log (ended n o log)
grows_ended n None log = grows_same log
grows_ended n (Some how) log = grows_more (Ended n how) log

pub grows_performed : (n : ℕ) (o : Option Effect) (log : List Fact) → Grows log (performed n o log)
grows_performed n None log = grows_same log
grows_performed n (Some e) log = λ f h. inr h

front_stays : (xs ys : List Post) (i : ℕ) (q : Post) → slice_get xs i ≡ Some q → slice_get (xs ++ ys) i ≡ Some q
front_stays [] ys i q e = absurd cc
front_stays (p ∷ xs) ys zero q e = e
front_stays (p ∷ xs) ys (suc i) q e = front_stays xs ys i q e

-- where another client may begin, all asks were made earlier
pub quiet_before : (n : Net) (node : ℕ) → is_quiet n node ≡ true → (key : Key) (made : ℕ) → WasMadeIn n key made → key.client ≡ node → made < n.now
quiet_before n node quiet key made was is =
    let sent : made < n.sends_until node = subst (λ (m : ℕ). made < n.sends_until m) is was.sent in
    let over : n.sends_until node + n.pace.life + most n.pace KEEP + n.pace.life ≤ n.now = grind (arith, nat_tests) in
    omega arith

-- the client of an ask that is made now is to send for it
pub sent_now : (n : Net) (key : Key) → n.now < (if nat_eq key.client key.client then n.now + most n.pace DEADLINE + 1 else n.sends_until key.client)
sent_now n key = go (nat_eq key.client key.client) (grind (arith, nat_tests))
  where
    go : (b : Bool) → b ≡ true → n.now < (if b then n.now + most n.pace DEADLINE + 1 else n.sends_until key.client)
    go true e = omega arith
    go false e = absurd cc

module _ (x : Rules) (Q : Net → ℕ → Bool → Service → Type 0) where
  pub step_now : (n m : Net) → Step x Q n m → n.now ≤ m.now
  step_now n _ (Asks key choice whole front rest free) = omega arith
  step_now n _ (Serves number p free service at up q) = omega arith
  step_now n _ (Hears number p t at down there) = omega arith
  step_now n _ (TicksTicket key t there) = omega arith
  step_now n _ (TicksEntry key) = omega arith
  step_now n _ (Passes by clients servers) = omega arith
  step_now n _ (Strange m aside) = omega arith
  step_now n _ (BeginsClient node exact off) = omega arith
  step_now n _ (BeginsServer node exact off) = omega arith
  step_now n _ (BeginsNext node exact quiet earlier) = omega arith
  step_now n _ (Changes node change) = omega arith
  step_now n _ (RestartsClient node exact) = omega arith
  step_now n _ (RestartsServer node exact store) = omega arith

  pub step_log : (n m : Net) → Step x Q n m → Grows n.log m.log
  step_log n _ (Asks key choice whole front rest free) = λ f h. inr h
  step_log n _ (Serves number p free service at up q) =
      grows_performed (n.numbers p.key) (server.server_on_apdu (server_context x p.key (server_now n p.key)) service (n.entries p.key)
      (is_room n p.key free) p.copy.apdu).effect n.log
  step_log n _ (Hears number p t at down there) =
      grows_ended (n.numbers p.key) (client.ending_of (client.client_on_apdu (client_context x p.key (client_now n p.key)) x.readable t p.copy.apdu)) n.log
  step_log n _ (TicksTicket key t there) = grows_ended (n.numbers key)
      (client.ending_of (client.client_ticks (client_context x key (client_now n key)) t)) n.log
  step_log n _ (TicksEntry key) = grows_performed (n.numbers key) (server.server_ticks (server_context x key (server_now n key)) (n.entries key)).effect n.log
  step_log n _ (Passes by clients servers) = grows_same n.log
  step_log n _ (Strange m aside) = aside.grows
  step_log n _ (BeginsClient node exact off) = grows_same n.log
  step_log n _ (BeginsServer node exact off) = grows_same n.log
  step_log n _ (BeginsNext node exact quiet earlier) = grows_same n.log
  step_log n _ (Changes node change) = grows_more (Changed node change) n.log
  step_log n _ (RestartsClient node exact) = grows_same n.log
  step_log n _ (RestartsServer node exact store) = grows_more (Restarted node store) n.log

  pub step_posts : (n m : Net) → Step x Q n m → (i : ℕ) (q : Post) → slice_get n.posts i ≡ Some q → slice_get m.posts i ≡ Some q
  step_posts n _ (Asks key choice whole front rest free) i q e =
      let c = client_context x key (client_now n key) in
      front_stays n.posts (map (post_of key n.now) (client.sends_of (client.asks c (ask_of (client_now n key) choice whole front rest)))) i q e
  step_posts n _ (Serves number p free service at up y) i q e =
      front_stays n.posts (map (post_of p.key n.now)
      (server.server_on_apdu (server_context x p.key (server_now n p.key)) service (n.entries p.key) (is_room n p.key free) p.copy.apdu).sends) i q e
  step_posts n _ (Hears number p t at down there) i q e =
      front_stays n.posts (map (post_of p.key n.now)
      (client.sends_of (client.client_on_apdu (client_context x p.key (client_now n p.key)) x.readable t p.copy.apdu))) i q e
  step_posts n _ (TicksTicket key t there) i q e =
      front_stays n.posts (map (post_of key n.now) (client.sends_of (client.client_ticks (client_context x key (client_now n key)) t))) i q e
  step_posts n _ (TicksEntry key) i q e =
      front_stays n.posts (map (post_of key n.now) (server.server_ticks (server_context x key (server_now n key)) (n.entries key)).sends) i q e
  step_posts n _ (Passes by clients servers) i q e = e
  step_posts n _ (Strange m aside) i q e = e
  step_posts n _ (BeginsClient node exact off) i q e = e
  step_posts n _ (BeginsServer node exact off) i q e = e
  step_posts n _ (BeginsNext node exact quiet earlier) i q e = e
  step_posts n _ (Changes node change) i q e = e
  step_posts n _ (RestartsClient node exact) i q e = e
  step_posts n _ (RestartsServer node exact store) i q e = e

  made_by : (n : Net) (key : Key) → Bounded n → (k : Key) → set_at n.made key n.now k ≤ n.now
  made_by n key h k = go (decide_key key k)
    where
      go : ((key ≡ k) ⊎ (key ≡ k → ⊥)) → set_at n.made key n.now k ≤ n.now
      go (inl is) = let e : set_at n.made key n.now k ≡ n.now = subst (λ (j : Key). set_at n.made key n.now j ≡ n.now) is
          (set_same n.made key n.now) in omega arith
      go (inr ne) = let e = set_other n.made key n.now k ne in let le = h.made k in omega arith

  -- while an ask is made, later asks do not shorten for how long its client sends
  pub sends_asked : (b : Bool) (now made most old : ℕ) → made ≤ now → made < old → made < (if b then now + most + 1 else old)
  sends_asked true now made most old on sends = omega arith
  sends_asked false now made most old on sends = sends

  sends_restarted : (b : Bool) (now made old : ℕ) → made ≤ now → made < old → made < (if b then min old (now + 1) else old)
  sends_restarted true now made old on sends = omega arith
  sends_restarted false now made old on sends = sends

  asked_sends : (n : Net) (key : Key) → Bounded n → (made : ClientTransaction) (k : Key) (u : ClientTransaction) → set_at n.tickets key (Some made) k ≡ Some u
      → set_at n.made key n.now k < (if nat_eq k.client key.client then n.now + most n.pace DEADLINE + 1 else n.sends_until k.client)
  asked_sends n key h made k u at = go (decide_key key k)
    where
      go : ((key ≡ k) ⊎ (key ≡ k → ⊥))
          → set_at n.made key n.now k < (if nat_eq k.client key.client then n.now + most n.pace DEADLINE + 1 else n.sends_until k.client)
      go (inl is) = subst (λ (j : Key). set_at n.made key n.now j < (if nat_eq j.client key.client then n.now + most n.pace DEADLINE + 1 else n.sends_until j.client)) is
          (subst (λ (m : ℕ). m < (if nat_eq key.client key.client then n.now + most n.pace DEADLINE + 1 else n.sends_until key.client))
          (sym (set_same n.made key n.now)) (sent_now n key))
      go (inr ne) = subst (λ (m : ℕ). m < (if nat_eq k.client key.client then n.now + most n.pace DEADLINE + 1 else n.sends_until k.client))
          (sym (set_other n.made key n.now k ne))
          (sends_asked (nat_eq k.client key.client) n.now (n.made k) (most n.pace DEADLINE) (n.sends_until k.client) (h.made k)
          (h.sends k u (sym (set_other n.tickets key (Some made) k ne) ∙ at)))

  acted_sends : (n : Net) (key : Key) (t : ClientTransaction) → n.tickets key ≡ Some t → Bounded n → (r : client.Reaction) (k : Key) (u : ClientTransaction)
      → set_at n.tickets key (Some (client.after (client_now n key) t r)) k ≡ Some u → n.made k < n.sends_until k.client
  acted_sends n key t there h r k u at = go (decide_key key k)
    where
      go : ((key ≡ k) ⊎ (key ≡ k → ⊥)) → n.made k < n.sends_until k.client
      go (inl is) = subst (λ (j : Key). n.made j < n.sends_until j.client) is (h.sends key t there)
      go (inr ne) = h.sends k u (sym (set_other n.tickets key (Some (client.after (client_now n key) t r)) k ne) ∙ at)

  pub bounded_step : (n m : Net) → Step x Q n m → Bounded n → Bounded m
  bounded_step n _ (Asks key choice whole front rest free) h = record {
    made = made_by n key h;
    lives = h.lives;
    sends = asked_sends n key h (client.asked_ticket (client_context x key (client_now n key)) (ask_of (client_now n key) choice whole front rest));
    unasked = unasked_asks n h.unasked key
        (Some (client.asked_ticket (client_context x key (client_now n key)) (ask_of (client_now n key) choice whole front rest)))
        (n.now + most n.pace DEADLINE + 1);
    unserved = h.unserved;
  }
  bounded_step n _ (Serves number p free service at up q) h = record {
    made = h.made;
    lives = h.lives;
    sends = h.sends;
    unasked = h.unasked;
    unserved = unserved_acts n h.unserved p.key (server.server_on_apdu (server_context x p.key (server_now n p.key)) service (n.entries p.key)
        (is_room n p.key free) p.copy.apdu).entry;
  }
  bounded_step n _ (Hears number p t at down there) h = record {
    made = h.made;
    lives = h.lives;
    sends = acted_sends n p.key t there h (client.client_on_apdu (client_context x p.key (client_now n p.key)) x.readable t p.copy.apdu);
    unasked = unasked_acts n h.unasked p.key t there (Some (client.after (client_now n p.key) t
        (client.client_on_apdu (client_context x p.key (client_now n p.key)) x.readable t p.copy.apdu)));
    unserved = h.unserved;
  }
  bounded_step n _ (TicksTicket key t there) h = record {
    made = h.made;
    lives = h.lives;
    sends = acted_sends n key t there h (client.client_ticks (client_context x key (client_now n key)) t);
    unasked = unasked_acts n h.unasked key t there (Some (client.after (client_now n key) t (client.client_ticks (client_context x key (client_now n key)) t)));
    unserved = h.unserved;
  }
  bounded_step n _ (TicksEntry key) h = record {
    made = h.made;
    lives = h.lives;
    sends = h.sends;
    unasked = h.unasked;
    unserved = unserved_acts n h.unserved key (server.server_ticks (server_context x key (server_now n key)) (n.entries key)).entry;
  }
  bounded_step n _ (Passes by clients servers) h = record {
    made = λ key. let le = h.made key in omega arith;
    lives = λ node. let le = h.lives node in omega arith;
    sends = h.sends;
    unasked = h.unasked;
    unserved = h.unserved;
  }
  bounded_step n _ (Strange m aside) h = record { made = h.made; lives = h.lives; sends = h.sends; unasked = aside.unasked h.unasked; unserved = aside.unserved h.unserved }
  bounded_step n _ (Changes node change) h = record { made = h.made; lives = h.lives; sends = h.sends; unasked = h.unasked; unserved = h.unserved }
  bounded_step n _ (RestartsClient node exact) h =
      record { made = h.made; lives = λ i. go i (nat_eq i node); sends = sends; unasked = unasked_restarts n h.unasked node; unserved = h.unserved }
    where
      sends : (k : Key) (u : ClientTransaction) → (if nat_eq k.client node then lost (n.tickets k) else n.tickets k) ≡ Some u
          → n.made k < (if nat_eq k.client node then min (n.sends_until k.client) (n.now + 1) else n.sends_until k.client)
      sends k u is = let t = was_there (n.tickets k) (nat_eq k.client node) u is in
          sends_restarted (nat_eq k.client node) n.now (n.made k) (n.sends_until k.client) (h.made k) (h.sends k t.0 t.1)

      go : (i : ℕ) (b : Bool) → (if b then n.now + 1 else n.restarted i) ≤ n.now + 1
      go i true = omega arith
      go i false = h.lives i
  bounded_step n _ (RestartsServer node exact store) h = record {
    made = h.made;
    lives = h.lives;
    sends = h.sends;
    unasked = h.unasked;
    unserved = unserved_restarts n h.unserved node ((clock_at n.pace exact).shows + KEEP + 1);
  }
  bounded_step n _ (BeginsClient node exact off) h = record { made = h.made; lives = h.lives; sends = h.sends; unasked = h.unasked; unserved = h.unserved }
  bounded_step n _ (BeginsServer node exact off) h = record { made = h.made; lives = h.lives; sends = h.sends; unasked = h.unasked; unserved = h.unserved }
  bounded_step n _ (BeginsNext node exact quiet earlier) h = record {
    made = h.made;
    lives = λ i. go i (nat_eq i node);
    sends = λ k u is. let t = was_there (n.tickets k) (nat_eq k.client node) u is in h.sends k t.0 t.1;
    unasked = unasked_anew n h.unasked node n.now n.sends_until (λ m other none. none);
    unserved = h.unserved;
  }
    where
      go : (i : ℕ) (b : Bool) → (if b then n.now else n.restarted i) ≤ n.now + 1
      go i true = omega arith
      go i false = h.lives i

  pub was_made_step : (n m : Net) → Step x Q n m → (key : Key) (made : ℕ) → WasMadeIn n key made → WasMadeIn m key made
  was_made_step n _ (Asks k choice whole front rest free) key made h = record {
    by_now = h.by_now;
    sent = sends_asked (nat_eq key.client k.client) n.now made (most n.pace DEADLINE) (n.sends_until key.client) h.by_now h.sent;
  }
  was_made_step n _ (Serves number p free service at up q) key made h = h
  was_made_step n _ (Hears number p t at down there) key made h = h
  was_made_step n _ (TicksTicket k t there) key made h = h
  was_made_step n _ (TicksEntry k) key made h = h
  was_made_step n _ (Passes by clients servers) key made h = record { by_now = let le = h.by_now in omega arith; sent = h.sent }
  was_made_step n _ (Strange m aside) key made h = h
  was_made_step n _ (Changes node change) key made h = h
  was_made_step n _ (RestartsClient node exact) key made h =
      record { by_now = h.by_now; sent = sends_restarted (nat_eq key.client node) n.now made (n.sends_until key.client) h.by_now h.sent }
  was_made_step n _ (RestartsServer node exact store) key made h = h
  was_made_step n _ (BeginsClient node exact off) key made h = h
  was_made_step n _ (BeginsServer node exact off) key made h = h
  was_made_step n _ (BeginsNext node exact quiet earlier) key made h = h

  pub was_made_path : (n m : Net) → Path x Q n m → (key : Key) (made : ℕ) → WasMadeIn n key made → WasMadeIn m key made
  was_made_path n _ Here key made h = h
  was_made_path n _ (Then l m p s) key made h = was_made_step l m s key made (was_made_path n l p key made h)

  -- a client that has not restarted since an ask had not before
  pub stays_before : (n m : Net) → Step x Q n m → Bounded n → (key : Key) (made : ℕ) → WasMadeIn n key made → StaysSince m key made → StaysSince n key made
  stays_before n _ (Asks k choice whole front rest free) h key made was stays = stays
  stays_before n _ (Serves number p free service at up q) h key made was stays = stays
  stays_before n _ (Hears number p t at down there) h key made was stays = stays
  stays_before n _ (TicksTicket k t there) h key made was stays = stays
  stays_before n _ (TicksEntry k) h key made was stays = stays
  stays_before n _ (Passes by clients servers) h key made was stays = stays
  stays_before n _ (Strange m aside) h key made was stays = stays
  stays_before n _ (Changes node change) h key made was stays = stays
  stays_before n _ (RestartsClient node exact) h key made was stays = go (nat_eq key.client node) stays
    where
      go : (b : Bool) → (if b then n.now + 1 else n.restarted key.client) ≤ made → n.restarted key.client ≤ made
      go true le = let lives = h.lives key.client in omega arith
      go false le = le
  stays_before n _ (RestartsServer node exact store) h key made was stays = stays
  stays_before n _ (BeginsClient node exact off) h key made was stays = stays
  stays_before n _ (BeginsServer node exact off) h key made was stays = stays
  stays_before n _ (BeginsNext node exact quiet earlier) h key made was stays = go (nat_eq key.client node) refl stays
    where
      go : (b : Bool) → nat_eq key.client node ≡ b → (if b then n.now else n.restarted key.client) ≤ made → n.restarted key.client ≤ made
      go true is le = let lt = quiet_before n node quiet key made was (grind (arith, nat_tests)) in absurd (omega arith)
      go false is le = le

  pub path_bounded : (n m : Net) → Path x Q n m → Bounded n → Bounded m
  path_bounded n _ Here h = h
  path_bounded n _ (Then l m p s) h = bounded_step l m s (path_bounded n l p h)

  pub path_stays : (n m : Net) → Path x Q n m → Bounded n → (key : Key) (made : ℕ) → WasMadeIn n key made → StaysSince m key made → StaysSince n key made
  path_stays n _ Here h key made was stays = stays
  path_stays n _ (Then l m p s) h key made was stays = path_stays n l p h key made was
      (stays_before l m s (path_bounded n l p h) key made (was_made_path n l p key made was) stays)

  pub path_now : (n m : Net) → Path x Q n m → n.now ≤ m.now
  path_now n _ Here = omega arith
  path_now n _ (Then l m h s) = omega (arith, path_now n l h, step_now l m s)

  pub path_log : (n m : Net) → Path x Q n m → Grows n.log m.log
  path_log n _ Here = grows_same n.log
  path_log n _ (Then l m h s) = λ f k. step_log l m s f (path_log n l h f k)

  pub path_posts : (n m : Net) → Path x Q n m → (i : ℕ) (q : Post) → slice_get n.posts i ≡ Some q → slice_get m.posts i ≡ Some q
  path_posts n _ Here i q e = e
  path_posts n _ (Then l m h s) i q e = step_posts l m s i q (path_posts n l h i q e)

  pub path_then : (a b c : Net) → Path x Q a b → Path x Q b c → Path x Q a c
  path_then a b _ h Here = h
  path_then a b _ h (Then n m k s) = Then n m (path_then a b n h k) s

  step_path : (n m : Net) → Step x Q n m → Path x Q n m
  step_path n m s = Then n m Here s

  -- what a node does with strangers is a step
  pub aside_step : (n m : Net) → IsAside n m → Step x Q n m
  aside_step n m h = subst (Step x Q n) (sym h.is) (Strange m h)

  -- a node begins, where it neither asked nor served
  pub begin_path : (n : Net) → Bounded n → (node exact : ℕ) (b : Bool) → is_active n node ≡ b → Path x Q n (if b then n else begun n node exact)
  begin_path n h node exact true is = Here
  begin_path n h node exact false off =
      let none = not_active n node off in
      Then (server_begun n node exact) (begun n node exact) (Then n (server_begun n node exact) Here (BeginsServer node exact (h.unserved node none.1)))
      (BeginsClient node exact (h.unasked node none.0))

  -- another client begins at a node, and its server where that never served
  pub begin_again_path : (n : Net) → Bounded n → (node exact : ℕ) (b : Bool) → is_quiet n node ≡ b → Path x Q n (if b then begun_again n node exact else n)
  begin_again_path n h node exact false is = Here
  begin_again_path n h node exact true quiet = go (n.served node) refl
    where
      earlier : (key : Key) (t : ClientTransaction) → key.client ≡ node → n.tickets key ≡ Some t → n.made key < n.now
      earlier key t is at = quiet_before n node quiet key (n.made key) (record { by_now = h.made key; sent = h.sends key t at }) is

      go : (b : Bool) → n.served node ≡ b
          → Path x Q n (record (next_client n node exact) { server_clocks = if b then n.server_clocks else with_clock n.pace node exact n.server_clocks })
      go true is = Then n (next_client n node exact) Here (BeginsNext node exact quiet earlier)
      go false off = Then (server_begun n node exact) (next_client (server_begun n node exact) node exact)
          (Then n (server_begun n node exact) Here (BeginsServer node exact (h.unserved node off))) (BeginsNext node exact quiet earlier)

  -- A run of events is a path.
  module _ (S : Type 0) (model : StoreModel S) where
    -- what the premise says of an event
    abbrev pub Gives : World S → Event → Type 0
    Gives w (Deliver number free) = (p : Post) → slice_get w.net.posts number ≡ Some p → is_from_client p.copy.apdu ≡ true
        → is_deliverable x w.net number p ≡ true → Q w.net number free (service_of S model w p.key)
    Gives w _ = Unit {0}

    pub ask_path : (w : World S) (key : Key) (choice : ℕ) (whole : Bool) (front : Octets) (rest : List Octets) (b : Bool)
        → is_id_held w.net key ≡ b
        → Path x Q w.net (if b then w else ask_made S x w key (ask_of (client_now w.net key) choice whole front rest)).net
    ask_path w key choice whole front rest true e = Here
    ask_path w key choice whole front rest false e =
        step_path w.net (asked_at x w.net key (ask_of (client_now w.net key) choice whole front rest)) (Asks key choice whole front rest e)

    hears_path : (w : World S) (number : ℕ) (p : Post) → Comes x w.net number p → is_from_client p.copy.apdu ≡ false → (o : Option ClientTransaction)
        → w.net.tickets p.key ≡ o → Path x Q w.net (takes_at_client S x w p.key p.copy.apdu o).net
    hears_path w number p at down None there = Here
    hears_path w number p at down (Some t) there = step_path w.net (taken_by_client x w.net p (Some t)) (Hears number p t at down there)

    delivered_path : (w : World S) (number : ℕ) (free : Bool) → Gives w (Deliver number free) → (o : Option Post) → slice_get w.net.posts number ≡ o
        → Path x Q w.net (delivered S model x w number free o).net
    delivered_path w number free q None e = Here
    delivered_path w number free q (Some p) e = go (is_deliverable x w.net number p) refl (is_from_client p.copy.apdu) refl
      where
        go : (b : Bool) → is_deliverable x w.net number p ≡ b → (d : Bool) → is_from_client p.copy.apdu ≡ d
            → Path x Q w.net (if b then (if d then takes_at_server S model x w p.key free p.copy.apdu
            else takes_at_client S x w p.key p.copy.apdu (w.net.tickets p.key)) else w).net
        go false arrives d up = Here
        go true arrives true up =
            let service = service_of S model w p.key in
            step_path w.net (taken_by_server x w.net p free service)
            (Serves number p free service (record { at = e; arrives = arrives }) up (q p e up arrives))
        go true arrives false down = hears_path w number p (record { at = e; arrives = arrives }) down (w.net.tickets p.key) refl

    pub ticket_path : (w : World S) (key : Key) (o : Option ClientTransaction) → w.net.tickets key ≡ o → Path x Q w.net (ticks_ticket S x w key o).net
    ticket_path w key None e = Here
    ticket_path w key (Some t) e = step_path w.net (ticket_ticked x w.net key (Some t)) (TicksTicket key t e)

    pub clients_path : (keys : List Key) (w : World S) → Path x Q w.net (ticks_as_client S x keys w).net
    clients_path [] w = Here
    clients_path (key ∷ keys) w =
        let u = ticks_ticket S x w key (w.net.tickets key) in
        path_then w.net u.net (ticks_as_client S x keys u).net (ticket_path w key (w.net.tickets key) refl) (clients_path keys u)

    pub servers_path : (keys : List Key) (w : World S) → Path x Q w.net (ticks_as_server S model x keys w).net
    servers_path [] w = Here
    servers_path (key ∷ keys) w =
        let u = serves S model w key (server.server_ticks (server_context x key (server_now w.net key)) (w.net.entries key)) in
        path_then w.net u.net (ticks_as_server S model x keys u).net (step_path w.net u.net (TicksEntry key)) (servers_path keys u)

    far_ticket : (w : World S) (key : Key) (o : Option ClientTransaction) → Path x Q w.net (ticks_ticket_away S x w key o).net
    far_ticket w key None = Here
    far_ticket w key (Some t) =
        let r = client.client_ticks (client_context x key (client_now w.net key)) t in
        let m = client_acts_away w.net key t r in
        step_path w.net m (aside_step w.net m (client_aside w.net key t r))

    far_clients : (keys : List Key) (w : World S) → Path x Q w.net (ticks_as_client_away S x keys w).net
    far_clients [] w = Here
    far_clients (key ∷ keys) w =
        let u = ticks_ticket_away S x w key (w.net.far.tickets key) in
        path_then w.net u.net (ticks_as_client_away S x keys u).net (far_ticket w key (w.net.far.tickets key)) (far_clients keys u)

    far_servers : (keys : List Key) (w : World S) → Path x Q w.net (ticks_as_server_away S model x keys w).net
    far_servers [] w = Here
    far_servers (key ∷ keys) w =
        let v = server.server_ticks (server_context x key (server_now w.net key)) (w.net.far.entries key) in
        let u = serves_away S model w key v in
        path_then w.net u.net (ticks_as_server_away S model x keys u).net (step_path w.net u.net (aside_step w.net u.net (server_aside w.net key v)))
        (far_servers keys u)

    pub event_path : (w : World S) → Bounded w.net → (e : Event) → Gives w e → Path x Q w.net (happens S model x w e).net
    event_path w bounded (MakeAsk key choice whole front rest) q = ask_path w key choice whole front rest (is_id_held w.net key) refl
    event_path w bounded (Deliver number free) q = delivered_path w number free q (slice_get w.net.posts number) refl
    event_path w bounded (Tick as_client as_server) q =
        let u = ticks_as_client S x as_client w in
        path_then w.net u.net (ticks_as_server S model x as_server u).net (clients_path as_client w) (servers_path as_server u)
    event_path w bounded Noise q = Here
    event_path w bounded (Advance by clients servers) q = step_path w.net (passes w.net by clients servers) (Passes by clients servers)
    event_path w bounded (Change node change) q = step_path w.net (notes_change w.net node change) (Changes node change)
    event_path w bounded (RestartClient node exact) q = step_path w.net (client_restarted w.net node exact) (RestartsClient node exact)
    event_path w bounded (RestartServer node exact store) q = step_path w.net (server_restarted w.net node exact store) (RestartsServer node exact store)
    event_path w bounded (Begin node exact) q = go (is_active w.net node) (begin_path w.net bounded node exact (is_active w.net node) refl)
      where
        go : (b : Bool) → Path x Q w.net (if b then w.net else begun w.net node exact)
            → Path x Q w.net (if b then w else record { net = begun w.net node exact; stores = w.stores }).net
        go true p = p
        go false p = p
    event_path w bounded (BeginAgain node exact) q = go (is_quiet w.net node) (begin_again_path w.net bounded node exact (is_quiet w.net node) refl)
      where
        go : (b : Bool) → Path x Q w.net (if b then begun_again w.net node exact else w.net)
            → Path x Q w.net (if b then record { net = begun_again w.net node exact; stores = w.stores } else w).net
        go true p = p
        go false p = p
    event_path w bounded (Stray key free a) q = go (is_from_client a)
      where
        to_client : (o : Option ClientTransaction) → Path x Q w.net (strays_to_client S x w key a o).net
        to_client None = Here
        to_client (Some t) =
            let r = client.client_on_apdu (client_context x key (client_now w.net key)) x.readable t a in
            let m = client_acts_away w.net key t r in
            step_path w.net m (aside_step w.net m (client_aside w.net key t r))

        go : (up : Bool) → Path x Q w.net (if up then strays_to_server S model x w key free a else strays_to_client S x w key a (w.net.far.tickets key)).net
        go true =
            let v = server.server_on_apdu (server_context x key (server_now w.net key)) (service_of S model w key) (w.net.far.entries key)
            (is_room w.net key free) a in
            let m = server_acts_away w.net key v in
            step_path w.net m (aside_step w.net m (server_aside w.net key v))
        go false = to_client (w.net.far.tickets key)
    event_path w bounded (AskAway key choice whole front rest) q = go (is_id_held_away w.net key)
      where
        go : (b : Bool) → Path x Q w.net (if b then w else asked_away S x w key (ask_of (client_now w.net key) choice whole front rest)).net
        go true = Here
        go false =
            let ask = ask_of (client_now w.net key) choice whole front rest in
            let m = asked_away_at x w.net key ask in
            step_path w.net m (aside_step w.net m (asked_aside x w.net key ask))
    event_path w bounded (TickAway as_client as_server) q =
        let u = ticks_as_client_away S x as_client w in
        path_then w.net u.net (ticks_as_server_away S model x as_server u).net (far_clients as_client w) (far_servers as_server u)

    pub run_path : (events : List Event) (w : World S) → Bounded w.net → Throughout S model x Gives events w → Path x Q w.net (run S model x events w).net
    run_path [] w bounded q = Here
    run_path (e ∷ es) w bounded q =
        let u = happens S model x w e in
        let first = event_path w bounded e q.0 in
        path_then w.net u.net (run S model x es u).net first (run_path es u (path_bounded w.net u.net first bounded) q.1)

-- Where nothing is said of deliveries, each run is a path.

abbrev pub Any : Net → ℕ → Bool → Service → Type 0
Any n number free service = Unit {0}

module _ (x : Rules) (S : Type 0) (model : StoreModel S) where
  any_event : (w : World S) (e : Event) → Gives x Any S model w e
  any_event w (MakeAsk key choice whole front rest) = tt
  any_event w (Deliver number free) = λ p at up arrives. tt
  any_event w (Tick as_client as_server) = tt
  any_event w Noise = tt
  any_event w (Stray key free a) = tt
  any_event w (AskAway key choice whole front rest) = tt
  any_event w (TickAway as_client as_server) = tt
  any_event w (Advance by clients servers) = tt
  any_event w (Change node change) = tt
  any_event w (RestartClient node exact) = tt
  any_event w (RestartServer node exact store) = tt
  any_event w (Begin node exact) = tt
  any_event w (BeginAgain node exact) = tt

  any_run : (events : List Event) (w : World S) → Throughout S model x (Gives x Any S model) events w
  any_run [] w = tt
  any_run (e ∷ es) w = (any_event w e, any_run es (happens S model x w e))

  pub event_steps : (w : World S) → Bounded w.net → (e : Event) → Path x Any w.net (happens S model x w e).net
  event_steps w bounded e = event_path x Any S model w bounded e (any_event w e)

  pub run_steps : (events : List Event) (w : World S) → Bounded w.net → Path x Any w.net (run S model x events w).net
  run_steps events w bounded = run_path x Any S model events w bounded (any_run events w)
