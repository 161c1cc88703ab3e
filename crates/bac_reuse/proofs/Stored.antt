-- Each event of a run in which servers let invoke IDs be used again is moves of its net; so its log is right, with the stores.
use Rattle.std.proofs.Common.{◌≡◌, ℕ, ◌⊎◌, Bool, true, false, List, [], ◌∷◌, Option, Some, None, slice_get, if◌then◌else◌, refl, ap, sym, subst, inl, inr, ◌∙◌}
use Rattle.bac_apdu.specs.Apdu.{Apdu}
use Rattle.bac_protocol.specs.Context.{Context}
use Rattle.bac_protocol.specs.Pace.{IsTimely, Pace}
use Rattle.bac_protocol.specs.Service.{Ending, Octets, Request}
use Rattle.bac_protocol.specs.Wire.{is_from_client}
use Rattle.bac_protocol.specs.Client as client
use Rattle.bac_protocol.specs.Client.{Ask, ClientTransaction, request_of}
use Rattle.bac_protocol.specs.Server as server
use Rattle.bac_protocol.specs.Server.{Effect, Service}
use Rattle.bac_protocol.specs.Log.{Fact, Has, IsUnperformed, StoreModel}
use Rattle.bac_protocol.specs.Log.Fact.{Asked}
use Rattle.bac_protocol.specs.Reuse.{server_hears}
use Rattle.bac_protocol.specs.Transaction.{Key, Rules, client_context, ended, ended_away, performed, served, server_context}
use Rattle.bac_protocol.specs.World.{Event, Net, Post, World, ask_made, asked_at, asked_away, asked_away_at, begin_of, client_acts, client_acts_away}
use Rattle.bac_protocol.specs.World.{client_now, is_deliverable, is_id_held, is_id_held_away, is_room, net_start, reacts, reacts_away, server_acts}
use Rattle.bac_protocol.specs.World.{server_acts_away, server_now, serves, serves_away}
use Rattle.bac_protocol.specs.World.{service_of, start, stored, strays_to_client, takes_at_client, ticks_as_client, ticks_as_client_away, ticks_as_server}
use Rattle.bac_protocol.specs.World.{ticks_as_server_away, ticks_ticket, ticks_ticket_away}
use Rattle.bac_protocol.specs.World.Event.{MakeAsk, Deliver, Tick, Noise, Advance, Change, RestartClient, RestartServer, Begin, BeginAgain, Stray, AskAway, TickAway}
use Rattle.bac_protocol.specs.Claims.{IsBounded}
use Rattle.bac_protocol.specs.Moves.{Move, strayed_to_client, taken_by_client, ticket_ticked, ticket_ticked_away}
use Rattle.bac_protocol.specs.Moves.Move.{Asks, Arrives, TicksTicket, TicksEntry, Passes, Changes, RestartsClient, RestartsServer, Begins, BeginsAgain}
use Rattle.bac_protocol.specs.World.{begun, begun_again, is_active, is_quiet}
use Rattle.bac_protocol.specs.Moves.Move.{Strays, AsksAway, TicksTicketAway, TicksEntryAway}
use Rattle.bac_protocol.proofs.Served.{IsServed, ticks_quiet}
use Rattle.bac_reuse.specs.Once.{IsOnceSo}
use Rattle.bac_reuse.specs.Moves.{IsInOrderSo, IsOrderlySo, IsReachedSo, arrived_so, moved_so, strayed_to_server_so, taken_by_server_so}
use Rattle.bac_reuse.specs.Moves.{IsReachedSoIn}
use Rattle.bac_reuse.specs.Moves.IsReachedSo.{Still, Moved}
use Rattle.bac_reuse.specs.Moves.IsReachedSoIn.{Still as begins, Moved as goes_on, Turned as turns}
use Rattle.bac_reuse.specs.Stretches.{ArePermitted, BeginWithTurn, Stretch, Turns, run_so_in}
use Rattle.bac_protocol.specs.World.{happens}
use Rattle.bac_reuse.specs.Runs.{AreOf, Reusing, with_reuses, delivered_so, happens_so, run_so, strays_so, takes_at_server_so}
use Rattle.bac_reuse.proofs.FreshReads.{hears_served}
use Rattle.bac_reuse.proofs.Orderly.{one_ask}
use Rattle.bac_reuse.proofs.ReusingMoves.{in_order_so, in_order_so_in}

-- what is reached, where these servers let invoke IDs be used again now, of those that ever do
module _ (S : Type 0) (model : StoreModel S) (opening : ℕ → S) (x : Rules) (ever : Reusing) (reuses : ℕ → Bool) (IsReachedHere : Net → Type 0)
    (known : (n : Net) → IsReachedHere n → IsInOrderSo ever n)
    (moves_on : (n : Net) → IsReachedHere n → (m : Move) → IsReachedHere (moved_so x (with_reuses ever reuses) n m)) where
  abbrev u : Reusing
  u = with_reuses ever reuses

  abbrev IsRight : List Fact → (ℕ → S) → Type 0
  IsRight log stores = IsOnceSo S model ever opening log stores

  -- moves lead to its net, and its log is right
  pub record Stored (w : World S) : Type 0 where
    pub reached : IsReachedHere w.net
    pub right : IsRight w.net.log w.stores

  -- A client acts.

  right_ended : (log : List Fact) (stores : ℕ → S) → IsRight log stores → (i : ℕ) (o : Option Ending) → IsOrderlySo ever (ended i o log)
      → IsRight (ended i o log) stores
  right_ended log stores h i None right = h
  right_ended log stores h i (Some how) right = (stores, (right.0, right.1, λ node. refl), h)

  right_ended_away : (log : List Fact) (stores : ℕ → S) → IsRight log stores → (i : ℕ) (o : Option Ending) → IsOrderlySo ever (ended_away i o log)
      → IsRight (ended_away i o log) stores
  right_ended_away log stores h i None right = h
  right_ended_away log stores h i (Some how) right = (stores, (right.0, right.1, λ node. refl), h)

  module _ (w : World S) (h : Stored w) where
    client_stored : (key : Key) (t : ClientTransaction) (r : client.Reaction) → IsReachedHere (client_acts w.net key t r) → Stored (reacts S w key t r)
    client_stored key t r reached = record {
      reached = reached;
      right = right_ended w.net.log w.stores h.right (w.net.numbers key) (client.ending_of r) (known (client_acts w.net key t r) reached).orderly;
    }

    client_away_stored : (key : Key) (t : ClientTransaction) (r : client.Reaction) → IsReachedHere (client_acts_away w.net key t r)
        → Stored (reacts_away S w key t r)
    client_away_stored key t r reached = record {
      reached = reached;
      right = right_ended_away w.net.log w.stores h.right (w.net.far.numbers key) (client.ending_of r) (known (client_acts_away w.net key t r) reached).orderly;
    }

    -- A server acts.

    right_performed : (key : Key) (t : ClientTransaction) → w.net.tickets key ≡ Some t → (o : Option Effect) → IsServed (service_of S model w key) o
        → IsOrderlySo ever (performed (w.net.numbers key) o w.net.log) → IsRight (performed (w.net.numbers key) o w.net.log) (stored S model key.server o w.stores)
    right_performed key t at None is right = h.right
    right_performed key t at (Some e) is right =
        (w.stores, (key.client, key.server, asked, before, is, λ node. refl), h.right)
      where
        was_asked : Has (Asked (w.net.numbers key) key.client key.server (request_of t.ask)) w.net.log
        was_asked = (known w.net h.reached).asked key t at

        -- it is the one that was asked
        one : (right.0.1 ≡ key.server) × (e.request ≡ request_of t.ask)
        one = one_ask ever w.net.log right.1 (w.net.numbers key) right.0.0 right.0.1 key.client key.server e.request (request_of t.ask) right.0.2 was_asked

        asked : Has (Asked (w.net.numbers key) key.client key.server e.request) w.net.log
        asked = subst (λ (q : Request). Has (Asked (w.net.numbers key) key.client key.server q) w.net.log) (sym one.1) was_asked

        before : IsUnperformed (w.net.numbers key) w.net.log ⊎ ((ever.reuses key.server ≡ true) × (ever.reads e.request.choice ≡ true))
        before = subst (λ (s : ℕ). IsUnperformed (w.net.numbers key) w.net.log ⊎ ((ever.reuses s ≡ true) × (ever.reads e.request.choice ≡ true))) one.0 right.0.3

    server_stored : (key : Key) (t : ClientTransaction) → w.net.tickets key ≡ Some t → (v : server.Reaction) → IsServed (service_of S model w key) v.effect
        → IsReachedHere (server_acts w.net key v) → Stored (serves S model w key v)
    server_stored key t at v is reached = record {
      reached = reached;
      right = right_performed key t at v.effect is (known (server_acts w.net key v) reached).orderly;
    }

    right_served : (key : Key) (begin : ℕ) (o : Option Effect) → IsServed (service_of S model w key) o
        → IsRight (served key begin o w.net.log) (stored S model key.server o w.stores)
    right_served key begin None is = h.right
    right_served key begin (Some e) is = (w.stores, (is, λ node. refl), h.right)

    server_away_stored : (key : Key) (v : server.Reaction) → IsServed (service_of S model w key) v.effect → IsReachedHere (server_acts_away w.net key v)
        → Stored (serves_away S model w key v)
    server_away_stored key v is reached = record { reached = reached; right = right_served key (begin_of v.entry) v.effect is }

    -- Copies.

    abbrev service_here : Key → Service
    service_here key = service_of S model w key

    module _ (number : ℕ) (free : Bool) (p : Post) (at : slice_get w.net.posts number ≡ Some p) (may : is_deliverable x w.net number p ≡ true) where
      abbrev way : Bool → Net
      way b = if b then taken_by_server_so x u w.net p free (service_here p.key) else taken_by_client x w.net p (w.net.tickets p.key)

      arrived : (b : Bool) → is_from_client p.copy.apdu ≡ b → IsReachedHere (way b)
      arrived b is = subst IsReachedHere
          (ap (arrived_so x u w.net number free (service_here p.key)) at ∙ ap (λ d. if d then way (is_from_client p.copy.apdu) else w.net) may ∙ ap way is)
          (moves_on w.net h.reached (Arrives number free (service_here p.key)))

      at_client : (o : Option ClientTransaction) → IsReachedHere (taken_by_client x w.net p o) → Stored (takes_at_client S x w p.key p.copy.apdu o)
      at_client None reached = h
      at_client (Some t) reached =
          client_stored p.key t (client.client_on_apdu (client_context x p.key (client_now w.net p.key)) x.readable t p.copy.apdu) reached

      at_server : (o : Option ClientTransaction) → w.net.tickets p.key ≡ o → IsReachedHere (taken_by_server_so x u w.net p free (service_here p.key))
          → Stored (takes_at_server_so S model x u w p.key free p.copy.apdu)
      at_server None none reached = absurd ((known w.net h.reached).posted number p at none)
      at_server (Some t) there reached =
          let c = server_context x p.key (server_now w.net p.key) in
          server_stored p.key t there
          (server_hears (u.reuses p.key.server) c (service_here p.key) u.reads (w.net.entries p.key) (is_room w.net p.key free) p.copy.apdu)
          (hears_served c (service_here p.key) (u.reuses p.key.server) u.reads (w.net.entries p.key) (is_room w.net p.key free) p.copy.apdu) reached

      comes : (b : Bool) → is_from_client p.copy.apdu ≡ b
          → Stored (if b then takes_at_server_so S model x u w p.key free p.copy.apdu else takes_at_client S x w p.key p.copy.apdu (w.net.tickets p.key))
      comes true is = at_server (w.net.tickets p.key) refl (arrived true is)
      comes false is = at_client (w.net.tickets p.key) (arrived false is)

    delivers : (number : ℕ) (free : Bool) (o : Option Post) → slice_get w.net.posts number ≡ o → Stored (delivered_so S model x u w number free o)
    delivers number free None at = h
    delivers number free (Some p) at = go (is_deliverable x w.net number p) refl
      where
        go : (b : Bool) → is_deliverable x w.net number p ≡ b
            → Stored (if b then (if is_from_client p.copy.apdu then takes_at_server_so S model x u w p.key free p.copy.apdu
            else takes_at_client S x w p.key p.copy.apdu (w.net.tickets p.key)) else w)
        go true may = comes number free p at may (is_from_client p.copy.apdu) refl
        go false may = h

    -- Ticks.

    ticket_ticks : (key : Key) (o : Option ClientTransaction) → w.net.tickets key ≡ o → Stored (ticks_ticket S x w key o)
    ticket_ticks key None at = h
    ticket_ticks key (Some t) at = client_stored key t (client.client_ticks (client_context x key (client_now w.net key)) t)
        (subst IsReachedHere (ap (ticket_ticked x w.net key) at) (moves_on w.net h.reached (TicksTicket key)))

    entry_ticks : (key : Key) → Stored (serves S model w key (server.server_ticks (server_context x key (server_now w.net key)) (w.net.entries key)))
    entry_ticks key = record {
      reached = moves_on w.net h.reached (TicksEntry key);
      right = subst (λ (o : Option Effect). IsRight (performed (w.net.numbers key) o w.net.log) (stored S model key.server o w.stores))
          (sym (ticks_quiet (server_context x key (server_now w.net key)) (w.net.entries key))) h.right;
    }

    ticket_ticks_away : (key : Key) (o : Option ClientTransaction) → w.net.far.tickets key ≡ o → Stored (ticks_ticket_away S x w key o)
    ticket_ticks_away key None at = h
    ticket_ticks_away key (Some t) at = client_away_stored key t (client.client_ticks (client_context x key (client_now w.net key)) t)
        (subst IsReachedHere (ap (ticket_ticked_away x w.net key) at) (moves_on w.net h.reached (TicksTicketAway key)))

    entry_ticks_away : (key : Key)
        → Stored (serves_away S model w key (server.server_ticks (server_context x key (server_now w.net key)) (w.net.far.entries key)))
    entry_ticks_away key =
        let c = server_context x key (server_now w.net key) in
        server_away_stored key (server.server_ticks c (w.net.far.entries key))
        (subst (IsServed (service_here key)) (sym (ticks_quiet c (w.net.far.entries key))) tt) (moves_on w.net h.reached (TicksEntryAway key))

    -- Asks.

    module _ (key : Key) (choice : ℕ) (whole : Bool) (front : Octets) (rest : List Octets) where
      abbrev ask : Ask
      ask = record { first = client_now w.net key; choice = choice; whole = whole; pieces = front ∷ rest }

      ask_stored : (b : Bool) → is_id_held w.net key ≡ b → Stored (if b then w else ask_made S x w key ask)
      ask_stored true is = h
      ask_stored false is = record {
        reached = reached;
        right = (w.stores, ((known (asked_at x w.net key ask) reached).orderly.0, λ node. refl), h.right);
      }
        where
          reached : IsReachedHere (asked_at x w.net key ask)
          reached = subst IsReachedHere (ap (λ b. if b then w.net else asked_at x w.net key ask) is)
              (moves_on w.net h.reached (Asks key choice whole front rest))

      ask_away_stored : (b : Bool) → is_id_held_away w.net key ≡ b → Stored (if b then w else asked_away S x w key ask)
      ask_away_stored true is = h
      ask_away_stored false is = record {
        reached = reached;
        right = (w.stores, ((known (asked_away_at x w.net key ask) reached).orderly.0, λ node. refl), h.right);
      }
        where
          reached : IsReachedHere (asked_away_at x w.net key ask)
          reached = subst IsReachedHere (ap (λ b. if b then w.net else asked_away_at x w.net key ask) is)
              (moves_on w.net h.reached (AsksAway key choice whole front rest))

    -- Strangers.

    stray_stored : (key : Key) (a : Apdu) (o : Option ClientTransaction) → IsReachedHere (strayed_to_client x w.net key a o)
        → Stored (strays_to_client S x w key a o)
    stray_stored key a None reached = h
    stray_stored key a (Some t) reached = client_away_stored key t (client.client_on_apdu (client_context x key (client_now w.net key)) x.readable t a) reached

    strays_stored : (key : Key) (free : Bool) (a : Apdu) → Stored (strays_so S model x u w key free a)
    strays_stored key free a = go (is_from_client a) refl
      where
        c : Context
        c = server_context x key (server_now w.net key)

        v : server.Reaction
        v = server_hears (u.reuses key.server) c (service_here key) u.reads (w.net.far.entries key) (is_room w.net key free) a

        way : Bool → Net
        way b = if b then strayed_to_server_so x u w.net key free (service_here key) a else strayed_to_client x w.net key a (w.net.far.tickets key)

        reached : (b : Bool) → is_from_client a ≡ b → IsReachedHere (way b)
        reached b is = subst IsReachedHere (ap way is) (moves_on w.net h.reached (Strays key free (service_here key) a))

        go : (b : Bool) → is_from_client a ≡ b → Stored (if b then serves_away S model w key v else strays_to_client S x w key a (w.net.far.tickets key))
        go true is = server_away_stored key v
            (hears_served c (service_here key) (u.reuses key.server) u.reads (w.net.far.entries key) (is_room w.net key free) a)
            (reached true is)
        go false is = stray_stored key a (w.net.far.tickets key) (reached false is)

  -- Ticks of a node.

  clients_tick : (keys : List Key) (w : World S) → Stored w → Stored (ticks_as_client S x keys w)
  clients_tick [] w h = h
  clients_tick (key ∷ keys) w h = clients_tick keys (ticks_ticket S x w key (w.net.tickets key)) (ticket_ticks w h key (w.net.tickets key) refl)

  servers_tick : (keys : List Key) (w : World S) → Stored w → Stored (ticks_as_server S model x keys w)
  servers_tick [] w h = h
  servers_tick (key ∷ keys) w h =
      servers_tick keys (serves S model w key (server.server_ticks (server_context x key (server_now w.net key)) (w.net.entries key))) (entry_ticks w h key)

  clients_tick_away : (keys : List Key) (w : World S) → Stored w → Stored (ticks_as_client_away S x keys w)
  clients_tick_away [] w h = h
  clients_tick_away (key ∷ keys) w h =
      clients_tick_away keys (ticks_ticket_away S x w key (w.net.far.tickets key)) (ticket_ticks_away w h key (w.net.far.tickets key) refl)

  servers_tick_away : (keys : List Key) (w : World S) → Stored w → Stored (ticks_as_server_away S model x keys w)
  servers_tick_away [] w h = h
  servers_tick_away (key ∷ keys) w h =
      servers_tick_away keys (serves_away S model w key (server.server_ticks (server_context x key (server_now w.net key)) (w.net.far.entries key)))
      (entry_ticks_away w h key)

  -- A run.

  event_stored : (w : World S) → Stored w → (e : Event) → Stored (happens_so S model x u w e)
  event_stored w h (MakeAsk key choice whole front rest) = ask_stored w h key choice whole front rest (is_id_held w.net key) refl
  event_stored w h (Deliver number free) = delivers w h number free (slice_get w.net.posts number) refl
  event_stored w h (Tick as_client as_server) = servers_tick as_server (ticks_as_client S x as_client w) (clients_tick as_client w h)
  event_stored w h Noise = h
  event_stored w h (Advance by clients servers) = record { reached = moves_on w.net h.reached (Passes by clients servers); right = h.right }
  event_stored w h (Change node change) =
      record { reached = moves_on w.net h.reached (Changes node change); right = (w.stores, (λ n. refl), h.right) }
  event_stored w h (RestartClient node exact) = record { reached = moves_on w.net h.reached (RestartsClient node exact); right = h.right }
  event_stored w h (RestartServer node exact store) =
      record { reached = moves_on w.net h.reached (RestartsServer node exact store); right = (w.stores, (λ n. refl), h.right) }
  event_stored w h (Begin node exact) = go (is_active w.net node) (moves_on w.net h.reached (Begins node exact))
    where
      go : (b : Bool) → IsReachedHere (if b then w.net else begun w.net node exact)
          → Stored (if b then w else record { net = begun w.net node exact; stores = w.stores })
      go true reached = h
      go false reached = record { reached = reached; right = h.right }
  event_stored w h (BeginAgain node exact) = go (is_quiet w.net node) (moves_on w.net h.reached (BeginsAgain node exact))
    where
      go : (b : Bool) → IsReachedHere (if b then begun_again w.net node exact else w.net)
          → Stored (if b then record { net = begun_again w.net node exact; stores = w.stores } else w)
      go true reached = record { reached = reached; right = h.right }
      go false reached = h
  event_stored w h (Stray key free a) = strays_stored w h key free a
  event_stored w h (AskAway key choice whole front rest) = ask_away_stored w h key choice whole front rest (is_id_held_away w.net key) refl
  event_stored w h (TickAway as_client as_server) = servers_tick_away as_server (ticks_as_client_away S x as_client w) (clients_tick_away as_client w h)

  pub run_stored : (events : List Event) (w : World S) → Stored w → Stored (run_so S model x u events w)
  run_stored [] w h = h
  run_stored (e ∷ es) w h = run_stored es (happens_so S model x u w e) (event_stored w h e)

-- the same rules, and the same servers that let invoke IDs be used again, throughout
module _ (S : Type 0) (model : StoreModel S) (opening : ℕ → S) (W : ℕ) (x : Rules) (bound : IsBounded W x) (u : Reusing) (pace : Pace) (timely : IsTimely pace)
    (clocks : ℕ → ℕ) (events : List Event) where
  abbrev IsReachedSoHere : Net → Type 0
  IsReachedSoHere n = IsReachedSo x u (net_start pace clocks) n

  known_here : (n : Net) → IsReachedSoHere n → IsInOrderSo u n
  known_here n h = in_order_so W x u bound pace timely clocks n h

  moves_here : (n : Net) → IsReachedSoHere n → (m : Move) → IsReachedSoHere (moved_so x u n m)
  moves_here n h m = Moved n m h

  after_stored : Stored S model opening x u u.reuses IsReachedSoHere known_here moves_here (run_so S model x u events (start S pace clocks opening))
  after_stored = run_stored S model opening x u u.reuses IsReachedSoHere known_here moves_here events (start S pace clocks opening)
      (record { reached = Still; right = λ node. refl })

  pub run_reached : IsReachedSo x u (net_start pace clocks) (run_so S model x u events (start S pace clocks opening)).net
  run_reached = after_stored.reached

  pub once_so : IsOnceSo S model u opening (run_so S model x u events (start S pace clocks opening)).net.log
      (run_so S model x u events (start S pace clocks opening)).stores
  once_so = after_stored.right

-- In stretches.

module _ (S : Type 0) (model : StoreModel S) (opening : ℕ → S) (W : ℕ) (ever : Reusing) (pace : Pace) (timely : IsTimely pace) (clocks : ℕ → ℕ) where
  abbrev IsReachedIn : (reuses : ℕ → Bool) → Net → Type 0
  IsReachedIn reuses n = IsReachedSoIn (IsBounded W) ever (net_start pace clocks) reuses n

  record IsRightIn (reuses : ℕ → Bool) (w : World S) : Type 0 where
    reached : IsReachedIn reuses w.net
    right : IsOnceSo S model ever opening w.net.log w.stores

  events_right : (x : Rules) → IsBounded W x → (reuses : ℕ → Bool) (events : List Event) (w : World S) → IsRightIn reuses w
      → IsRightIn reuses (run_so S model x (with_reuses ever reuses) events w)
  events_right x bound reuses events w h =
      let r = run_stored S model opening x ever reuses (IsReachedIn reuses) (λ n g. in_order_so_in W ever pace timely clocks reuses n g)
      (λ n g m. goes_on x bound reuses n m g) events w (record { reached = h.reached; right = h.right }) in
      record { reached = r.reached; right = r.right }

  -- where the first event is a server's restart, that may turn
  begins_right : (x : Rules) → IsBounded W x → (old new : ℕ → Bool) → AreOf new ever → (events : List Event) → BeginWithTurn old new events → (w : World S)
      → IsRightIn old w → IsRightIn new (run_so S model x (with_reuses ever new) events w)
  begins_right x bound old new among (RestartServer node exact store ∷ es) others w h =
      events_right x bound new es (happens S model x w (RestartServer node exact store))
      (record { reached = turns x bound old new among w.net node exact store others h.reached; right = (w.stores, (λ n. refl), h.right) })
  begins_right x bound old new among _ others w h = absurd others

  turned_right : (x : Rules) → IsBounded W x → (old new : ℕ → Bool) → AreOf new ever → (events : List Event) → Turns old new events → (w : World S) → IsRightIn old w
      → IsRightIn new (run_so S model x (with_reuses ever new) events w)
  turned_right x bound old new among events (inl same) w h = events_right x bound new events w (subst (λ (r : ℕ → Bool). IsRightIn r w) (λ i m. sym (same m) i) h)
  turned_right x bound old new among events (inr others) w h = begins_right x bound old new among events others w h

  stretches_right : (ss : List Stretch) (before : ℕ → Bool) (w : World S) → ArePermitted W ever before ss → IsRightIn before w
      → (reuses : ℕ → Bool) × IsRightIn reuses (run_so_in S model ever ss w)
  stretches_right [] before w permitted h = (before, h)
  stretches_right (s ∷ ss) before w permitted h =
      stretches_right ss s.reuses (run_so S model s.rules (with_reuses ever s.reuses) s.events w) permitted.3
      (turned_right s.rules permitted.0 before s.reuses permitted.1 s.events permitted.2 w h)

  pub once_so_in : (before : ℕ → Bool) → AreOf before ever → (ss : List Stretch) → ArePermitted W ever before ss
      → IsOnceSo S model ever opening (run_so_in S model ever ss (start S pace clocks opening)).net.log
      (run_so_in S model ever ss (start S pace clocks opening)).stores
  once_so_in before among ss permitted =
      (stretches_right ss before (start S pace clocks opening) permitted (record { reached = begins before among; right = λ node. refl })).1.right
