-- Where clocks neither gain nor lose, begin together and count milliseconds, all nodes have one clock.
use Rattle.std.proofs.Common.{◌≡◌, ℕ, ◌+◌, ◌*◌, ◌/◌, Bool, true, false, List, [], ◌∷◌, Option, Some, None, slice_get, if◌then◌else◌, nat_eq, refl, ap, ◌∙◌, arith}
use Rattle.std.proofs.Math.Nat.{mul-zero}
use Rattle.bac_apdu.specs.Apdu.{Apdu}
use Rattle.bac_protocol.specs.Pace.{Pace, Clock, period, slack, steps, goes_on, clock_at, one_clock}
use Rattle.bac_protocol.specs.Drift.{KeepsTime, AllKeepTime}
use Rattle.bac_protocol.specs.Wire.{is_from_client}
use Rattle.bac_protocol.specs.Client.{Ask, ClientTransaction}
use Rattle.bac_protocol.specs.Log.{StoreModel}
use Rattle.bac_protocol.specs.Transaction.{Key, Rules, server_context}
use Rattle.bac_protocol.specs.Server.{server_ticks}
use Rattle.bac_protocol.specs.World.{Net, World, Post, Event, is_deliverable, is_id_held, ask_made, arrives, takes_at_client, takes_at_server}
use Rattle.bac_protocol.specs.World.{delivered, ticks_ticket, ticks_as_client, ticks_as_server, serves, with_clock, is_active, begun, is_quiet, begun_again, happens, run, start, client_now, server_now}
use Rattle.bac_protocol.specs.World.Event.{MakeAsk, Deliver, Tick, Noise, Advance, Change, RestartClient, RestartServer, Begin, BeginAgain, Stray, AskAway, TickAway}
use Rattle.bac_protocol.specs.World.{serves_away, is_id_held_away, strays_to_server, strays_to_client, asked_away, ticks_ticket_away, ticks_as_client_away}
use Rattle.bac_protocol.specs.World.{ticks_as_server_away}
use Rattle.bac_protocol.proofs.Paces.{steps_low, steps_high}

pub record IsTrue (now : ℕ) (c : Clock) : Type 0 where
  pub exact : c.exact ≡ now
  pub shows : c.shows ≡ now

-- each clock shows real time
pub record Is (n : Net) : Type 0 where
  pub pace : n.pace ≡ one_clock
  pub clients : (node : ℕ) → IsTrue n.now (n.client_clocks node)
  pub servers : (node : ℕ) → IsTrue n.now (n.server_clocks node)

module _ (S : Type 0) (model : StoreModel S) (x : Rules) where
  asked : (w : World S) → Is w.net → (key : Key) (ask : Ask) (held : Bool) → Is (if held then w else ask_made S x w key ask).net
  asked w h key ask true = h
  asked w h key ask false = record { pace = h.pace; clients = h.clients; servers = h.servers }

  taken : (w : World S) → Is w.net → (key : Key) (a : Apdu) (o : Option ClientTransaction) → Is (takes_at_client S x w key a o).net
  taken w h key a None = h
  taken w h key a (Some t) = record { pace = h.pace; clients = h.clients; servers = h.servers }

  arrived : (w : World S) → Is w.net → (key : Key) (free : Bool) (a : Apdu) (up : Bool)
      → Is (if up then takes_at_server S model x w key free a else takes_at_client S x w key a (w.net.tickets key)).net
  arrived w h key free a true = record { pace = h.pace; clients = h.clients; servers = h.servers }
  arrived w h key free a false = taken w h key a (w.net.tickets key)

  delivered_so : (w : World S) → Is w.net → (number : ℕ) (free : Bool) (o : Option Post) → Is (delivered S model x w number free o).net
  delivered_so w h number free None = h
  delivered_so w h number free (Some p) = go (is_deliverable x w.net number p)
    where
      go : (b : Bool) → Is (if b then arrives S model x w p.key free p.copy.apdu else w).net
      go true = arrived w h p.key free p.copy.apdu (is_from_client p.copy.apdu)
      go false = h

  ticket_ticked : (w : World S) → Is w.net → (key : Key) (o : Option ClientTransaction) → Is (ticks_ticket S x w key o).net
  ticket_ticked w h key None = h
  ticket_ticked w h key (Some t) = record { pace = h.pace; clients = h.clients; servers = h.servers }

  clients_ticked : (keys : List Key) (w : World S) → Is w.net → Is (ticks_as_client S x keys w).net
  clients_ticked [] w h = h
  clients_ticked (key ∷ keys) w h = clients_ticked keys (ticks_ticket S x w key (w.net.tickets key)) (ticket_ticked w h key (w.net.tickets key))

  servers_ticked : (keys : List Key) (w : World S) → Is w.net → Is (ticks_as_server S model x keys w).net
  servers_ticked [] w h = h
  servers_ticked (key ∷ keys) w h =
      servers_ticked keys (serves S model w key (server_ticks (server_context x key (server_now w.net key)) (w.net.entries key)))
      (record { pace = h.pace; clients = h.clients; servers = h.servers })

  -- without drift a clock goes on by real time
  no_slack : (by : ℕ) → slack one_clock by ≡ 0
  no_slack by = ap (λ (n : ℕ). n / 1000000) (mul-zero by)

  steps_so : (by own : ℕ) → steps one_clock by own ≡ by
  steps_so by own = let low = steps_low one_clock by own in let high = steps_high one_clock by own in let none = no_slack by in omega arith

  by_one : (n : ℕ) → 1 * (n / 1) ≡ n
  by_one n = omega arith

  on : (p : Pace) → p ≡ one_clock → (now by own : ℕ) (c : Clock) → IsTrue now c → IsTrue (now + by) (goes_on p by own c)
  on p is now by own c h = record { exact = exact; shows = (λ i. (is i).tick * (exact i / period (is i))) ∙ by_one (now + by) }
    where
      exact : c.exact + steps p by own ≡ now + by
      exact = (λ i. h.exact i + steps (is i) by own) ∙ ap (λ (k : ℕ). now + k) (steps_so by own)

  anew : (p : Pace) → p ≡ one_clock → (now exact : ℕ) → exact ≡ now → IsTrue now (clock_at p exact)
  anew p is now exact same = record { exact = same; shows = (λ i. (is i).tick * (same i / period (is i))) ∙ by_one now }

  -- clocks of which one begins anew
  begin_so : (w : World S) → Is w.net → (node exact : ℕ) → exact ≡ w.net.now → (clocks : ℕ → Clock) → ((m : ℕ) → IsTrue w.net.now (clocks m))
      → (m : ℕ) → IsTrue w.net.now (with_clock w.net.pace node exact clocks m)
  begin_so w h node exact same clocks old m = go (nat_eq m node)
    where
      go : (b : Bool) → IsTrue w.net.now (if b then clock_at w.net.pace exact else clocks m)
      go true = anew w.net.pace h.pace w.net.now exact same
      go false = old m

  happened : (w : World S) → Is w.net → (e : Event) → KeepsTime S w e → Is (happens S model x w e).net
  happened w h (MakeAsk key choice whole front rest) t =
      asked w h key (record { first = client_now w.net key; choice = choice; whole = whole; pieces = front ∷ rest }) (is_id_held w.net key)
  happened w h (Deliver number free) t = delivered_so w h number free (slice_get w.net.posts number)
  happened w h (Tick as_client as_server) t = servers_ticked as_server (ticks_as_client S x as_client w) (clients_ticked as_client w h)
  happened w h Noise t = h
  happened w h (Advance by clients servers) t = record {
    pace = h.pace;
    clients = λ node. on w.net.pace h.pace w.net.now by (clients node) (w.net.client_clocks node) (h.clients node);
    servers = λ node. on w.net.pace h.pace w.net.now by (servers node) (w.net.server_clocks node) (h.servers node);
  }
  happened w h (Change node change) t = record { pace = h.pace; clients = h.clients; servers = h.servers }
  happened w h (RestartClient node exact) t = record {
    pace = h.pace;
    clients = begin_so w h node exact t w.net.client_clocks h.clients;
    servers = h.servers;
  }
  happened w h (RestartServer node exact store) t = record {
    pace = h.pace;
    clients = h.clients;
    servers = begin_so w h node exact t w.net.server_clocks h.servers;
  }
  happened w h (Begin node exact) t = begins (is_active w.net node)
    where
      begins : (b : Bool) → Is (if b then w else record { net = begun w.net node exact; stores = w.stores }).net
      begins true = h
      begins false = record {
        pace = h.pace;
        clients = begin_so w h node exact t w.net.client_clocks h.clients;
        servers = begin_so w h node exact t w.net.server_clocks h.servers;
      }
  happened w h (BeginAgain node exact) t = begins (is_quiet w.net node)
    where
      serving : (b : Bool) (m : ℕ) → IsTrue w.net.now ((if b then w.net.server_clocks else with_clock w.net.pace node exact w.net.server_clocks) m)
      serving true m = h.servers m
      serving false m = begin_so w h node exact t w.net.server_clocks h.servers m

      begins : (b : Bool) → Is (if b then record { net = begun_again w.net node exact; stores = w.stores } else w).net
      begins true = record {
        pace = h.pace;
        clients = begin_so w h node exact t w.net.client_clocks h.clients;
        servers = serving (w.net.served node);
      }
      begins false = h
  happened w h (Stray key free a) t = strayed (is_from_client a)
    where
      to_client : (o : Option ClientTransaction) → Is (strays_to_client S x w key a o).net
      to_client None = h
      to_client (Some u) = record { pace = h.pace; clients = h.clients; servers = h.servers }

      strayed : (up : Bool) → Is (if up then strays_to_server S model x w key free a else strays_to_client S x w key a (w.net.far.tickets key)).net
      strayed true = record { pace = h.pace; clients = h.clients; servers = h.servers }
      strayed false = to_client (w.net.far.tickets key)
  happened w h (AskAway key choice whole front rest) t = go (is_id_held_away w.net key)
    where
      go : (held : Bool) → Is (if held then w else asked_away S x w key
          (record { first = client_now w.net key; choice = choice; whole = whole; pieces = front ∷ rest })).net
      go true = h
      go false = record { pace = h.pace; clients = h.clients; servers = h.servers }
  happened w h (TickAway as_client as_server) t = servers as_server (ticks_as_client_away S x as_client w) (clients as_client w h)
    where
      ticket : (w : World S) → Is w.net → (key : Key) (o : Option ClientTransaction) → Is (ticks_ticket_away S x w key o).net
      ticket w h key None = h
      ticket w h key (Some u) = record { pace = h.pace; clients = h.clients; servers = h.servers }

      clients : (keys : List Key) (w : World S) → Is w.net → Is (ticks_as_client_away S x keys w).net
      clients [] w h = h
      clients (key ∷ keys) w h = clients keys (ticks_ticket_away S x w key (w.net.far.tickets key)) (ticket w h key (w.net.far.tickets key))

      servers : (keys : List Key) (w : World S) → Is w.net → Is (ticks_as_server_away S model x keys w).net
      servers [] w h = h
      servers (key ∷ keys) w h = servers keys (serves_away S model w key (server_ticks (server_context x key (server_now w.net key)) (w.net.far.entries key)))
          (record { pace = h.pace; clients = h.clients; servers = h.servers })

  ran : (events : List Event) (w : World S) → AllKeepTime S model x events w → Is w.net → Is (run S model x events w).net
  ran [] w t h = h
  ran (e ∷ es) w t h = ran es (happens S model x w e) t.1 (happened w h e t.0)

  pub one_clock_in_run : (opening : ℕ → S) (events : List Event) → AllKeepTime S model x events (start S one_clock (λ node. 0) opening) → (key : Key)
      → (let w = run S model x events (start S one_clock (λ node. 0) opening) in (client_now w.net key ≡ w.net.now) × (server_now w.net key ≡ w.net.now))
  one_clock_in_run opening events t key =
      let r = ran events (start S one_clock (λ node. 0) opening) t (record {
        pace = refl;
        clients = λ node. record { exact = refl; shows = refl };
        servers = λ node. record { exact = refl; shows = refl };
      }) in
      ((r.clients key.client).shows, (r.servers key.server).shows)
