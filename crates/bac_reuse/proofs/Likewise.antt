-- Where no node lets invoke IDs be used again, a run is as ever; and where no node asks for a read, the log of a run has none.
use Rattle.std.proofs.Common.{◌≡◌, ℕ, Bool, true, false, List, [], ◌∷◌, Option, Some, None, slice_get, if◌then◌else◌, refl, ap, subst, inl, inr, ◌∙◌}
use Rattle.bac_apdu.specs.Apdu.{Apdu}
use Rattle.bac_protocol.specs.Pace.{Pace}
use Rattle.bac_protocol.specs.Service.{Ending, Request}
use Rattle.bac_protocol.specs.Wire.{is_from_client}
use Rattle.bac_protocol.specs.Client as client
use Rattle.bac_protocol.specs.Client.{Ask, ClientTransaction}
use Rattle.bac_protocol.specs.Server as server
use Rattle.bac_protocol.specs.Server.{Effect}
use Rattle.bac_protocol.specs.Log.{Fact, Has, StoreModel}
use Rattle.bac_protocol.specs.Log.Fact.{Asked, AskedAway, Changed, Ended, EndedAway, Performed, Restarted, Served}
use Rattle.bac_protocol.specs.Reuse.{Reads, server_hears}
use Rattle.bac_protocol.specs.Transaction.{Key, Rules, client_context, ended, ended_away, performed, served, server_context}
use Rattle.bac_protocol.specs.World.{begun, begun_again, is_active, is_quiet}
use Rattle.bac_protocol.specs.World.{Event, Post, World, ask_made, arrives, asked_away, begin_of, client_now, delivered, happens, is_deliverable, is_id_held, is_id_held_away}
use Rattle.bac_protocol.specs.World.{is_room, run, server_now, serves, serves_away, service_of, start, strays, strays_to_client, takes_at_client, takes_at_server}
use Rattle.bac_protocol.specs.World.{ticks_as_client, ticks_as_client_away, ticks_as_server, ticks_as_server_away, ticks_ticket, ticks_ticket_away}
use Rattle.bac_protocol.specs.World.Event.{MakeAsk, Deliver, Tick, Noise, Advance, Change, RestartClient, RestartServer, Begin, BeginAgain, Stray, AskAway, TickAway}
use Rattle.bac_reuse.specs.Once.{HasNoRead, IsOnceSo}
use Rattle.bac_reuse.specs.Runs.{AskNoRead, NoneReuses, Reusing, arrives_so, delivered_so, happens_so, run_so, strays_so, takes_at_server_so}

-- Runs without reuse.
module _ (S : Type 0) (model : StoreModel S) (x : Rules) (u : Reusing) (none : NoneReuses u) where
  hears : (w : World S) (key : Key) (free : Bool) (a : Apdu) → takes_at_server_so S model x u w key free a ≡ takes_at_server S model x w key free a
  hears w key free a = ap (λ b. serves S model w key (server_hears b (server_context x key (server_now w.net key)) (service_of S model w key) u.reads (w.net.entries key)
      (is_room w.net key free) a)) (none key.server)

  comes : (w : World S) (key : Key) (free : Bool) (a : Apdu) → arrives_so S model x u w key free a ≡ arrives S model x w key free a
  comes w key free a = go (is_from_client a)
    where
      go : (b : Bool) → (if b then takes_at_server_so S model x u w key free a else takes_at_client S x w key a (w.net.tickets key))
          ≡ (if b then takes_at_server S model x w key free a else takes_at_client S x w key a (w.net.tickets key))
      go true = hears w key free a
      go false = refl

  delivers : (w : World S) (number : ℕ) (free : Bool) (o : Option Post) → delivered_so S model x u w number free o ≡ delivered S model x w number free o
  delivers w number free None = refl
  delivers w number free (Some p) = go (is_deliverable x w.net number p)
    where
      go : (b : Bool) → (if b then arrives_so S model x u w p.key free p.copy.apdu else w) ≡ (if b then arrives S model x w p.key free p.copy.apdu else w)
      go true = comes w p.key free p.copy.apdu
      go false = refl

  hears_away : (w : World S) (key : Key) (free : Bool) (a : Apdu) → strays_so S model x u w key free a ≡ strays S model x w key free a
  hears_away w key free a = go (is_from_client a) (none key.server)
    where
      heard : Bool → World S
      heard b = serves_away S model w key (server_hears b (server_context x key (server_now w.net key)) (service_of S model w key) u.reads (w.net.far.entries key)
          (is_room w.net key free) a)

      go : (b : Bool) → u.reuses key.server ≡ false
          → (if b then serves_away S model w key (server_hears (u.reuses key.server) (server_context x key (server_now w.net key)) (service_of S model w key) u.reads
          (w.net.far.entries key) (is_room w.net key free) a) else strays_to_client S x w key a (w.net.far.tickets key))
          ≡ (if b then serves_away S model w key (server_hears false (server_context x key (server_now w.net key)) (service_of S model w key) u.reads
          (w.net.far.entries key) (is_room w.net key free) a) else strays_to_client S x w key a (w.net.far.tickets key))
      go true off = ap heard off
      go false off = refl

  same : (w : World S) (e : Event) → happens_so S model x u w e ≡ happens S model x w e
  same w (MakeAsk key choice whole front rest) = refl
  same w (Deliver number free) = delivers w number free (slice_get w.net.posts number)
  same w (Tick as_client as_server) = refl
  same w Noise = refl
  same w (Advance by clients servers) = refl
  same w (Change node change) = refl
  same w (RestartClient node exact) = refl
  same w (RestartServer node exact store) = refl
  same w (Begin node exact) = refl
  same w (BeginAgain node exact) = refl
  same w (Stray key free a) = hears_away w key free a
  same w (AskAway key choice whole front rest) = refl
  same w (TickAway as_client as_server) = refl

  pub runs_same : (events : List Event) (w : World S) → run_so S model x u events w ≡ run S model x events w
  runs_same [] w = refl
  runs_same (e ∷ es) w = ap (run_so S model x u es) (same w e) ∙ runs_same es (happens S model x w e)

-- Logs without asks for reads.

abbrev NoneAsked : Reads → List Fact → Type 0
NoneAsked reads [] = Unit {0}
NoneAsked reads (Asked n c s r ∷ log) = (reads r.choice ≡ false) × NoneAsked reads log
NoneAsked reads (f ∷ log) = NoneAsked reads log

none_of : (reads : Reads) (n c s : ℕ) (r : Request) (log : List Fact) → NoneAsked reads log → Has (Asked n c s r) log → reads r.choice ≡ false
none_of reads n c s r [] h k = absurd k
none_of reads n c s r (Asked m a b q ∷ log) h (inl is) = let same : q ≡ r = cc in subst (λ (y : Request). reads y.choice ≡ false) same h.0
none_of reads n c s r (Asked m a b q ∷ log) h (inr k) = none_of reads n c s r log h.1 k
none_of reads n c s r (Performed m q p ∷ log) h (inl is) = absurd cc
none_of reads n c s r (Performed m q p ∷ log) h (inr k) = none_of reads n c s r log h k
none_of reads n c s r (Ended m how ∷ log) h (inl is) = absurd cc
none_of reads n c s r (Ended m how ∷ log) h (inr k) = none_of reads n c s r log h k
none_of reads n c s r (Changed a b ∷ log) h (inl is) = absurd cc
none_of reads n c s r (Changed a b ∷ log) h (inr k) = none_of reads n c s r log h k
none_of reads n c s r (Restarted a b ∷ log) h (inl is) = absurd cc
none_of reads n c s r (Restarted a b ∷ log) h (inr k) = none_of reads n c s r log h k
none_of reads n c s r (Served a b i d q p ∷ log) h (inl is) = absurd cc
none_of reads n c s r (Served a b i d q p ∷ log) h (inr k) = none_of reads n c s r log h k
none_of reads n c s r (AskedAway m a b q ∷ log) h (inl is) = absurd cc
none_of reads n c s r (AskedAway m a b q ∷ log) h (inr k) = none_of reads n c s r log h k
none_of reads n c s r (EndedAway m how ∷ log) h (inl is) = absurd cc
none_of reads n c s r (EndedAway m how ∷ log) h (inr k) = none_of reads n c s r log h k

none_performed : (S : Type 0) (model : StoreModel S) (u : Reusing) (opening : ℕ → S) (log : List Fact) (stores : ℕ → S) → IsOnceSo S model u opening log stores
    → NoneAsked u.reads log → HasNoRead u.reads log
none_performed S model u opening [] stores h k = tt
none_performed S model u opening (Asked n c s r ∷ log) stores h k = none_performed S model u opening log h.0 h.2 k.1
none_performed S model u opening (Performed n r p ∷ log) stores h k =
    (none_of u.reads n h.1.0 h.1.1 r log k h.1.2, none_performed S model u opening log h.0 h.2 k)
none_performed S model u opening (Ended n how ∷ log) stores h k = none_performed S model u opening log h.0 h.2 k
none_performed S model u opening (Changed s c ∷ log) stores h k = none_performed S model u opening log h.0 h.2 k
none_performed S model u opening (Restarted s o ∷ log) stores h k = none_performed S model u opening log h.0 h.2 k
none_performed S model u opening (Served q s i b r p ∷ log) stores h k = none_performed S model u opening log h.0 h.2 k
none_performed S model u opening (AskedAway n c q r ∷ log) stores h k = none_performed S model u opening log h.0 h.2 k
none_performed S model u opening (EndedAway n how ∷ log) stores h k = none_performed S model u opening log h.0 h.2 k

module _ (S : Type 0) (model : StoreModel S) (x : Rules) (u : Reusing) where
  abbrev Quiet : World S → Type 0
  Quiet w = NoneAsked u.reads w.net.log

  ended_quiet : (n : ℕ) (o : Option Ending) (log : List Fact) → NoneAsked u.reads log → NoneAsked u.reads (ended n o log)
  ended_quiet n None log h = h
  ended_quiet n (Some how) log h = h

  ended_away_quiet : (n : ℕ) (o : Option Ending) (log : List Fact) → NoneAsked u.reads log → NoneAsked u.reads (ended_away n o log)
  ended_away_quiet n None log h = h
  ended_away_quiet n (Some how) log h = h

  serves_quiet : (w : World S) → Quiet w → (key : Key) (v : server.Reaction) → Quiet (serves S model w key v)
  serves_quiet w h key v = go v.effect
    where
      go : (o : Option Effect) → NoneAsked u.reads (performed (w.net.numbers key) o w.net.log)
      go None = h
      go (Some e) = h

  serves_away_quiet : (w : World S) → Quiet w → (key : Key) (v : server.Reaction) → Quiet (serves_away S model w key v)
  serves_away_quiet w h key v = go v.effect
    where
      go : (o : Option Effect) → NoneAsked u.reads (served key (begin_of v.entry) o w.net.log)
      go None = h
      go (Some e) = h

  client_quiet : (w : World S) → Quiet w → (key : Key) (a : Apdu) (o : Option ClientTransaction) → Quiet (takes_at_client S x w key a o)
  client_quiet w h key a None = h
  client_quiet w h key a (Some t) = ended_quiet (w.net.numbers key)
      (client.ending_of (client.client_on_apdu (client_context x key (client_now w.net key)) x.readable t a)) w.net.log h

  client_away_quiet : (w : World S) → Quiet w → (key : Key) (a : Apdu) (o : Option ClientTransaction) → Quiet (strays_to_client S x w key a o)
  client_away_quiet w h key a None = h
  client_away_quiet w h key a (Some t) = ended_away_quiet (w.net.far.numbers key)
      (client.ending_of (client.client_on_apdu (client_context x key (client_now w.net key)) x.readable t a)) w.net.log h

  delivered_quiet : (w : World S) → Quiet w → (number : ℕ) (free : Bool) (o : Option Post) → Quiet (delivered_so S model x u w number free o)
  delivered_quiet w h number free None = h
  delivered_quiet w h number free (Some p) = go (is_deliverable x w.net number p) (is_from_client p.copy.apdu)
    where
      go : (b up : Bool) → Quiet (if b then (if up then takes_at_server_so S model x u w p.key free p.copy.apdu
          else takes_at_client S x w p.key p.copy.apdu (w.net.tickets p.key)) else w)
      go true true = serves_quiet w h p.key (server_hears (u.reuses p.key.server) (server_context x p.key (server_now w.net p.key)) (service_of S model w p.key) u.reads
          (w.net.entries p.key) (is_room w.net p.key free) p.copy.apdu)
      go true false = client_quiet w h p.key p.copy.apdu (w.net.tickets p.key)
      go false up = h

  stray_quiet : (w : World S) → Quiet w → (key : Key) (free : Bool) (a : Apdu) → Quiet (strays_so S model x u w key free a)
  stray_quiet w h key free a = go (is_from_client a)
    where
      go : (b : Bool) → Quiet (if b then serves_away S model w key (server_hears (u.reuses key.server) (server_context x key (server_now w.net key))
          (service_of S model w key) u.reads (w.net.far.entries key) (is_room w.net key free) a) else strays_to_client S x w key a (w.net.far.tickets key))
      go true = serves_away_quiet w h key (server_hears (u.reuses key.server) (server_context x key (server_now w.net key)) (service_of S model w key) u.reads
          (w.net.far.entries key) (is_room w.net key free) a)
      go false = client_away_quiet w h key a (w.net.far.tickets key)

  ticket_quiet : (w : World S) → Quiet w → (key : Key) (o : Option ClientTransaction) → Quiet (ticks_ticket S x w key o)
  ticket_quiet w h key None = h
  ticket_quiet w h key (Some t) = ended_quiet (w.net.numbers key) (client.ending_of (client.client_ticks (client_context x key (client_now w.net key)) t)) w.net.log h

  ticket_away_quiet : (w : World S) → Quiet w → (key : Key) (o : Option ClientTransaction) → Quiet (ticks_ticket_away S x w key o)
  ticket_away_quiet w h key None = h
  ticket_away_quiet w h key (Some t) =
      ended_away_quiet (w.net.far.numbers key) (client.ending_of (client.client_ticks (client_context x key (client_now w.net key)) t)) w.net.log h

  clients_quiet : (keys : List Key) (w : World S) → Quiet w → Quiet (ticks_as_client S x keys w)
  clients_quiet [] w h = h
  clients_quiet (key ∷ keys) w h = clients_quiet keys (ticks_ticket S x w key (w.net.tickets key)) (ticket_quiet w h key (w.net.tickets key))

  clients_away_quiet : (keys : List Key) (w : World S) → Quiet w → Quiet (ticks_as_client_away S x keys w)
  clients_away_quiet [] w h = h
  clients_away_quiet (key ∷ keys) w h =
      clients_away_quiet keys (ticks_ticket_away S x w key (w.net.far.tickets key)) (ticket_away_quiet w h key (w.net.far.tickets key))

  servers_quiet : (keys : List Key) (w : World S) → Quiet w → Quiet (ticks_as_server S model x keys w)
  servers_quiet [] w h = h
  servers_quiet (key ∷ keys) w h =
      let v = server.server_ticks (server_context x key (server_now w.net key)) (w.net.entries key) in
      servers_quiet keys (serves S model w key v) (serves_quiet w h key v)

  servers_away_quiet : (keys : List Key) (w : World S) → Quiet w → Quiet (ticks_as_server_away S model x keys w)
  servers_away_quiet [] w h = h
  servers_away_quiet (key ∷ keys) w h =
      let v = server.server_ticks (server_context x key (server_now w.net key)) (w.net.far.entries key) in
      servers_away_quiet keys (serves_away S model w key v) (serves_away_quiet w h key v)

  ask_quiet : (w : World S) → Quiet w → (key : Key) (ask : Ask) → u.reads ask.choice ≡ false → (b : Bool) → Quiet (if b then w else ask_made S x w key ask)
  ask_quiet w h key ask write true = h
  ask_quiet w h key ask write false = (write, h)

  ask_away_quiet : (w : World S) → Quiet w → (key : Key) (ask : Ask) (b : Bool) → Quiet (if b then w else asked_away S x w key ask)
  ask_away_quiet w h key ask true = h
  ask_away_quiet w h key ask false = h

  run_quiet : (events : List Event) → AskNoRead u.reads events → (w : World S) → Quiet w → Quiet (run_so S model x u events w)
  run_quiet [] writes w h = h
  run_quiet (MakeAsk key choice whole front rest ∷ es) writes w h = run_quiet es writes.1 (happens_so S model x u w (MakeAsk key choice whole front rest))
      (ask_quiet w h key (record { first = client_now w.net key; choice = choice; whole = whole; pieces = front ∷ rest }) writes.0 (is_id_held w.net key))
  run_quiet (Deliver number free ∷ es) writes w h = run_quiet es writes (happens_so S model x u w (Deliver number free))
      (delivered_quiet w h number free (slice_get w.net.posts number))
  run_quiet (Tick as_client as_server ∷ es) writes w h = run_quiet es writes (happens_so S model x u w (Tick as_client as_server))
      (servers_quiet as_server (ticks_as_client S x as_client w) (clients_quiet as_client w h))
  run_quiet (Noise ∷ es) writes w h = run_quiet es writes w h
  run_quiet (Advance by clients servers ∷ es) writes w h = run_quiet es writes (happens_so S model x u w (Advance by clients servers)) h
  run_quiet (Change node change ∷ es) writes w h = run_quiet es writes (happens_so S model x u w (Change node change)) h
  run_quiet (RestartClient node exact ∷ es) writes w h = run_quiet es writes (happens_so S model x u w (RestartClient node exact)) h
  run_quiet (RestartServer node exact store ∷ es) writes w h = run_quiet es writes (happens_so S model x u w (RestartServer node exact store)) h
  run_quiet (Begin node exact ∷ es) writes w h = run_quiet es writes (happens_so S model x u w (Begin node exact)) (go (is_active w.net node))
    where
      go : (b : Bool) → Quiet (if b then w else record { net = begun w.net node exact; stores = w.stores })
      go true = h
      go false = h
  run_quiet (BeginAgain node exact ∷ es) writes w h = run_quiet es writes (happens_so S model x u w (BeginAgain node exact)) (go (is_quiet w.net node))
    where
      go : (b : Bool) → Quiet (if b then record { net = begun_again w.net node exact; stores = w.stores } else w)
      go true = h
      go false = h
  run_quiet (Stray key free a ∷ es) writes w h = run_quiet es writes (happens_so S model x u w (Stray key free a)) (stray_quiet w h key free a)
  run_quiet (AskAway key choice whole front rest ∷ es) writes w h = run_quiet es writes (happens_so S model x u w (AskAway key choice whole front rest))
      (ask_away_quiet w h key (record { first = client_now w.net key; choice = choice; whole = whole; pieces = front ∷ rest }) (is_id_held_away w.net key))
  run_quiet (TickAway as_client as_server ∷ es) writes w h = run_quiet es writes (happens_so S model x u w (TickAway as_client as_server))
      (servers_away_quiet as_server (ticks_as_client_away S x as_client w) (clients_away_quiet as_client w h))

  pub none_in_run : (pace : Pace) (clocks : ℕ → ℕ) (opening : ℕ → S) (events : List Event) → AskNoRead u.reads events
      → IsOnceSo S model u opening (run_so S model x u events (start S pace clocks opening)).net.log (run_so S model x u events (start S pace clocks opening)).stores
      → HasNoRead u.reads (run_so S model x u events (start S pace clocks opening)).net.log
  none_in_run pace clocks opening events writes once =
      let w = run_so S model x u events (start S pace clocks opening) in
      none_performed S model u opening w.net.log w.stores once (run_quiet events writes (start S pace clocks opening) tt)
