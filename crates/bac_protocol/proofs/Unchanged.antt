-- Where no node changes its own store, the log of a run has no change; where none restarts, it has no restart, and no end waits; where there are no
-- strangers, it has nothing of them.
use Rattle.std.proofs.Common.{◌≡◌, ℕ, Bool, true, false, ◌&&◌, ◌||◌, not, List, [], ◌∷◌, Option, Some, None, slice_get, if◌then◌else◌, nat_lt, nat_eq}
use Rattle.std.proofs.Common.{refl, ap, ◌∙◌, arith}
use Rattle.std.proofs.lemmas.Bool.Decides.{nat_tests}
use Rattle.bac_apdu.specs.Apdu.{Apdu}
use Rattle.bac_protocol.specs.Service.{Octets, Request, Reply, Ending}
use Rattle.bac_protocol.specs.Wire.{is_from_client}
use Rattle.bac_protocol.specs.Client as client
use Rattle.bac_protocol.specs.Client.{Ask, ClientTransaction, request_of}
use Rattle.bac_protocol.specs.Server as server
use Rattle.bac_protocol.specs.Server.{Effect}
use Rattle.bac_protocol.specs.Log.{Fact, StoreModel, HasNoChange, HasNoRestart, HasNoStranger}
use Rattle.bac_protocol.specs.Log.Fact.{Asked, Performed, Ended, Served, AskedAway, EndedAway}
use Rattle.bac_protocol.specs.Transaction.{Key, Rules, ended, performed, client_context, server_context}
use Rattle.bac_protocol.specs.World.{Net, World, Post, Event, is_deliverable, is_id_held, is_room, ask_made, arrives, takes_at_client, takes_at_server}
use Rattle.bac_protocol.specs.World.{delivered, ticks_ticket, ticks_as_client, ticks_as_server, serves, is_active, begun, is_quiet, begun_again, happens, run, start}
use Rattle.bac_protocol.specs.Pace.{Pace}
use Rattle.bac_protocol.specs.World.{client_now, server_now, is_key_held, MakeNoChange, MakeNoRestart, MakeNoStray, NeverRestarted, NeverWaits}
use Rattle.bac_protocol.specs.World.{begin_of, reacts_away, serves_away, is_id_held_away, strays_to_server, strays_to_client, asked_away, ticks_ticket_away}
use Rattle.bac_protocol.specs.World.{ticks_as_client_away, ticks_as_server_away, stored}
use Rattle.bac_protocol.specs.Claims.{LeavesNodes, StraysLeaveNodes}
use Rattle.bac_protocol.specs.Transaction.{ended_away, served}
use Rattle.bac_protocol.specs.World.Event.{MakeAsk, Deliver, Tick, Noise, Advance, Change, RestartClient, RestartServer, Begin, BeginAgain, Stray, AskAway, TickAway}

-- what is said of a log, and of the moments from which each end asks and serves, and stays so as asks are made, performed and ended
record IsLeft (Q : List Fact → (asks serves lives : ℕ → ℕ) → Type 0) : Type 0 where
  asked : (n c s : ℕ) (r : Request) (log : List Fact) (asks serves lives : ℕ → ℕ) → Q log asks serves lives → Q (Asked n c s r ∷ log) asks serves lives
  performed : (n : ℕ) (r : Request) (p : Reply) (log : List Fact) (asks serves lives : ℕ → ℕ) → Q log asks serves lives → Q (Performed n r p ∷ log) asks serves lives
  ended : (n : ℕ) (how : Ending) (log : List Fact) (asks serves lives : ℕ → ℕ) → Q log asks serves lives → Q (Ended n how ∷ log) asks serves lives

module _ (Q : List Fact → (asks serves lives : ℕ → ℕ) → Type 0) (left : IsLeft Q) (S : Type 0) (model : StoreModel S) (x : Rules) where
  abbrev Quiet : World S → Type 0
  Quiet w = Q w.net.log w.net.asks_from w.net.serves_from w.net.restarted

  ended_quiet : (n : ℕ) (o : Option Ending) (log : List Fact) (asks serves lives : ℕ → ℕ) → Q log asks serves lives → Q (ended n o log) asks serves lives
  ended_quiet n None log asks serves lives h = h
  ended_quiet n (Some how) log asks serves lives h = left.ended n how log asks serves lives h

  performed_quiet : (n : ℕ) (o : Option Effect) (log : List Fact) (asks serves lives : ℕ → ℕ) → Q log asks serves lives → Q (performed n o log) asks serves lives
  performed_quiet n None log asks serves lives h = h
  performed_quiet n (Some e) log asks serves lives h = left.performed n e.request e.reply log asks serves lives h

  ask_quiet : (w : World S) → Quiet w → (key : Key) (ask : Ask) (held : Bool) → Quiet (if held then w else ask_made S x w key ask)
  ask_quiet w h key ask true = h
  ask_quiet w h key ask false =
      left.asked w.net.asks key.client key.server (request_of ask) w.net.log w.net.asks_from w.net.serves_from w.net.restarted h

  takes_quiet : (w : World S) → Quiet w → (key : Key) (a : Apdu) (o : Option ClientTransaction) → Quiet (takes_at_client S x w key a o)
  takes_quiet w h key a None = h
  takes_quiet w h key a (Some t) =
      ended_quiet (w.net.numbers key) (client.ending_of (client.client_on_apdu (client_context x key (client_now w.net key)) x.readable t a)) w.net.log
      w.net.asks_from w.net.serves_from w.net.restarted h

  serves_quiet : (w : World S) → Quiet w → (key : Key) (v : server.Reaction) → Quiet (serves S model w key v)
  serves_quiet w h key v = performed_quiet (w.net.numbers key) v.effect w.net.log w.net.asks_from w.net.serves_from w.net.restarted h

  arrives_quiet : (w : World S) → Quiet w → (key : Key) (free : Bool) (a : Apdu) (up : Bool)
      → Quiet (if up then takes_at_server S model x w key free a else takes_at_client S x w key a (w.net.tickets key))
  arrives_quiet w h key free a true = serves_quiet w h key
      (server.server_on_apdu (server_context x key (server_now w.net key)) (model.outcome (w.stores key.server)) (w.net.entries key) (is_room w.net key free) a)
  arrives_quiet w h key free a false = takes_quiet w h key a (w.net.tickets key)

  delivered_quiet : (w : World S) → Quiet w → (number : ℕ) (free : Bool) (o : Option Post) → Quiet (delivered S model x w number free o)
  delivered_quiet w h number free None = h
  delivered_quiet w h number free (Some p) = go (is_deliverable x w.net number p)
    where
      go : (b : Bool) → Quiet (if b then arrives S model x w p.key free p.copy.apdu else w)
      go true = arrives_quiet w h p.key free p.copy.apdu (is_from_client p.copy.apdu)
      go false = h

  ticket_quiet : (w : World S) → Quiet w → (key : Key) (o : Option ClientTransaction) → Quiet (ticks_ticket S x w key o)
  ticket_quiet w h key None = h
  ticket_quiet w h key (Some t) =
      ended_quiet (w.net.numbers key) (client.ending_of (client.client_ticks (client_context x key (client_now w.net key)) t)) w.net.log w.net.asks_from
      w.net.serves_from w.net.restarted h

  clients_quiet : (keys : List Key) (w : World S) → Quiet w → Quiet (ticks_as_client S x keys w)
  clients_quiet [] w h = h
  clients_quiet (key ∷ keys) w h = clients_quiet keys (ticks_ticket S x w key (w.net.tickets key)) (ticket_quiet w h key (w.net.tickets key))

  servers_quiet : (keys : List Key) (w : World S) → Quiet w → Quiet (ticks_as_server S model x keys w)
  servers_quiet [] w h = h
  servers_quiet (key ∷ keys) w h =
      let v = server.server_ticks (server_context x key (server_now w.net key)) (w.net.entries key) in
      servers_quiet keys (serves S model w key v) (serves_quiet w h key v)

  ask_event_quiet : (w : World S) → Quiet w → (key : Key) (choice : ℕ) (whole : Bool) (front : Octets) (rest : List Octets)
      → Quiet (happens S model x w (MakeAsk key choice whole front rest))
  ask_event_quiet w h key choice whole front rest =
      ask_quiet w h key (record { first = client_now w.net key; choice = choice; whole = whole; pieces = front ∷ rest }) (is_id_held w.net key)

  deliver_quiet : (w : World S) → Quiet w → (number : ℕ) (free : Bool) → Quiet (happens S model x w (Deliver number free))
  deliver_quiet w h number free = delivered_quiet w h number free (slice_get w.net.posts number)

  tick_quiet : (w : World S) → Quiet w → (as_client as_server : List Key) → Quiet (happens S model x w (Tick as_client as_server))
  tick_quiet w h as_client as_server = servers_quiet as_server (ticks_as_client S x as_client w) (clients_quiet as_client w h)

  begin_quiet : (w : World S) → Quiet w → (node exact : ℕ) → Quiet (happens S model x w (Begin node exact))
  begin_quiet w h node exact = go (is_active w.net node)
    where
      go : (b : Bool) → Quiet (if b then w else record { net = begun w.net node exact; stores = w.stores })
      go true = h
      go false = h

-- so also as strangers ask, are asked and are served
record IsLeftAway (Q : List Fact → (asks serves lives : ℕ → ℕ) → Type 0) : Type 0 where
  served : (q s i b : ℕ) (r : Request) (p : Reply) (log : List Fact) (asks serves lives : ℕ → ℕ) → Q log asks serves lives → Q (Served q s i b r p ∷ log) asks serves lives
  asked : (n c q : ℕ) (r : Request) (log : List Fact) (asks serves lives : ℕ → ℕ) → Q log asks serves lives → Q (AskedAway n c q r ∷ log) asks serves lives
  ended : (n : ℕ) (how : Ending) (log : List Fact) (asks serves lives : ℕ → ℕ) → Q log asks serves lives → Q (EndedAway n how ∷ log) asks serves lives

module _ (Q : List Fact → (asks serves lives : ℕ → ℕ) → Type 0) (left : IsLeftAway Q) (S : Type 0) (model : StoreModel S) (x : Rules) where
  abbrev Silent : World S → Type 0
  Silent w = Q w.net.log w.net.asks_from w.net.serves_from w.net.restarted

  ended_silent : (n : ℕ) (o : Option Ending) (log : List Fact) (asks serves lives : ℕ → ℕ) → Q log asks serves lives → Q (ended_away n o log) asks serves lives
  ended_silent n None log asks serves lives h = h
  ended_silent n (Some how) log asks serves lives h = left.ended n how log asks serves lives h

  served_silent : (key : Key) (b : ℕ) (o : Option Effect) (log : List Fact) (asks serves lives : ℕ → ℕ) → Q log asks serves lives → Q (served key b o log) asks serves lives
  served_silent key b None log asks serves lives h = h
  served_silent key b (Some e) log asks serves lives h = left.served key.client key.server key.invoke_id b e.request e.reply log asks serves lives h

  reacts_silent : (w : World S) → Silent w → (key : Key) (t : ClientTransaction) (r : client.Reaction) → Silent (reacts_away S w key t r)
  reacts_silent w h key t r = ended_silent (w.net.far.numbers key) (client.ending_of r) w.net.log w.net.asks_from w.net.serves_from w.net.restarted h

  serves_silent : (w : World S) → Silent w → (key : Key) (v : server.Reaction) → Silent (serves_away S model w key v)
  serves_silent w h key v = served_silent key (begin_of v.entry) v.effect w.net.log w.net.asks_from w.net.serves_from w.net.restarted h

  to_client_silent : (w : World S) → Silent w → (key : Key) (a : Apdu) (o : Option ClientTransaction) → Silent (strays_to_client S x w key a o)
  to_client_silent w h key a None = h
  to_client_silent w h key a (Some t) = reacts_silent w h key t (client.client_on_apdu (client_context x key (client_now w.net key)) x.readable t a)

  stray_quiet : (w : World S) → Silent w → (key : Key) (free : Bool) (a : Apdu) → Silent (happens S model x w (Stray key free a))
  stray_quiet w h key free a = go (is_from_client a)
    where
      go : (up : Bool) → Silent (if up then strays_to_server S model x w key free a else strays_to_client S x w key a (w.net.far.tickets key))
      go true = serves_silent w h key
          (server.server_on_apdu (server_context x key (server_now w.net key)) (model.outcome (w.stores key.server)) (w.net.far.entries key) (is_room w.net key free) a)
      go false = to_client_silent w h key a (w.net.far.tickets key)

  ask_away_quiet : (w : World S) → Silent w → (key : Key) (choice : ℕ) (whole : Bool) (front : Octets) (rest : List Octets)
      → Silent (happens S model x w (AskAway key choice whole front rest))
  ask_away_quiet w h key choice whole front rest = go (is_id_held_away w.net key)
    where
      ask : Ask
      ask = record { first = client_now w.net key; choice = choice; whole = whole; pieces = front ∷ rest }

      go : (held : Bool) → Silent (if held then w else asked_away S x w key ask)
      go true = h
      go false = left.asked w.net.asks key.client key.server (request_of ask) w.net.log w.net.asks_from w.net.serves_from w.net.restarted h

  ticket_silent : (w : World S) → Silent w → (key : Key) (o : Option ClientTransaction) → Silent (ticks_ticket_away S x w key o)
  ticket_silent w h key None = h
  ticket_silent w h key (Some t) = reacts_silent w h key t (client.client_ticks (client_context x key (client_now w.net key)) t)

  clients_silent : (keys : List Key) (w : World S) → Silent w → Silent (ticks_as_client_away S x keys w)
  clients_silent [] w h = h
  clients_silent (key ∷ keys) w h = clients_silent keys (ticks_ticket_away S x w key (w.net.far.tickets key)) (ticket_silent w h key (w.net.far.tickets key))

  servers_silent : (keys : List Key) (w : World S) → Silent w → Silent (ticks_as_server_away S model x keys w)
  servers_silent [] w h = h
  servers_silent (key ∷ keys) w h =
      let v = server.server_ticks (server_context x key (server_now w.net key)) (w.net.far.entries key) in
      servers_silent keys (serves_away S model w key v) (serves_silent w h key v)

  tick_away_quiet : (w : World S) → Silent w → (as_client as_server : List Key) → Silent (happens S model x w (TickAway as_client as_server))
  tick_away_quiet w h as_client as_server = servers_silent as_server (ticks_as_client_away S x as_client w) (clients_silent as_client w h)

-- No change.

abbrev HasNone : List Fact → (asks serves lives : ℕ → ℕ) → Type 0
HasNone log asks serves lives = HasNoChange log

left_none : IsLeft HasNone
left_none = record {
  asked = λ n c s r log asks serves lives h. h;
  performed = λ n r p log asks serves lives h. h;
  ended = λ n how log asks serves lives h. h;
}

away_none : IsLeftAway HasNone
away_none = record {
  served = λ q s i b r p log asks serves lives h. h;
  asked = λ n c q r log asks serves lives h. h;
  ended = λ n how log asks serves lives h. h;
}

-- No strangers.

abbrev NoStranger : List Fact → (asks serves lives : ℕ → ℕ) → Type 0
NoStranger log asks serves lives = HasNoStranger log

left_strangers : IsLeft NoStranger
left_strangers = record {
  asked = λ n c s r log asks serves lives h. h;
  performed = λ n r p log asks serves lives h. h;
  ended = λ n how log asks serves lives h. h;
}

-- No restart.

abbrev NoneWaits : List Fact → (asks serves lives : ℕ → ℕ) → Type 0
NoneWaits log asks serves lives = HasNoRestart log × ((node : ℕ) → asks node ≡ 0) × ((node : ℕ) → serves node ≡ 0) × ((node : ℕ) → lives node ≡ 0)

left_waiting : IsLeft NoneWaits
left_waiting = record {
  asked = λ n c s r log asks serves lives h. h;
  performed = λ n r p log asks serves lives h. h;
  ended = λ n how log asks serves lives h. h;
}

away_waiting : IsLeftAway NoneWaits
away_waiting = record {
  served = λ q s i b r p log asks serves lives h. h;
  asked = λ n c q r log asks serves lives h. h;
  ended = λ n how log asks serves lives h. h;
}

module _ (S : Type 0) (model : StoreModel S) (x : Rules) where
  no_stranger : (events : List Event) (w : World S) → MakeNoStray events → HasNoStranger w.net.log → HasNoStranger (run S model x events w).net.log
  no_stranger [] w none h = h
  no_stranger (MakeAsk key choice whole front rest ∷ es) w none h = no_stranger es (happens S model x w (MakeAsk key choice whole front rest)) none
      (ask_event_quiet NoStranger left_strangers S model x w h key choice whole front rest)
  no_stranger (Deliver number free ∷ es) w none h = no_stranger es (happens S model x w (Deliver number free)) none
      (deliver_quiet NoStranger left_strangers S model x w h number free)
  no_stranger (Tick as_client as_server ∷ es) w none h = no_stranger es (happens S model x w (Tick as_client as_server)) none
      (tick_quiet NoStranger left_strangers S model x w h as_client as_server)
  no_stranger (Noise ∷ es) w none h = no_stranger es w none h
  no_stranger (Advance by clients servers ∷ es) w none h = no_stranger es (happens S model x w (Advance by clients servers)) none h
  no_stranger (Change node change ∷ es) w none h = no_stranger es (happens S model x w (Change node change)) none h
  no_stranger (RestartClient node exact ∷ es) w none h = no_stranger es (happens S model x w (RestartClient node exact)) none h
  no_stranger (RestartServer node exact store ∷ es) w none h = no_stranger es (happens S model x w (RestartServer node exact store)) none h
  no_stranger (Begin node exact ∷ es) w none h = no_stranger es (happens S model x w (Begin node exact)) none
      (begin_quiet NoStranger left_strangers S model x w h node exact)
  no_stranger (BeginAgain node exact ∷ es) w none h = no_stranger es (happens S model x w (BeginAgain node exact)) none (go (is_quiet w.net node))
    where
      go : (b : Bool) → HasNoStranger (if b then record { net = begun_again w.net node exact; stores = w.stores } else w).net.log
      go true = h
      go false = h
  no_stranger (Stray key free a ∷ es) w none h = absurd none
  no_stranger (AskAway key choice whole front rest ∷ es) w none h = absurd none
  no_stranger (TickAway as_client as_server ∷ es) w none h = absurd none

  pub no_stranger_in_run : (pace : Pace) (clocks : ℕ → ℕ) (opening : ℕ → S) (events : List Event) → MakeNoStray events
      → HasNoStranger (run S model x events (start S pace clocks opening)).net.log
  no_stranger_in_run pace clocks opening events none = no_stranger events (start S pace clocks opening) none tt

  no_change : (events : List Event) (w : World S) → MakeNoChange events → HasNoChange w.net.log → HasNoChange (run S model x events w).net.log
  no_change [] w none h = h
  no_change (MakeAsk key choice whole front rest ∷ es) w none h = no_change es (happens S model x w (MakeAsk key choice whole front rest)) none
      (ask_event_quiet HasNone left_none S model x w h key choice whole front rest)
  no_change (Deliver number free ∷ es) w none h = no_change es (happens S model x w (Deliver number free)) none
      (deliver_quiet HasNone left_none S model x w h number free)
  no_change (Tick as_client as_server ∷ es) w none h = no_change es (happens S model x w (Tick as_client as_server)) none
      (tick_quiet HasNone left_none S model x w h as_client as_server)
  no_change (Noise ∷ es) w none h = no_change es w none h
  no_change (Advance by clients servers ∷ es) w none h = no_change es (happens S model x w (Advance by clients servers)) none h
  no_change (Change node change ∷ es) w none h = absurd none
  no_change (RestartClient node exact ∷ es) w none h = no_change es (happens S model x w (RestartClient node exact)) none h
  no_change (RestartServer node exact store ∷ es) w none h = no_change es (happens S model x w (RestartServer node exact store)) none.1 (none.0, h)
  no_change (Begin node exact ∷ es) w none h = no_change es (happens S model x w (Begin node exact)) none
      (begin_quiet HasNone left_none S model x w h node exact)
  no_change (BeginAgain node exact ∷ es) w none h = no_change es (happens S model x w (BeginAgain node exact)) none (go (is_quiet w.net node))
    where
      go : (b : Bool) → HasNoChange (if b then record { net = begun_again w.net node exact; stores = w.stores } else w).net.log
      go true = h
      go false = h
  no_change (Stray key free a ∷ es) w none h = no_change es (happens S model x w (Stray key free a)) none (stray_quiet HasNone away_none S model x w h key free a)
  no_change (AskAway key choice whole front rest ∷ es) w none h = no_change es (happens S model x w (AskAway key choice whole front rest)) none
      (ask_away_quiet HasNone away_none S model x w h key choice whole front rest)
  no_change (TickAway as_client as_server ∷ es) w none h = no_change es (happens S model x w (TickAway as_client as_server)) none
      (tick_away_quiet HasNone away_none S model x w h as_client as_server)

  pub no_change_in_run : (pace : Pace) (clocks : ℕ → ℕ) (opening : ℕ → S) (events : List Event) → MakeNoChange events → HasNoChange (run S model x events (start S pace clocks opening)).net.log
  no_change_in_run pace clocks opening events none = no_change events (start S pace clocks opening) none tt

  no_restart : (events : List Event) (w : World S) → MakeNoRestart events → NoneWaits w.net.log w.net.asks_from w.net.serves_from w.net.restarted
      → (let v = run S model x events w in NoneWaits v.net.log v.net.asks_from v.net.serves_from v.net.restarted)
  no_restart [] w none h = h
  no_restart (MakeAsk key choice whole front rest ∷ es) w none h = no_restart es (happens S model x w (MakeAsk key choice whole front rest)) none
      (ask_event_quiet NoneWaits left_waiting S model x w h key choice whole front rest)
  no_restart (Deliver number free ∷ es) w none h = no_restart es (happens S model x w (Deliver number free)) none
      (deliver_quiet NoneWaits left_waiting S model x w h number free)
  no_restart (Tick as_client as_server ∷ es) w none h = no_restart es (happens S model x w (Tick as_client as_server)) none
      (tick_quiet NoneWaits left_waiting S model x w h as_client as_server)
  no_restart (Noise ∷ es) w none h = no_restart es w none h
  no_restart (Advance by clients servers ∷ es) w none h = no_restart es (happens S model x w (Advance by clients servers)) none h
  no_restart (Change node change ∷ es) w none h = no_restart es (happens S model x w (Change node change)) none h
  no_restart (RestartClient node exact ∷ es) w none h = absurd none
  no_restart (RestartServer node exact store ∷ es) w none h = absurd none
  no_restart (Begin node exact ∷ es) w none h = no_restart es (happens S model x w (Begin node exact)) none
      (begin_quiet NoneWaits left_waiting S model x w h node exact)
  no_restart (BeginAgain node exact ∷ es) w none h = absurd none
  no_restart (Stray key free a ∷ es) w none h = no_restart es (happens S model x w (Stray key free a)) none (stray_quiet NoneWaits away_waiting S model x w h key free a)
  no_restart (AskAway key choice whole front rest ∷ es) w none h = no_restart es (happens S model x w (AskAway key choice whole front rest)) none
      (ask_away_quiet NoneWaits away_waiting S model x w h key choice whole front rest)
  no_restart (TickAway as_client as_server ∷ es) w none h = no_restart es (happens S model x w (TickAway as_client as_server)) none
      (tick_away_quiet NoneWaits away_waiting S model x w h as_client as_server)

  pub no_restart_in_run : (pace : Pace) (clocks : ℕ → ℕ) (opening : ℕ → S) (events : List Event) → MakeNoRestart events
      → (let v = run S model x events (start S pace clocks opening) in HasNoRestart v.net.log × NeverRestarted v.net)
  no_restart_in_run pace clocks opening events none =
      let h = no_restart events (start S pace clocks opening) none (tt, λ node. refl, λ node. refl, λ node. refl) in (h.0, record { asks = h.1; serves = h.2; lives = h.3 })

-- Where no end restarted, none waits.
pub never_waits : (n : Net) → NeverRestarted n → NeverWaits n
never_waits n h = record { held = held; room = room }
  where
    none : (now from : ℕ) → from ≡ 0 → nat_lt now from ≡ false
    none now from is = grind (arith, nat_tests)

    held : (key : Key) → is_id_held n key ≡ is_key_held (client_now n key) (n.tickets key)
    held key = λ i. none (client_now n key) (n.asks_from key.client) (h.asks key.client) i
        || (not (none (n.made key) (n.restarted key.client) (h.lives key.client) i) && is_key_held (client_now n key) (n.tickets key))

    room : (key : Key) (free : Bool) → is_room n key free ≡ free
    room key free = ap (λ (b : Bool). free && not b) (none (server_now n key) (n.serves_from key.server) (h.serves key.server)) ∙ go free
      where
        go : (b : Bool) → (b && true) ≡ b
        go true = refl
        go false = refl

-- What a stranger sends leaves nodes alone.
module _ (S : Type 0) (model : StoreModel S) (x : Rules) where
  to_client_leaves : (w : World S) (key : Key) (a : Apdu) (o : Option ClientTransaction) → LeavesNodes w.net (strays_to_client S x w key a o).net
  to_client_leaves w key a None = refl
  to_client_leaves w key a (Some t) = refl

  stray_leaves : (w : World S) (key : Key) (free : Bool) (a : Apdu) → LeavesNodes w.net (happens S model x w (Stray key free a)).net
  stray_leaves w key free a = go (is_from_client a)
    where
      go : (up : Bool) → LeavesNodes w.net (if up then strays_to_server S model x w key free a else strays_to_client S x w key a (w.net.far.tickets key)).net
      go true = refl
      go false = to_client_leaves w key a (w.net.far.tickets key)

  to_client_stores : (w : World S) (key : Key) (a : Apdu) (o : Option ClientTransaction) (node : ℕ) → (strays_to_client S x w key a o).stores node ≡ w.stores node
  to_client_stores w key a None node = refl
  to_client_stores w key a (Some t) node = refl

  effect_stores : (w : World S) (server' node : ℕ) → (node ≡ server' → ⊥) → (o : Option Effect) → stored S model server' o w.stores node ≡ w.stores node
  effect_stores w server' node ne None = refl
  effect_stores w server' node ne (Some e) = go (nat_eq node server') refl
    where
      go : (b : Bool) → nat_eq node server' ≡ b → (if b then model.after (w.stores server') e.request else w.stores node) ≡ w.stores node
      go true is = absurd (ne (grind (arith, nat_tests)))
      go false is = refl

  stray_stores : (w : World S) (key : Key) (free : Bool) (a : Apdu) (node : ℕ) → (node ≡ key.server → ⊥)
      → (happens S model x w (Stray key free a)).stores node ≡ w.stores node
  stray_stores w key free a node ne = go (is_from_client a)
    where
      go : (up : Bool)
          → (if up then strays_to_server S model x w key free a else strays_to_client S x w key a (w.net.far.tickets key)).stores node ≡ w.stores node
      go true = effect_stores w key.server node ne
          (server.server_on_apdu (server_context x key (server_now w.net key)) (model.outcome (w.stores key.server)) (w.net.far.entries key) (is_room w.net key free) a).effect
      go false = to_client_stores w key a (w.net.far.tickets key) node

  pub strays_leave_nodes : StraysLeaveNodes S model x
  strays_leave_nodes = record { nodes = stray_leaves; stores = stray_stores }
