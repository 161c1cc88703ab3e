-- All transactions of all nodes, with one list of copies, one log, and the servers' stores.
use Rattle.std.specs.Prelude.{◌≡◌, ℕ, zero, suc, ◌+◌, ◌-◌, min, max, Bool, false, ◌&&◌, not, List, [], ◌∷◌, ◌++◌, map, length, Option, Some, None, slice_get, if◌then◌else◌}
use Rattle.std.specs.Prelude.{◌||◌, nat_le, nat_lt, nat_eq}
use Rattle.bac_apdu.specs.Apdu.{Apdu}
use Rattle.bac_protocol.specs.Times.{DEADLINE, KEEP, REST}
use Rattle.bac_protocol.specs.Pace.{Pace, Clock, clock_at, goes_on, most}
use Rattle.bac_protocol.specs.Service.{Octets}
use Rattle.bac_protocol.specs.Wire.{is_from_client}
use Rattle.bac_protocol.specs.Client.{Ask, request_of, Phase, ClientTransaction, after, sends_of, ending_of, asked_ticket, asks, client_on_apdu, client_ticks, is_held}
use Rattle.bac_protocol.specs.Client as client
use Rattle.bac_protocol.specs.Client.Phase.{Idle}
use Rattle.bac_protocol.specs.Server.{ServerTransaction, State, Effect, Service, server_on_apdu, server_ticks}
use Rattle.bac_protocol.specs.Server.State.{SegmentedResponse}
use Rattle.bac_protocol.specs.Server as server
use Rattle.bac_protocol.specs.Log.{Fact, StoreModel, restarted}
use Rattle.bac_protocol.specs.Log.Fact.{Asked, Changed, Restarted, AskedAway}
use Rattle.bac_protocol.specs.Transaction.{Key, Rules, client_context, server_context, Copy, ended, performed, ended_away, served}

-- whether two keys are of one transaction: of one client, one server and one invoke ID (clause 5.4)
abbrev pub same_key : Key → Key → Bool
same_key a b = nat_eq a.client b.client && (nat_eq a.server b.server && nat_eq a.invoke_id b.invoke_id)

-- a copy that was sent, with its transaction
pub record Post : Type 0 where
  pub key : Key
  pub copy : Copy

-- Strangers: ends that are no nodes. A stranger may send any APDU to a node at any moment; what a node sends it is not followed. A transaction of a
-- node and a stranger has a key as well, in tables of its own: there the stranger has a number of its own, in place of a node's.
pub record Strangers : Type 0 where
  pub numbers : Key → ℕ  -- the number of each one's newest ask
  pub tickets : Key → Option ClientTransaction  -- of asks that nodes made to strangers
  pub entries : Key → Option ServerTransaction  -- of requests of strangers to nodes

-- all but the stores
pub record Net : Type 0 where
  pub pace : Pace  -- it never changes
  pub now : ℕ  -- real time
  pub client_clocks : ℕ → Clock  -- the clock of each node's client
  pub server_clocks : ℕ → Clock  -- and of its server; one that restarts begins with a new clock
  pub asks : ℕ  -- how many asks there were
  pub numbers : Key → ℕ  -- the number of each transaction's newest ask
  pub made : Key → ℕ  -- and the real moment at which it was made
  pub until : Key → ℕ  -- and the last one, so far, at which its client was in time to send for it
  pub pieces : Key → ℕ  -- and the most pieces, so far, of its request and of its reply
  pub tickets : Key → Option ClientTransaction
  pub entries : Key → Option ServerTransaction
  pub posts : List Post  -- every copy that was sent, oldest first, numbered from 0
  pub log : List Fact  -- newest first
  pub asks_from : ℕ → ℕ  -- the first moment at which each node asks; 0 where its client never restarted
  pub restarted : ℕ → ℕ  -- what each node's client asked before this real moment is lost: it restarted, or another began; 0 where neither did
  pub serves_from : ℕ → ℕ  -- the first moment at which each node begins entries; 0 where its server never restarted
  pub asked : ℕ → Bool  -- whether each node has asked anyone so far, or its client began anew
  pub served : ℕ → Bool  -- whether each node's server has heard or done anything so far, or restarted
  pub sends_until : ℕ → ℕ  -- from this real moment on each node's client sends nothing for the asks that it made so far; 0 where it made none
  pub far : Strangers

-- what a transaction's client is told of time, and what its server is
abbrev pub client_now : Net → Key → ℕ
client_now n key = (n.client_clocks key.client).shows

abbrev pub server_now : Net → Key → ℕ
server_now n key = (n.server_clocks key.server).shows

-- the whole: a store for each node
pub record World (S : Type 0) : Type 0 where
  pub net : Net
  pub stores : ℕ → S

-- The copies.

-- how many of these are the transaction's
abbrev pub count_of : Key → List Post → ℕ
count_of key [] = 0
count_of key (p ∷ posts) = if same_key p.key key then suc (count_of key posts) else count_of key posts

-- how many members of the list after that one are the transaction's
abbrev pub later : Key → ℕ → List Post → ℕ
later key number [] = 0
later key zero (p ∷ posts) = count_of key posts
later key (suc number) (p ∷ posts) = later key number posts

-- no number comes twice in the transfers of a transaction: they have at most 256 pieces (clause 20.1.2.7)
abbrev pub is_short : Net → Key → Bool
is_short n key = nat_le (n.pieces key) 256

-- a copy is deliverable while it is young and, but in short transfers, not overtaken by too many of its transaction
abbrev pub is_deliverable : Rules → Net → (number : ℕ) → Post → Bool
is_deliverable x n number p = nat_le (n.now - p.copy.moment) n.pace.life && (nat_le (later p.key number n.posts) x.overtake || is_short n p.key)

-- the copies of one transaction, newest first, in front of others
abbrev pub copies_before : Key → List Post → List Copy → List Copy
copies_before key [] copies = copies
copies_before key (p ∷ posts) copies = copies_before key posts (if same_key p.key key then p.copy ∷ copies else copies)

-- the copies of one transaction, newest first
abbrev pub copies_of : Key → List Post → List Copy
copies_of key posts = copies_before key posts []

-- an APDU of that transaction, sent at that moment
abbrev pub post_of : Key → ℕ → Apdu → Post
post_of key now a = record { key = key; copy = record { moment = now; apdu = a } }

-- What one end does.

-- the function with another value at one transaction
abbrev pub set_at : {A : Type 0} → (Key → A) → Key → A → Key → A
set_at f key a k = if same_key key k then a else f k

-- that node, and all that were among them
abbrev pub with_node : (node : ℕ) → (ℕ → Bool) → ℕ → Bool
with_node node nodes m = nat_eq m node || nodes m

-- that node's clock begins anew, and shows so much
abbrev pub with_clock : Pace → (node exact : ℕ) → (ℕ → Clock) → ℕ → Clock
with_clock pace node exact clocks m = if nat_eq m node then clock_at pace exact else clocks m

-- what its client does for a ticket: the ticket after it, the copies that it sends, and its ending in the log
abbrev pub client_acts : Net → Key → ClientTransaction → client.Reaction → Net
client_acts n key t r =
    record n {
      tickets = set_at n.tickets key (Some (after (client_now n key) t r));
      posts = n.posts ++ map (post_of key n.now) (sends_of r);
      log = ended (n.numbers key) (ending_of r) n.log;
    }

-- how many pieces an entry sends, where its reply goes in segments
abbrev pub pieces_of_state : State → ℕ
pieces_of_state (SegmentedResponse out transfer since) = length out.pieces
pieces_of_state _ = 0

abbrev pub pieces_of_entry : Option ServerTransaction → ℕ
pieces_of_entry None = 0
pieces_of_entry (Some e) = pieces_of_state e.state

-- the most pieces of a transaction, where its server performed that, and has that entry now
abbrev pub with_reply : (pieces : ℕ) → Option Effect → Option ServerTransaction → ℕ
with_reply pieces None o = pieces
with_reply pieces (Some effect) o = max pieces (pieces_of_entry o)

-- what its server does: the entry after it, the copies that it sends, and a performance in the log
abbrev pub server_acts : Net → Key → server.Reaction → Net
server_acts n key v =
    record n {
      entries = set_at n.entries key v.entry;
      pieces = set_at n.pieces key (with_reply (n.pieces key) v.effect v.entry);
      served = with_node key.server n.served;
      posts = n.posts ++ map (post_of key n.now) v.sends;
      log = performed (n.numbers key) v.effect n.log;
    }

-- an accepted ask
abbrev pub asked_at : Rules → Net → Key → Ask → Net
asked_at x n key ask =
    let c = client_context x key (client_now n key) in
    record n {
      asks = n.asks + 1;
      asked = with_node key.client n.asked;
      sends_until = λ m. if nat_eq m key.client then n.now + most n.pace DEADLINE + 1 else n.sends_until m;
      numbers = set_at n.numbers key n.asks;
      made = set_at n.made key n.now;
      until = set_at n.until key n.now;
      pieces = set_at n.pieces key (length ask.pieces);
      tickets = set_at n.tickets key (Some (asked_ticket c ask));
      posts = n.posts ++ map (post_of key n.now) (sends_of (asks c ask));
      log = Asked n.asks key.client key.server (request_of ask) ∷ n.log;
    }

-- a node's client acts in a transaction with a stranger; what it sends is not followed
abbrev pub client_acts_away : Net → Key → ClientTransaction → client.Reaction → Net
client_acts_away n key t r =
    record n {
      far = record n.far { tickets = set_at n.far.tickets key (Some (after (client_now n key) t r)) };
      log = ended_away (n.far.numbers key) (ending_of r) n.log;
    }

-- the moment at which an entry began; 0 where there is none
abbrev pub begin_of : Option ServerTransaction → ℕ
begin_of None = 0
begin_of (Some e) = e.begin

-- a node's server acts in a transaction with a stranger; what it performs enters the log
abbrev pub server_acts_away : Net → Key → server.Reaction → Net
server_acts_away n key v =
    record n {
      far = record n.far { entries = set_at n.far.entries key v.entry };
      served = with_node key.server n.served;
      log = served key (begin_of v.entry) v.effect n.log;
    }

-- an accepted ask of a stranger
abbrev pub asked_away_at : Rules → Net → Key → Ask → Net
asked_away_at x n key ask =
    record n {
      asks = n.asks + 1;
      asked = with_node key.client n.asked;
      far = record n.far {
        numbers = set_at n.far.numbers key n.asks;
        tickets = set_at n.far.tickets key (Some (asked_ticket (client_context x key (client_now n key)) ask));
      };
      log = AskedAway n.asks key.client key.server (request_of ask) ∷ n.log;
    }

-- a change at a node itself enters the log; no ticket, entry or copy sees it
abbrev pub notes_change : Net → (node : ℕ) → (change : Octets) → Net
notes_change n node change = record n { log = Changed node change ∷ n.log }

-- the servers' stores after what was performed
abbrev pub stored : (S : Type 0) → StoreModel S → (server : ℕ) → Option Effect → (ℕ → S) → ℕ → S
stored S model server None stores node = stores node
stored S model server (Some effect) stores node = if nat_eq node server then model.after (stores server) effect.request else stores node

-- the stores after a change at that node
abbrev pub changed_at : (S : Type 0) → StoreModel S → (node : ℕ) → (change : Octets) → (ℕ → S) → ℕ → S
changed_at S model node change stores n = if nat_eq n node then model.changed (stores node) change else stores n

-- the stores after that node's server restarted
abbrev pub restarted_at : (S : Type 0) → StoreModel S → (node : ℕ) → (store : Option Octets) → (ℕ → S) → ℕ → S
restarted_at S model node store stores n = if nat_eq n node then restarted S model store (stores node) else stores n

-- a client acts; no store changes
abbrev pub reacts : (S : Type 0) → World S → Key → ClientTransaction → client.Reaction → World S
reacts S w key t r = record { net = client_acts w.net key t r; stores = w.stores }

-- a server acts, and its store changes with what it performed
abbrev pub serves : (S : Type 0) → StoreModel S → World S → Key → server.Reaction → World S
serves S model w key v = record { net = server_acts w.net key v; stores = stored S model key.server v.effect w.stores }

-- the same in transactions with strangers
abbrev pub reacts_away : (S : Type 0) → World S → Key → ClientTransaction → client.Reaction → World S
reacts_away S w key t r = record { net = client_acts_away w.net key t r; stores = w.stores }

abbrev pub serves_away : (S : Type 0) → StoreModel S → World S → Key → server.Reaction → World S
serves_away S model w key v = record { net = server_acts_away w.net key v; stores = stored S model key.server v.effect w.stores }

-- Events.

-- what can happen: an ask in one APDU or in these pieces, a delivery of the copy of that number, a tick of a node, noise, time that passes, a
-- change at a node itself, and a restart of a node's client or server
pub data Event : Type 0 where
  MakeAsk : (key : Key) (choice : ℕ) (whole : Bool) (front : Octets) (rest : List Octets) → Event
  Deliver : (number : ℕ) (free : Bool) → Event  -- free: whether a slot of the server's reply table has no live entry
  Tick : (as_client as_server : List Key) → Event  -- a node's tickets, and then its entries, in order
  Noise : Event  -- octets that are no datagram with an APDU
  Advance : (by : ℕ) (clients servers : ℕ → ℕ) → Event  -- so much real time passes; each clock goes on as far as that, within its pace
  Change : (node : ℕ) (change : Octets) → Event
  RestartClient : (node exact : ℕ) → Event  -- its tickets are lost
  RestartServer : (node exact : ℕ) (store : Option Octets) → Event  -- its entries are lost; its store is as it was, or that one
  Begin : (node exact : ℕ) → Event  -- a node that neither asked nor served so far begins, with a new clock
  BeginAgain : (node exact : ℕ) → Event  -- another client begins at a node, once all is over that the one before sent
  Stray : (key : Key) (free : Bool) (apdu : Apdu) → Event  -- any APDU of a stranger reaches a node, in that transaction
  AskAway : (key : Key) (choice : ℕ) (whole : Bool) (front : Octets) (rest : List Octets) → Event  -- a node asks a stranger
  TickAway : (as_client as_server : List Key) → Event  -- a tick of a node, as to strangers

-- whether an invoke ID is held for that server
abbrev pub is_key_held : ℕ → Option ClientTransaction → Bool
is_key_held now None = false
is_key_held now (Some t) = is_held now t

-- Restarts (own rule of this profile): an end's table is lost, and for a time it begins nothing.

-- a restarted client asks nothing before that moment
abbrev pub waits_to_ask : Net → Key → Bool
waits_to_ask n key = nat_lt (client_now n key) (n.asks_from key.client)

-- a restarted server begins no entry before that moment
abbrev pub waits_to_serve : Net → Key → Bool
waits_to_serve n key = nat_lt (server_now n key) (n.serves_from key.server)

-- a restart of its client took the ticket: its ask was made before it
abbrev pub is_lost : Net → Key → Bool
is_lost n key = nat_lt (n.made key) (n.restarted key.client)

-- whether its client can't ask under that key: it waits, or holds the invoke ID; a ticket that was lost holds none once its client asks again
abbrev pub is_id_held : Net → Key → Bool
is_id_held n key = waits_to_ask n key || (not (is_lost n key) && is_key_held (client_now n key) (n.tickets key))

-- the same of an ask of a stranger
abbrev pub is_id_held_away : Net → Key → Bool
is_id_held_away n key = waits_to_ask n key || is_key_held (client_now n key) (n.far.tickets key)

-- whether its server may begin an entry: a slot is free, and it does not wait
abbrev pub is_room : Net → Key → (free : Bool) → Bool
is_room n key free = free && not (waits_to_serve n key)

-- a ticket that was lost takes nothing any more, and how its ask ends is not known: it stands here as idle, since its copies are on their way
abbrev pub lost : Option ClientTransaction → Option ClientTransaction
lost None = None
lost (Some t) = Some (record t { phase = Idle })

-- a node's client begins anew, with a new clock: its tickets are lost
abbrev pub client_anew : Net → (node exact : ℕ) → Net
client_anew n node exact =
    record n {
      tickets = λ key. if nat_eq key.client node then lost (n.tickets key) else n.tickets key;
      client_clocks = with_clock n.pace node exact n.client_clocks;
      asked = with_node node n.asked;
      far = record n.far { tickets = λ key. if nat_eq key.client node then None else n.far.tickets key };
    }

-- a node's client restarts: it asks again once more than REST has passed
abbrev pub client_restarted : Net → (node exact : ℕ) → Net
client_restarted n node exact =
    record (client_anew n node exact) {
      restarted = λ m. if nat_eq m node then n.now + 1 else n.restarted m;
      sends_until = λ m. if nat_eq m node then min (n.sends_until m) (n.now + 1) else n.sends_until m;
      asks_from = λ m. if nat_eq m node then (clock_at n.pace exact).shows + REST + 1 else n.asks_from m;
    }

-- a node's server restarts, with a new clock: its entries are lost, and it begins entries again once more than KEEP has passed
abbrev pub server_restarted : Net → (node exact : ℕ) → (store : Option Octets) → Net
server_restarted n node exact store =
    record n {
      entries = λ key. if nat_eq key.server node then None else n.entries key;
      server_clocks = with_clock n.pace node exact n.server_clocks;
      serves_from = λ m. if nat_eq m node then (clock_at n.pace exact).shows + KEEP + 1 else n.serves_from m;
      served = with_node node n.served;
      log = Restarted node store ∷ n.log;
      far = record n.far { entries = λ key. if nat_eq key.server node then None else n.far.entries key };
    }

-- Late starts (own rule of this profile): a node may begin at any moment, and one client after another may begin at one node.

-- whether a node has done anything so far
abbrev pub is_active : Net → (node : ℕ) → Bool
is_active n node = n.asked node || n.served node

-- a client that never asked begins, with a new clock
abbrev pub client_begun : Net → (node exact : ℕ) → Net
client_begun n node exact = record n { client_clocks = with_clock n.pace node exact n.client_clocks }

-- a server that never served begins, with a new clock
abbrev pub server_begun : Net → (node exact : ℕ) → Net
server_begun n node exact = record n { server_clocks = with_clock n.pace node exact n.server_clocks }

-- a node that was not active begins
abbrev pub begun : Net → (node exact : ℕ) → Net
begun n node exact = client_begun (server_begun n node exact) node exact

-- all is over that a node's client sent: no copy of it can arrive, nor any for which a server's entry lives that it began
abbrev pub is_quiet : Net → (node : ℕ) → Bool
is_quiet n node = nat_le (n.sends_until node + n.pace.life + most n.pace KEEP + n.pace.life) n.now

-- then another client begins at that node, and may ask at once
abbrev pub next_client : Net → (node exact : ℕ) → Net
next_client n node exact =
    record (client_anew n node exact) {
      restarted = λ m. if nat_eq m node then n.now else n.restarted m;
      asks_from = λ m. if nat_eq m node then 0 else n.asks_from m;
    }

-- with it begins the node's server, where that never served; one that served goes on
abbrev pub begun_again : Net → (node exact : ℕ) → Net
begun_again n node exact =
    record (next_client n node exact) { server_clocks = if n.served node then n.server_clocks else with_clock n.pace node exact n.server_clocks }

-- what the transaction's server makes of a request, by its store as it is
abbrev pub service_of : (S : Type 0) → StoreModel S → World S → Key → Service
service_of S model w key = model.outcome (w.stores key.server)

-- an APDU reaches the client (clause 5.4.4); without a ticket it is dropped
abbrev pub takes_at_client : (S : Type 0) → Rules → World S → Key → Apdu → Option ClientTransaction → World S
takes_at_client S x w key a None = w
takes_at_client S x w key a (Some t) = reacts S w key t (client_on_apdu (client_context x key (client_now w.net key)) x.readable t a)

-- an APDU reaches the server (clause 5.4.5)
abbrev pub takes_at_server : (S : Type 0) → StoreModel S → Rules → World S → Key → (free : Bool) → Apdu → World S
takes_at_server S model x w key free a = serves S model w key
    (server_on_apdu (server_context x key (server_now w.net key)) (service_of S model w key) (w.net.entries key) (is_room w.net key free) a)

-- a copy reaches the other end of its transaction
abbrev pub arrives : (S : Type 0) → StoreModel S → Rules → World S → Key → (free : Bool) → Apdu → World S
arrives S model x w key free a = if is_from_client a then takes_at_server S model x w key free a else takes_at_client S x w key a (w.net.tickets key)

-- one that is not deliverable is lost
abbrev pub delivered : (S : Type 0) → StoreModel S → Rules → World S → (number : ℕ) → (free : Bool) → Option Post → World S
delivered S model x w number free None = w
delivered S model x w number free (Some p) = if is_deliverable x w.net number p then arrives S model x w p.key free p.copy.apdu else w

-- a tick of one ticket
abbrev pub ticks_ticket : (S : Type 0) → Rules → World S → Key → Option ClientTransaction → World S
ticks_ticket S x w key None = w
ticks_ticket S x w key (Some t) = reacts S w key t (client_ticks (client_context x key (client_now w.net key)) t)

-- a tick of these tickets, one after the other
abbrev pub ticks_as_client : (S : Type 0) → Rules → List Key → World S → World S
ticks_as_client S x [] w = w
ticks_as_client S x (key ∷ keys) w = ticks_as_client S x keys (ticks_ticket S x w key (w.net.tickets key))

-- a tick of these entries, one after the other
abbrev pub ticks_as_server : (S : Type 0) → StoreModel S → Rules → List Key → World S → World S
ticks_as_server S model x [] w = w
ticks_as_server S model x (key ∷ keys) w = ticks_as_server S model x keys
    (serves S model w key (server_ticks (server_context x key (server_now w.net key)) (w.net.entries key)))

-- an accepted ask; no store changes
abbrev pub ask_made : (S : Type 0) → Rules → World S → Key → Ask → World S
ask_made S x w key ask = record { net = asked_at x w.net key ask; stores = w.stores }

-- any APDU of a stranger reaches a node's server, or its client
abbrev pub strays_to_server : (S : Type 0) → StoreModel S → Rules → World S → Key → (free : Bool) → Apdu → World S
strays_to_server S model x w key free a = serves_away S model w key
    (server_on_apdu (server_context x key (server_now w.net key)) (service_of S model w key) (w.net.far.entries key) (is_room w.net key free) a)

abbrev pub strays_to_client : (S : Type 0) → Rules → World S → Key → Apdu → Option ClientTransaction → World S
strays_to_client S x w key a None = w
strays_to_client S x w key a (Some t) = reacts_away S w key t (client_on_apdu (client_context x key (client_now w.net key)) x.readable t a)

abbrev pub strays : (S : Type 0) → StoreModel S → Rules → World S → Key → (free : Bool) → Apdu → World S
strays S model x w key free a =
    if is_from_client a then strays_to_server S model x w key free a else strays_to_client S x w key a (w.net.far.tickets key)

-- an accepted ask of a stranger; no store changes
abbrev pub asked_away : (S : Type 0) → Rules → World S → Key → Ask → World S
asked_away S x w key ask = record { net = asked_away_at x w.net key ask; stores = w.stores }

-- ticks of these tickets and entries
abbrev pub ticks_ticket_away : (S : Type 0) → Rules → World S → Key → Option ClientTransaction → World S
ticks_ticket_away S x w key None = w
ticks_ticket_away S x w key (Some t) = reacts_away S w key t (client_ticks (client_context x key (client_now w.net key)) t)

abbrev pub ticks_as_client_away : (S : Type 0) → Rules → List Key → World S → World S
ticks_as_client_away S x [] w = w
ticks_as_client_away S x (key ∷ keys) w = ticks_as_client_away S x keys (ticks_ticket_away S x w key (w.net.far.tickets key))

abbrev pub ticks_as_server_away : (S : Type 0) → StoreModel S → Rules → List Key → World S → World S
ticks_as_server_away S model x [] w = w
ticks_as_server_away S model x (key ∷ keys) w = ticks_as_server_away S model x keys
    (serves_away S model w key (server_ticks (server_context x key (server_now w.net key)) (w.net.far.entries key)))

-- whether a ticket's client, whose clock shows so much, is in time to send for it
abbrev pub is_in_time : (shows : ℕ) → Option ClientTransaction → Bool
is_in_time shows None = false
is_in_time shows (Some t) = nat_le shows (t.ask.first + DEADLINE)

-- real time passes, and each clock goes on
abbrev pub passes : Net → (by : ℕ) → (clients servers : ℕ → ℕ) → Net
passes n by clients servers =
    record n {
      now = n.now + by;
      client_clocks = λ node. goes_on n.pace by (clients node) (n.client_clocks node);
      server_clocks = λ node. goes_on n.pace by (servers node) (n.server_clocks node);
      until = λ key.
          if not (is_lost n key) && is_in_time (goes_on n.pace by (clients key.client) (n.client_clocks key.client)).shows (n.tickets key) then n.now + by else n.until key;
    }

-- the world after an event; an ask whose invoke ID is held, or whose client waits, is refused, and changes nothing
abbrev pub happens : (S : Type 0) → StoreModel S → Rules → World S → Event → World S
happens S model x w (MakeAsk key choice whole front rest) =
    if is_id_held w.net key then w
    else ask_made S x w key (record { first = client_now w.net key; choice = choice; whole = whole; pieces = front ∷ rest })
happens S model x w (Deliver number free) = delivered S model x w number free (slice_get w.net.posts number)
happens S model x w (Tick as_client as_server) = ticks_as_server S model x as_server (ticks_as_client S x as_client w)
happens S model x w Noise = w
happens S model x w (Advance by clients servers) = record { net = passes w.net by clients servers; stores = w.stores }
happens S model x w (Change node change) = record { net = notes_change w.net node change; stores = changed_at S model node change w.stores }
happens S model x w (RestartClient node exact) = record { net = client_restarted w.net node exact; stores = w.stores }
happens S model x w (RestartServer node exact store) =
    record { net = server_restarted w.net node exact store; stores = restarted_at S model node store w.stores }
happens S model x w (Begin node exact) = if is_active w.net node then w else record { net = begun w.net node exact; stores = w.stores }
happens S model x w (BeginAgain node exact) = if is_quiet w.net node then record { net = begun_again w.net node exact; stores = w.stores } else w
happens S model x w (Stray key free a) = strays S model x w key free a
happens S model x w (AskAway key choice whole front rest) =
    if is_id_held_away w.net key then w
    else asked_away S x w key (record { first = client_now w.net key; choice = choice; whole = whole; pieces = front ∷ rest })
happens S model x w (TickAway as_client as_server) = ticks_as_server_away S model x as_server (ticks_as_client_away S x as_client w)

-- the world after these events, in their order
abbrev pub run : (S : Type 0) → StoreModel S → Rules → List Event → World S → World S
run S model x [] w = w
run S model x (e ∷ es) w = run S model x es (happens S model x w e)

-- in these events no node changes its own store, and none restarts with another one
abbrev pub MakeNoChange : List Event → Type 0
MakeNoChange [] = Unit {0}
MakeNoChange (Change node change ∷ es) = ⊥
MakeNoChange (RestartServer node exact store ∷ es) = (store ≡ None) × MakeNoChange es
MakeNoChange (e ∷ es) = MakeNoChange es

-- in these events no node restarts
abbrev pub MakeNoRestart : List Event → Type 0
MakeNoRestart [] = Unit {0}
MakeNoRestart (RestartClient node exact ∷ es) = ⊥
MakeNoRestart (RestartServer node exact store ∷ es) = ⊥
MakeNoRestart (BeginAgain node exact ∷ es) = ⊥
MakeNoRestart (e ∷ es) = MakeNoRestart es

-- in these events there are no strangers
abbrev pub MakeNoStray : List Event → Type 0
MakeNoStray [] = Unit {0}
MakeNoStray (Stray key free a ∷ es) = ⊥
MakeNoStray (AskAway key choice whole front rest ∷ es) = ⊥
MakeNoStray (TickAway as_client as_server ∷ es) = ⊥
MakeNoStray (e ∷ es) = MakeNoStray es

-- each node asks and begins entries at any moment
pub record NeverRestarted (n : Net) : Type 0 where
  pub asks : (node : ℕ) → n.asks_from node ≡ 0
  pub serves : (node : ℕ) → n.serves_from node ≡ 0
  pub lives : (node : ℕ) → n.restarted node ≡ 0

-- so no end waits: an invoke ID is held by its ticket alone, and a free slot is room for an entry
pub record NeverWaits (n : Net) : Type 0 where
  pub held : (key : Key) → is_id_held n key ≡ is_key_held (client_now n key) (n.tickets key)
  pub room : (key : Key) (free : Bool) → is_room n key free ≡ free

-- nothing was asked or sent yet, and nothing restarted; each clock begins where it likes
abbrev pub net_start : Pace → (clocks : ℕ → ℕ) → Net
net_start pace clocks =
    record {
      pace = pace;
      now = 0;
      client_clocks = λ node. clock_at pace (clocks node);
      server_clocks = λ node. clock_at pace (clocks node);
      restarted = λ node. 0;
      asks = 0;
      numbers = λ key. 0;
      made = λ key. 0;
      until = λ key. 0;
      pieces = λ key. 0;
      tickets = λ key. None;
      entries = λ key. None;
      posts = [];
      log = [];
      asks_from = λ node. 0;
      serves_from = λ node. 0;
      asked = λ node. false;
      served = λ node. false;
      sends_until = λ node. 0;
      far = record { numbers = λ key. 0; tickets = λ key. None; entries = λ key. None };
    }

-- the world before its first event, with these opening stores, and clocks of that pace that begin so
abbrev pub start : (S : Type 0) → Pace → (clocks : ℕ → ℕ) → (opening : ℕ → S) → World S
start S pace clocks opening = record { net = net_start pace clocks; stores = opening }
