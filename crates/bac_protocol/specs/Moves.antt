-- Single moves of a net, for whoever joins it with nodes: the stores are left out, and a delivery says what its server's service makes of requests,
-- so a service may answer otherwise each time. Each ticket and each entry ticks on its own.
use Rattle.std.specs.Prelude.{◌≡◌, ℕ, Bool, true, false, ◌∷◌, Option, Some, None, List, slice_get, if◌then◌else◌}
use Rattle.bac_protocol.specs.Service.{Octets}
use Rattle.bac_protocol.specs.Wire.{is_from_client}
use Rattle.bac_protocol.specs.Client.{ClientTransaction, request_of, client_on_apdu, client_ticks}
use Rattle.bac_protocol.specs.Server.{Service, is_none_live, server_on_apdu, server_ticks}
use Rattle.bac_protocol.specs.Log.{Has, asks_in, IsOrderly, WasAskedAway}
use Rattle.bac_protocol.specs.Log.Fact.{Asked}
use Rattle.bac_protocol.specs.Transaction.{Key, Rules, client_context, server_context}
use Rattle.bac_protocol.specs.World.{asked_away_at, client_acts_away, server_acts_away, is_id_held_away}
use Rattle.bac_apdu.specs.Apdu.{Apdu}
use Rattle.bac_protocol.specs.World.{Net, Post, set_at, asked_at, client_acts, server_acts, notes_change, is_deliverable}
use Rattle.bac_protocol.specs.World.{is_id_held, is_room, client_restarted, server_restarted, client_now, server_now, passes}
use Rattle.bac_protocol.specs.World.{is_active, begun, is_quiet, begun_again}
use Rattle.bac_protocol.specs.Own.{IsOwnEntry}
use Rattle.bac_protocol.specs.Claims.{AreServedApart}

-- an ask; a copy arrives, at a server with that service; one ticket's tick; one entry's tick; time passes; a node changes its own store; a node's client
-- or server restarts; a node that was not active begins; another client begins at a node
pub data Move : Type 0 where
  Asks : (key : Key) (choice : ℕ) (whole : Bool) (front : Octets) (rest : List Octets) → Move
  Arrives : (number : ℕ) (free : Bool) (service : Service) → Move
  TicksTicket : (key : Key) → Move
  TicksEntry : (key : Key) → Move
  Passes : (by : ℕ) (clients servers : ℕ → ℕ) → Move
  Changes : (node : ℕ) (change : Octets) → Move
  RestartsClient : (node exact : ℕ) → Move
  RestartsServer : (node exact : ℕ) (store : Option Octets) → Move
  Begins : (node exact : ℕ) → Move
  BeginsAgain : (node exact : ℕ) → Move
  Strays : (key : Key) (free : Bool) (service : Service) (apdu : Apdu) → Move  -- the same of transactions with strangers
  AsksAway : (key : Key) (choice : ℕ) (whole : Bool) (front : Octets) (rest : List Octets) → Move
  TicksTicketAway : (key : Key) → Move
  TicksEntryAway : (key : Key) → Move

-- a copy reaches its client (clause 5.4.4); without a ticket it is dropped
abbrev pub taken_by_client : Rules → Net → Post → Option ClientTransaction → Net
taken_by_client x n p None = n
taken_by_client x n p (Some t) = client_acts n p.key t (client_on_apdu (client_context x p.key (client_now n p.key)) x.readable t p.copy.apdu)

-- a copy reaches its server, whose service says so (clause 5.4.5)
abbrev pub taken_by_server : Rules → Net → Post → (free : Bool) → Service → Net
taken_by_server x n p free service =
    server_acts n p.key (server_on_apdu (server_context x p.key (server_now n p.key)) service (n.entries p.key) (is_room n p.key free) p.copy.apdu)

-- the copy of that number arrives, if it is deliverable
abbrev pub arrived : Rules → Net → (number : ℕ) → (free : Bool) → Service → Option Post → Net
arrived x n number free service None = n
arrived x n number free service (Some p) =
    if is_deliverable x n number p
    then (if is_from_client p.copy.apdu then taken_by_server x n p free service else taken_by_client x n p (n.tickets p.key))
    else n

-- a tick of one ticket
abbrev pub ticket_ticked : Rules → Net → Key → Option ClientTransaction → Net
ticket_ticked x n key None = n
ticket_ticked x n key (Some t) = client_acts n key t (client_ticks (client_context x key (client_now n key)) t)

-- a stranger's APDU reaches a node's client, or its server
abbrev pub strayed_to_client : Rules → Net → Key → Apdu → Option ClientTransaction → Net
strayed_to_client x n key a None = n
strayed_to_client x n key a (Some t) = client_acts_away n key t (client_on_apdu (client_context x key (client_now n key)) x.readable t a)

abbrev pub strayed_to_server : Rules → Net → Key → (free : Bool) → Service → Apdu → Net
strayed_to_server x n key free service a =
    server_acts_away n key (server_on_apdu (server_context x key (server_now n key)) service (n.far.entries key) (is_room n key free) a)

abbrev pub ticket_ticked_away : Rules → Net → Key → Option ClientTransaction → Net
ticket_ticked_away x n key None = n
ticket_ticked_away x n key (Some t) = client_acts_away n key t (client_ticks (client_context x key (client_now n key)) t)

-- the net after a move
abbrev pub moved : Rules → Net → Move → Net
moved x n (Asks key choice whole front rest) =
    if is_id_held n key then n
    else asked_at x n key (record { first = client_now n key; choice = choice; whole = whole; pieces = front ∷ rest })
moved x n (Arrives number free service) = arrived x n number free service (slice_get n.posts number)
moved x n (TicksTicket key) = ticket_ticked x n key (n.tickets key)
moved x n (TicksEntry key) = server_acts n key (server_ticks (server_context x key (server_now n key)) (n.entries key))
moved x n (Passes by clients servers) = passes n by clients servers
moved x n (Changes node change) = notes_change n node change
moved x n (RestartsClient node exact) = client_restarted n node exact
moved x n (RestartsServer node exact store) = server_restarted n node exact store
moved x n (Begins node exact) = if is_active n node then n else begun n node exact
moved x n (BeginsAgain node exact) = if is_quiet n node then begun_again n node exact else n
moved x n (Strays key free service a) =
    if is_from_client a then strayed_to_server x n key free service a else strayed_to_client x n key a (n.far.tickets key)
moved x n (AsksAway key choice whole front rest) =
    if is_id_held_away n key then n
    else asked_away_at x n key (record { first = client_now n key; choice = choice; whole = whole; pieces = front ∷ rest })
moved x n (TicksTicketAway key) = ticket_ticked_away x n key (n.far.tickets key)
moved x n (TicksEntryAway key) = server_acts_away n key (server_ticks (server_context x key (server_now n key)) (n.far.entries key))

-- a net to which moves lead
pub data IsReached (x : Rules) (from : Net) : Net → Type 0 where
  Still : IsReached x from from
  Moved : (n : Net) (m : Move) → IsReached x from n → IsReached x from (moved x n m)

-- a net to which moves lead, each by rules of its own that are such
pub data IsReachedIn (Are : Rules → Type 0) (from : Net) : Net → Type 0 where
  Still : IsReachedIn Are from from
  Moved : (x : Rules) → Are x → (n : Net) (m : Move) → IsReachedIn Are from n → IsReachedIn Are from (moved x n m)

-- what is known of it
pub record IsInOrder (n : Net) : Type 0 where
  -- the log is right, where stores are not looked at, and asks are numbered by those before them
  pub orderly : IsOrderly n.log
  pub counted : n.asks ≡ asks_in n.log
  -- a ticket's request is the one that was asked under its number
  pub asked : (key : Key) (t : ClientTransaction) → n.tickets key ≡ Some t → Has (Asked (n.numbers key) key.client key.server (request_of t.ask)) n.log
  -- where copies or an entry are, there is a ticket
  pub posted : (number : ℕ) (p : Post) → slice_get n.posts number ≡ Some p → n.tickets p.key ≡ None → ⊥
  pub entered : (key : Key) → n.tickets key ≡ None → n.entries key ≡ None
  -- entries are their transaction's own
  pub own : (key : Key) → IsOwnEntry key.invoke_id (n.entries key)
  -- no entry is live for an invoke ID that is free, where the client does not wait after a restart
  pub dead : (key : Key) → is_id_held n key ≡ false → is_none_live (server_now n key) (n.entries key) ≡ true
  -- an ask of a stranger was made under the number that its ticket has, and no two have one number
  pub away : (key : Key) (t : ClientTransaction) → n.far.tickets key ≡ Some t → WasAskedAway (n.far.numbers key) n.log
  pub apart : (a b : Key) (s t : ClientTransaction) → n.far.tickets a ≡ Some s → n.far.tickets b ≡ Some t → n.far.numbers a ≡ n.far.numbers b → a ≡ b
  -- what strangers had performed is of entries apart
  pub served_apart : AreServedApart n

-- What stands in a table by key after one place was set.
pub record SetsOnePlace (A : Type 0) : Type 0 where
  pub same : (f : Key → A) (key : Key) (a : A) → set_at f key a key ≡ a
  pub other : (f : Key → A) (key : Key) (a : A) (k : Key) → (key ≡ k → ⊥) → set_at f key a k ≡ f k
