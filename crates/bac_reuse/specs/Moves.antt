-- Single moves of a net in which some servers let clients use an invoke ID again, for whoever joins it with nodes. All that is not said here is as in Moves of
-- bac_protocol: the stores are left out, and a delivery says what its server's service makes of requests.
use Rattle.std.specs.Prelude.{◌≡◌, ◌<◌, ◌≤◌, ◌+◌, ◌⊎◌, ℕ, Bool, true, false, List, [], ◌∷◌, Option, Some, None, slice_get, if◌then◌else◌}
use Rattle.bac_apdu.specs.Apdu.{Apdu}
use Rattle.bac_protocol.specs.declared.times.TheConstants.{KEEP}
use Rattle.bac_protocol.specs.Pace.{IsShown}
use Rattle.bac_protocol.specs.Service.{Octets, Reply, Request}
use Rattle.bac_protocol.specs.Wire.{is_from_client}
use Rattle.bac_protocol.specs.Client.{ClientTransaction, request_of}
use Rattle.bac_protocol.specs.Server.{Service, is_none_live}
use Rattle.bac_protocol.specs.Log.{Fact, Has, IsUnended, IsUnendedAway, IsUnperformed, MayEnd, WasAskedAway, asks_in}
use Rattle.bac_protocol.specs.Log.Fact.{Asked, AskedAway, Changed, Ended, EndedAway, Performed, Restarted, Served}
use Rattle.bac_protocol.specs.Transaction.{Key, Rules, server_context}
use Rattle.bac_protocol.specs.World.{Net, Post, is_deliverable, is_id_held, is_room, server_acts, server_acts_away, server_now}
use Rattle.bac_protocol.specs.Claims.{HasSinceRestart}
use Rattle.bac_protocol.specs.Moves.{Move, moved, strayed_to_client, taken_by_client}
use Rattle.bac_protocol.specs.Moves.Move.{Arrives, RestartsServer, Strays}
use Rattle.bac_protocol.specs.Own.{IsOwnEntry}
use Rattle.bac_protocol.specs.Reuse.{server_hears}
use Rattle.bac_reuse.specs.Runs.{AreOf, AreSameBut, Reusing, with_reuses}

-- a copy reaches its server, whose service says so
abbrev pub taken_by_server_so : Rules → Reusing → Net → Post → (free : Bool) → Service → Net
taken_by_server_so x u n p free service =
    server_acts n p.key
    (server_hears (u.reuses p.key.server) (server_context x p.key (server_now n p.key)) service u.reads (n.entries p.key) (is_room n p.key free) p.copy.apdu)

-- the copy of that number arrives, if it is deliverable
abbrev pub arrived_so : Rules → Reusing → Net → (number : ℕ) → (free : Bool) → Service → Option Post → Net
arrived_so x u n number free service None = n
arrived_so x u n number free service (Some p) =
    if is_deliverable x n number p
    then (if is_from_client p.copy.apdu then taken_by_server_so x u n p free service else taken_by_client x n p (n.tickets p.key))
    else n

-- a stranger's APDU reaches a node's server
abbrev pub strayed_to_server_so : Rules → Reusing → Net → Key → (free : Bool) → Service → Apdu → Net
strayed_to_server_so x u n key free service a =
    server_acts_away n key
    (server_hears (u.reuses key.server) (server_context x key (server_now n key)) service u.reads (n.far.entries key) (is_room n key free) a)

-- the net after a move
abbrev pub moved_so : Rules → Reusing → Net → Move → Net
moved_so x u n (Arrives number free service) = arrived_so x u n number free service (slice_get n.posts number)
moved_so x u n (Strays key free service a) =
    if is_from_client a then strayed_to_server_so x u n key free service a else strayed_to_client x n key a (n.far.tickets key)
moved_so x u n m = moved x n m

-- a net to which such moves lead
pub data IsReachedSo (x : Rules) (u : Reusing) (from : Net) : Net → Type 0 where
  Still : IsReachedSo x u from from
  Moved : (n : Net) (m : Move) → IsReachedSo x u from n → IsReachedSo x u from (moved_so x u n m)

-- a net to which moves lead, each by rules of its own that are such, where those servers let invoke IDs be used again now, of those that ever do. A server that
-- restarts may do so from then on, or no more.
pub data IsReachedSoIn (Are : Rules → Type 0) (ever : Reusing) (from : Net) : (reuses : ℕ → Bool) → Net → Type 0 where
  Still : (reuses : ℕ → Bool) → AreOf reuses ever → IsReachedSoIn Are ever from reuses from
  Moved : (x : Rules) → Are x → (reuses : ℕ → Bool) (n : Net) (m : Move) → IsReachedSoIn Are ever from reuses n
      → IsReachedSoIn Are ever from reuses (moved_so x (with_reuses ever reuses) n m)
  Turned : (x : Rules) → Are x → (reuses next : ℕ → Bool) → AreOf next ever → (n : Net) (node exact : ℕ) (store : Option Octets) → AreSameBut node reuses next
      → IsReachedSoIn Are ever from reuses n → IsReachedSoIn Are ever from next (moved_so x (with_reuses ever reuses) n (RestartsServer node exact store))

-- ask n may be performed: it was made, and was not performed before, or is a read at a server that lets invoke IDs be used again
abbrev pub MayBePerformed : Reusing → ℕ → Request → List Fact → Type 0
MayBePerformed u n r log =
    (c : ℕ) × (s : ℕ) × Has (Asked n c s r) log × (IsUnperformed n log ⊎ ((u.reuses s ≡ true) × (u.reads r.choice ≡ true)))

-- the log is right, where stores are not looked at
abbrev pub IsOrderlySo : Reusing → List Fact → Type 0
IsOrderlySo u [] = Unit {0}
IsOrderlySo u (Asked n c s r ∷ log) = (n ≡ asks_in log) × IsOrderlySo u log
IsOrderlySo u (Performed n r p ∷ log) = MayBePerformed u n r log × IsOrderlySo u log
IsOrderlySo u (Ended n how ∷ log) = MayEnd n how log × IsUnended n log × IsOrderlySo u log
IsOrderlySo u (Changed s c ∷ log) = IsOrderlySo u log
IsOrderlySo u (Restarted s o ∷ log) = IsOrderlySo u log
IsOrderlySo u (Served q s i b r p ∷ log) = IsOrderlySo u log
IsOrderlySo u (AskedAway n c q r ∷ log) = (n ≡ asks_in log) × IsOrderlySo u log
IsOrderlySo u (EndedAway n how ∷ log) = WasAskedAway n log × IsUnendedAway n log × IsOrderlySo u log

-- what such a server performs for strangers is of entries apart, as AreSpaced of bac_protocol has it: here it is said of servers that do not let invoke IDs be
-- used again
abbrev pub AreSpacedSo : Reusing → List Fact → Type 0
AreSpacedSo u [] = Unit {0}
AreSpacedSo u (Served q s i b r p ∷ log) =
    (u.reuses s ≡ false → (a : ℕ) (r' : Request) (p' : Reply) → HasSinceRestart s (Served q s i a r' p') log → a + KEEP < b) × AreSpacedSo u log
AreSpacedSo u (f ∷ log) = AreSpacedSo u log

-- and it begins no entry for them while it waits after a restart
pub record AreServedApartSo (u : Reusing) (n : Net) : Type 0 where
  pub spaced : AreSpacedSo u n.log
  pub waited : (q s i b : ℕ) (r : Request) (p : Reply) → u.reuses s ≡ false → HasSinceRestart s (Served q s i b r p) n.log → n.serves_from s ≤ b

-- the clocks of a transaction show whole milliseconds
pub record IsTicking (n : Net) (key : Key) : Type 0 where
  pub some : 0 < n.pace.grain
  pub client : IsShown n.pace (n.client_clocks key.client)
  pub server : IsShown n.pace (n.server_clocks key.server)

-- what is known of it, as IsInOrder of bac_protocol says it of a net in which no invoke ID is used again
pub record IsInOrderSo (u : Reusing) (n : Net) : Type 0 where
  -- the log is right, where stores are not looked at, and asks are numbered by those before them
  pub orderly : IsOrderlySo u n.log
  pub counted : n.asks ≡ asks_in n.log
  -- a ticket's request is the one that was asked under its number, no later than now
  pub asked : (key : Key) (t : ClientTransaction) → n.tickets key ≡ Some t → Has (Asked (n.numbers key) key.client key.server (request_of t.ask)) n.log
  pub made : (key : Key) (t : ClientTransaction) → n.tickets key ≡ Some t → n.made key ≤ n.now
  -- where copies or an entry are, there is a ticket
  pub posted : (number : ℕ) (p : Post) → slice_get n.posts number ≡ Some p → n.tickets p.key ≡ None → ⊥
  pub entered : (key : Key) → n.tickets key ≡ None → n.entries key ≡ None
  -- entries are their transaction's own
  pub own : (key : Key) → IsOwnEntry key.invoke_id (n.entries key)
  -- no entry is live for an invoke ID that is free, where the client does not wait after a restart
  pub dead : (key : Key) → is_id_held n key ≡ false → is_none_live (server_now n key) (n.entries key) ≡ true
  -- clocks show whole milliseconds
  pub ticking : (key : Key) → IsTicking n key
  -- an ask of a stranger was made under the number that its ticket has, and no two have one number
  pub away : (key : Key) (t : ClientTransaction) → n.far.tickets key ≡ Some t → WasAskedAway (n.far.numbers key) n.log
  pub apart : (a b : Key) (s t : ClientTransaction) → n.far.tickets a ≡ Some s → n.far.tickets b ≡ Some t → n.far.numbers a ≡ n.far.numbers b → a ≡ b
  -- what strangers had performed is of entries apart
  pub served_apart : AreServedApartSo u n
