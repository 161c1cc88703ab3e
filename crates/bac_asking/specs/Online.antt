-- What `ask` and `pair` print, and their statuses: over links that the machine bound to the address of the command, and beside a clock that it made,
-- bac_commands' promise holds.
use Rattle.std.specs.Prelude.{◌≡◌, ◌≢◌, ℕ, Bool, true, false, List, Option, Some}
use Rattle.bac_driver.specs.Nodes.{Octets, STRICTLY, Rules}
use Rattle.bac_driver.specs.Udp.{LOCAL_HOST}
use Rattle.bac_text.specs.declared.status.Status.{Status}
use Rattle.bac_driver.specs.Moments.{Told, with_moment}
use Rattle.bac_driver.specs.Pairs.{Pair, paired}
use Rattle.bac_driver.specs.Runs.{Timed}
use Rattle.bac_driver.specs.BoundNodes.{BoundNode}
use Rattle.bac_commands.specs.Houses.{client_node, house_node}
use Rattle.bac_commands.specs.Pairs.{TwoTexts}
use Rattle.bac_commands.specs.Statuses.{ByStatus}
use Rattle.bac_environment.specs.Addresses.{EVERY_HOST}
use Rattle.bac_environment.specs.Sockets.{Clocks, IsAt, Links}
use Rattle.bac_asking.specs.Recording.{PrintsHeader}
use Rattle.bac_asking.specs.Rounds.{AreRounds, Doing}
use Rattle.bac_asking.specs.declared.asking.Asking.{Asking}
use Rattle.bac_asking.specs.declared.recording.RecordForm.{RecordForm}

-- ---- nodes that ask

-- any free port
abbrev pub FREE : ℕ
FREE = 0

-- the rules of a node that asks
abbrev pub CLIENTS : Rules
CLIENTS = record STRICTLY { memory = Some 67108864 }

-- one with the house store, to which nothing has happened, at any free port; its invoke IDs begin at that one
abbrev pub IsHouseAt : Links → (host : Octets) → (first_id : ℕ) → BoundNode → Type 0
IsHouseAt IsOn host first_id bound_node = IsAt IsOn host FREE (house_node first_id) CLIENTS bound_node

-- not 0.0.0.0, which is every address of a machine: a station has one
abbrev pub IsOneHost : (host : Octets) → Type 0
IsOneHost host = host ≢ EVERY_HOST

-- one that asks for lists, and begins at that moment
pub record IsClientAt (IsOn : Links) (host : Octets) (now first_id : ℕ) (bound_node : BoundNode) : Type 0 where
  pub named : IsOneHost host
  pub port : ℕ
  pub at : IsAt IsOn host port (client_node now first_id) CLIENTS bound_node

-- beside a clock: it begins at the latest moment of that, and its invoke IDs begin anywhere
pub record IsClient (IsOn : Links) (host : Octets) (begun : Timed) : Type 0 where
  pub first_id : ℕ
  pub at : IsClientAt IsOn host begun.told.last first_id begun.bound_node

-- a clock printed one moment more
pub record LooksOnce (old new : Told) : Type 0 where
  pub moment : ℕ
  pub is : new ≡ with_moment old moment

-- one that was made printed one
pub record HasLooked (IsClock : Clocks) (told : Told) : Type 0 where
  pub made : Told
  pub clock : IsClock made
  pub looks : LooksOnce made told

-- ---- asking

-- below what stands above records, that was done
pub record IsHeaded (records : Option RecordForm) (has_names : Bool) (Does : Doing) (all : Bool) (before after : Timed) (old new : Option (List ℕ)) : Type 0 where
  pub begun : Option (List ℕ)
  pub header : PrintsHeader records has_names old begun
  pub does : Does all before after begun new

-- a client at any port, whose invoke IDs began anywhere, did that, in rounds where they are wanted
pub record ByClient (IsOn : Links) (IsClock : Clocks) (asking : Asking) (Round : Doing) (all : Bool) (old new : Option (List ℕ)) : Type 0 where
  pub before : Timed
  pub after : Timed
  pub client : IsClient IsOn asking.host before
  pub clock : HasLooked IsClock before.told
  pub rounds : IsHeaded asking.records asking.has_names (AreRounds asking.rounds Round) all before after old new

-- ---- two nodes

-- two nodes, beside a clock that was made: both asks of the first
pub record PairsBeside (IsClock : Clocks) (first second : BoundNode) (answered : Bool) (old new : Option (List ℕ)) : Type 0 where
  pub told : Told
  pub after : Pair
  pub clock : IsClock told
  pub texts : TwoTexts answered (paired first second told) after old new

abbrev pub ArePaired : Clocks → Status → (first second : BoundNode) → (old new : Option (List ℕ)) → Type 0
ArePaired IsClock s first second old new = ByStatus s (PairsBeside IsClock first second true old new) (PairsBeside IsClock first second false old new) ⊥

-- two such nodes at free ports of this machine: both asks of the first
pub record Pairs (IsOn : Links) (IsClock : Clocks) (answered : Bool) (old new : Option (List ℕ)) : Type 0 where
  pub first : BoundNode
  pub second : BoundNode
  pub is_first : IsHouseAt IsOn LOCAL_HOST 0 first
  pub is_second : IsHouseAt IsOn LOCAL_HOST 0 second
  pub pairs : PairsBeside IsClock first second answered old new

abbrev pub IsPair : Links → Clocks → Status → (old new : Option (List ℕ)) → Type 0
IsPair IsOn IsClock s old new = ByStatus s (Pairs IsOn IsClock true old new) (Pairs IsOn IsClock false old new) ⊥
