-- What a server performs of a stranger's write, while the entry of it lives.
use Rattle.std.specs.Prelude.{◌≡◌, ◌≢◌, ℕ, ◌+◌, ◌≤◌, false, List, [], ◌∷◌, ◌++◌, Option, Some, None}
use Rattle.bac_apdu.specs.Apdu.{Apdu, Limits, Segment}
use Rattle.bac_apdu.specs.Apdu.Apdu.{ConfirmedRequest}
use Rattle.bac_apdu.specs.Spelling.{SpellsApdu}
use Rattle.bac_npdu.specs.Datagram.{Means}
use Rattle.bac_npdu.specs.Peers.{PeerView}
use Rattle.bac_protocol.specs.declared.times.TheConstants.{KEEP}
use Rattle.bac_protocol.specs.Pace.{IsTimely}
use Rattle.bac_protocol.specs.Server.{ServerTransaction}
use Rattle.bac_protocol.specs.Service.{Octets}
use Rattle.bac_slots.specs.Slots.{value_at}
use Rattle.bac_transaction.specs.Ends.{key_of}
use Rattle.bac_transaction.specs.Keys.{PeerKey, same_key}
use Rattle.bac_transaction.specs.Reuse.{is_read}
use Rattle.bac_world.specs.Once.{Fact}
use Rattle.bac_world.specs.Once.Fact.{Served}
use Rattle.bac_world.specs.ReusingLogs.{Reuses}
use Rattle.bac_world.specs.ReusingWorlds.{HearsSo, WorldRunSo}
use Rattle.bac_world.specs.Services.{Performed}
use Rattle.bac_world.specs.World.{Event, IsBounded, IsFresh, IsOfNone, RunsOn, World, told}
use Rattle.bac_world.specs.World.Event.{Stray}

-- what an entry keeps of its request: the octets of one that came in one APDU, or the first piece of one that came in segments
pub record KeptOctets : Type 0 where
  pub request : Option Octets
  pub first : Option Octets

abbrev pub kept_by : ServerTransaction → KeptOctets
kept_by e = record { request = e.request; first = e.first }

-- An APDU that comes is no other request than the one of an entry: it is that request again, which is no read, a later segment, or no Confirmed-Request. Where
-- that request came in segments, a segment 0 is its first piece again; where that is not kept, any segment counts as one of it.
abbrev pub IsNoOtherThan : (choice : ℕ) → (request first : Option Octets) → Apdu → Type 0
IsNoOtherThan choice (Some kept) first (ConfirmedRequest limits invoke_id None asked octets) = (asked ≡ choice) × (octets ≡ kept) × (is_read asked ≡ false)
IsNoOtherThan choice (Some kept) first (ConfirmedRequest limits invoke_id (Some segment) asked octets) = segment.number ≢ 0
IsNoOtherThan choice None first (ConfirmedRequest limits invoke_id None asked octets) = ⊥
IsNoOtherThan choice None None (ConfirmedRequest limits invoke_id (Some segment) asked octets) = Unit {0}
IsNoOtherThan choice None (Some piece) (ConfirmedRequest limits invoke_id (Some segment) asked octets) =
    segment.number ≡ 0 → (asked ≡ choice) × (octets ≡ piece)
IsNoOtherThan choice request first _ = Unit {0}

abbrev pub IsNoOther : (choice : ℕ) → KeptOctets → Apdu → Type 0
IsNoOther choice kept a = IsNoOtherThan choice kept.request kept.first a

-- in these events the node hears no other request of that stranger under that invoke ID
abbrev pub HearsNoOther : (node : ℕ) → PeerKey → (choice : ℕ) → (request : KeptOctets) → List Event → Type 0
HearsNoOther node key choice request [] = Unit {0}
HearsNoOther node key choice request (Stray i from octets ∷ es) =
    (i ≡ node → (peer : PeerView) (a : Apdu) → Means SpellsApdu from octets peer a → key_of peer a ≡ key → IsNoOther choice request a)
    × HearsNoOther node key choice request es
HearsNoOther node key choice request (e ∷ es) = HearsNoOther node key choice request es

-- nothing there was performed for that stranger under that invoke ID, by that node
abbrev pub HasNothingFor : (node : ℕ) → PeerKey → List Fact → Type 0
HasNothingFor node key [] = Unit {0}
HasNothingFor node key (Served peer i invoke_id begin r p ∷ log) =
    (i ≡ node → record { peer = peer; invoke_id = invoke_id } ≡ key → ⊥) × HasNothingFor node key log
HasNothingFor node key (f ∷ log) = HasNothingFor node key log

-- the log has grown, and by nothing of the kind
pub record AddsNothingFor (node : ℕ) (key : PeerKey) (old new : List Fact) : Type 0 where
  pub more : List Fact
  pub is : new ≡ more ++ old
  pub nothing : HasNothingFor node key more

-- a node hears the APDU that completes a stranger's request, in one APDU or with a segment, which is no read, and performs it
pub record PerformsWrite (u : Reuses) (old : World) (node : ℕ) (key : PeerKey) (segment : Option Segment) (choice : ℕ) (octets : Octets) (new : World) : Type 0
  where
    pub link : Octets
    pub datagram : Octets
    pub hears : HearsSo (u node) old node link datagram new
    pub stranger : IsOfNone old.nodes link
    pub limits : Limits
    pub means : Means SpellsApdu link datagram key.peer (ConfirmedRequest limits key.invoke_id segment choice octets)
    pub write : is_read choice ≡ false
    pub performed : Performed
    pub is : hears.outcome.performed ≡ Some performed

-- from then on: while the entry lives, by the node's clock, the node does not restart, and no other request of that stranger comes under that invoke ID,
-- nothing more is performed for it
abbrev pub IsOnceWhileKept : (overtake : ℕ) → Reuses → (node : ℕ) → PeerKey → ServerTransaction → World → Type 0
IsOnceWhileKept overtake u node key e new =
    (events : List Event) (last : World) → WorldRunSo overtake u new events last → RunsOn node events → HearsNoOther node key e.choice (kept_by e) events
    → told last node ≤ e.begin + KEEP → AddsNothingFor node key new.log last.log

-- the entry that the node keeps then: of a request in one APDU it has the octets, and begins with it
pub record KeepsWrite (overtake : ℕ) (u : Reuses) (old : World) (node : ℕ) (key : PeerKey) (segment : Option Segment) (choice : ℕ) (octets : Octets)
    (new : World) (p : PerformsWrite u old node key segment choice octets new) : Type 0 where
  pub entry : ServerTransaction
  pub there : value_at same_key key p.hears.after.servers.slots ≡ Some entry
  pub whole : segment ≡ None → (entry.begin ≡ told old node) × (entry.choice ≡ choice) × (entry.request ≡ Some octets)
  pub once : IsOnceWhileKept overtake u node key entry new

abbrev pub WritesActOnce : Type 0
WritesActOnce =
    (W overtake : ℕ) (u : Reuses) (first old new : World) → IsFresh first → IsTimely first.time.pace → IsBounded W overtake first
    → (events : List Event) → WorldRunSo overtake u first events old
    → (node : ℕ) (key : PeerKey) (segment : Option Segment) (choice : ℕ) (octets : Octets) (p : PerformsWrite u old node key segment choice octets new)
    → KeepsWrite overtake u old node key segment choice octets new p
