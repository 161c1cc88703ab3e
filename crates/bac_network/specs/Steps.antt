-- Whether an event happens, and why not.
use Rattle.std.specs.Prelude.{◌≡◌, ◌⊎◌, ◌<◌, ◌+◌, ◌-◌, ◌^◌, ℕ, true, false, List, Option, Some, None, Result, Ok, Err, slice_get}
use Rattle.bac_apdu.specs.Apdu.{Limits}
use Rattle.bac_npdu.specs.Peers.{PeerView}
use Rattle.bac_service.specs.Values.{Request}
use Rattle.bac_protocol.specs.Service.{Octets}
use Rattle.bac_protocol.specs.Sizes.{RequestFault}
use Rattle.bac_transaction.specs.Ends.{AskRefusal, CannotGo}
use Rattle.bac_requester.specs.declared.ask_fault.AskFault.{AskFault}
use Rattle.bac_requester.specs.declared.ask_fault.AskFault.TheVariants as ask_fault
use Rattle.bac_store.specs.AtNode.{change_fault}
use Rattle.bac_store.specs.declared.change_fault.ChangeFault.{ChangeFault}
use Rattle.bac_world.specs.Node.{Node, Refusal, NodeRefuses}
use Rattle.bac_world.specs.ReusingLogs.{Reuses}
use Rattle.bac_world.specs.ReusingWorlds.{WorldStepSo}
use Rattle.bac_world.specs.World.{World, Copy, Event, WorldStep, is_quiet, IsAsked, IsAskedAway, IsOfNone, IsRefused, is_deliverable, link_at, told}
use Rattle.bac_world.specs.World.Event.{Ask, AskAway, Deliver, Noise, Stray, Tick, Advance, Change, Restart, Begin, BeginAgain}
use Rattle.bac_network.specs.declared.fault.WorldFault.{WorldFault}
use Rattle.bac_network.specs.declared.fault.WorldFault.TheVariants as fault

-- that node is there
abbrev pub IsThere : World → (node : ℕ) → Type 0
IsThere w node = (a : Node) × (slice_get w.nodes node ≡ Some a)

-- some node has that link
abbrev pub IsOfSome : List Node → (link : Octets) → Type 0
IsOfSome nodes link = (j : ℕ) × (link_at nodes j ≡ Some link)

-- the event names a node that there is not
abbrev pub NamesNoNode : World → Event → Type 0
NamesNoNode w (Ask client server limits r) = (slice_get w.nodes client ≡ None) ⊎ (slice_get w.nodes server ≡ None)
NamesNoNode w (Deliver number) = ⊥
NamesNoNode w (Noise node from octets) = slice_get w.nodes node ≡ None
NamesNoNode w (Stray node from octets) = slice_get w.nodes node ≡ None
NamesNoNode w (AskAway client peer limits q) = slice_get w.nodes client ≡ None
NamesNoNode w (Tick node) = slice_get w.nodes node ≡ None
NamesNoNode w (Restart node exact store) = slice_get w.nodes node ≡ None
NamesNoNode w (Begin node exact) = slice_get w.nodes node ≡ None
NamesNoNode w (BeginAgain node exact first_id store) = slice_get w.nodes node ≡ None
NamesNoNode w (Advance by own) = ⊥
NamesNoNode w (Change node c) = slice_get w.nodes node ≡ None

-- it names a copy that there is not
abbrev pub NamesNoCopy : World → Event → Type 0
NamesNoCopy w (Deliver number) = slice_get w.copies number ≡ None
NamesNoCopy w (Ask client server limits r) = ⊥
NamesNoCopy w (Noise node from octets) = ⊥
NamesNoCopy w (Stray node from octets) = ⊥
NamesNoCopy w (AskAway client peer limits q) = ⊥
NamesNoCopy w (Tick node) = ⊥
NamesNoCopy w (Restart node exact store) = ⊥
NamesNoCopy w (Begin node exact) = ⊥
NamesNoCopy w (BeginAgain node exact first_id store) = ⊥
NamesNoCopy w (Advance by own) = ⊥
NamesNoCopy w (Change node c) = ⊥

-- it is a stranger's, its node is there, and the stranger's link is a node's
abbrev pub NamesNodeLink : World → Event → Type 0
NamesNodeLink w (Stray node from octets) = IsThere w node × IsOfSome w.nodes from
NamesNodeLink w (AskAway client peer limits q) = IsThere w client × IsOfSome w.nodes peer.link
NamesNodeLink w e = ⊥

-- the moment would pass 64 bits
abbrev pub PassesClock : World → Event → Type 0
PassesClock w (Advance by own) = 2 ^ 64 - 1 < w.time.now + by
PassesClock w (Ask client server limits r) = ⊥
PassesClock w (Deliver number) = ⊥
PassesClock w (Noise node from octets) = ⊥
PassesClock w (Stray node from octets) = ⊥
PassesClock w (AskAway client peer limits q) = ⊥
PassesClock w (Tick node) = ⊥
PassesClock w (Restart node exact store) = ⊥
PassesClock w (Begin node exact) = ⊥
PassesClock w (BeginAgain node exact first_id store) = ⊥
PassesClock w (Change node c) = ⊥

-- it is a change that has that fault
abbrev pub RefusesChange : World → Event → ChangeFault → Type 0
RefusesChange w (Change node c) why = (a : Node) × (slice_get w.nodes node ≡ Some a) × (change_fault a.store c ≡ Some why)
RefusesChange w e why = ⊥

-- a node may not begin: something happened at it; nor may another program begin there: not all is over that its client sent
abbrev pub BeginsTooSoon : World → Event → Type 0
BeginsTooSoon w (Begin node exact) = IsThere w node × ((w.lives node).active ≡ true)
BeginsTooSoon w (BeginAgain node exact first_id store) = IsThere w node × (is_quiet w node ≡ false)
BeginsTooSoon w e = ⊥

-- it takes memory: an ask, a tick, a restart, another program that may begin, a copy that is deliverable, octets of a stranger, an ask of one, and a change without a fault
abbrev pub TakesMemory : (overtake : ℕ) → World → Event → Type 0
TakesMemory overtake w (Ask client server limits r) = Unit {0}
TakesMemory overtake w (Deliver number) =
    (c : Copy) × (slice_get w.copies number ≡ Some c) × (is_deliverable overtake w.time.pace.life w.time.now number w.copies c ≡ true)
TakesMemory overtake w (Noise node from octets) = ⊥
TakesMemory overtake w (Stray node from octets) = IsOfNone w.nodes from
TakesMemory overtake w (AskAway client peer limits q) = IsOfNone w.nodes peer.link
TakesMemory overtake w (Tick node) = Unit {0}
TakesMemory overtake w (Restart node exact store) = Unit {0}
TakesMemory overtake w (Begin node exact) = ⊥
TakesMemory overtake w (BeginAgain node exact first_id store) = is_quiet w node ≡ true
TakesMemory overtake w (Advance by own) = ⊥
TakesMemory overtake w (Change node c) = (why : ChangeFault) → RefusesChange w (Change node c) why → ⊥

-- a fault says why an event does not happen; memory is refused where nothing else speaks against it
abbrev pub IsFault : WorldFault → (overtake : ℕ) → World → Event → Type 0
IsFault fault.NoSuchNode overtake w e = NamesNoNode w e
IsFault fault.NoSuchDatagram overtake w e = NamesNoCopy w e
IsFault fault.NodeLink overtake w e = NamesNodeLink w e
IsFault fault.ClockEnd overtake w e = PassesClock w e
IsFault fault.TooSoon overtake w e = BeginsTooSoon w e
IsFault (fault.BadChange why) overtake w e = RefusesChange w e why
IsFault fault.NoMemory overtake w e = TakesMemory overtake w e × (NamesNoNode w e → ⊥)

-- an event happens, or a fault says why not, and nothing changes
abbrev pub Happens : {A : Type 0} → (overtake : ℕ) → World → Event → Result A WorldFault → World → Type 0
Happens overtake old e (Ok x) new = WorldStep overtake old e new × (PassesClock old e → ⊥) × (NamesNodeLink old e → ⊥)
Happens overtake old e (Err f) new = IsFault f overtake old e × (new ≡ old)

-- the same where these nodes let invoke IDs be used again
abbrev pub HappensSo : {A : Type 0} → (overtake : ℕ) → Reuses → World → Event → Result A WorldFault → World → Type 0
HappensSo overtake u old e (Ok x) new = WorldStepSo overtake u old e new × (PassesClock old e → ⊥) × (NamesNodeLink old e → ⊥)
HappensSo overtake u old e (Err f) new = IsFault f overtake old e × (new ≡ old)

-- Asks.

-- why an ask was refused
abbrev pub refusal_of : AskFault → Option Refusal
refusal_of ask_fault.ClockBack = None
refusal_of ask_fault.SelfPeer = Some Refusal.SelfPeer
refusal_of ask_fault.TooLong = Some (Refusal.CannotAsk (CannotGo RequestFault.TooLong))
refusal_of ask_fault.NeedsSegments = Some (Refusal.CannotAsk (CannotGo RequestFault.NeedsSegments))
refusal_of ask_fault.NoInvokeId = Some (Refusal.CannotAsk AskRefusal.NoInvokeId)
refusal_of ask_fault.NoSlot = Some (Refusal.CannotAsk AskRefusal.NoSlot)
refusal_of ask_fault.NoMemory = None

-- an ask of a stranger is refused for that, and nothing changes
pub record IsRefusedFor (f : AskFault) (old : World) (client : ℕ) (peer : PeerView) (limits : Limits) (r : Request) (new : World) : Type 0 where
  pub node : Node
  pub at : slice_get old.nodes client ≡ Some node
  pub refusal : Refusal
  pub why : NodeRefuses (told old client) peer limits r node refusal
  pub told_is : refusal_of f ≡ Some refusal
  pub same : new ≡ old

-- the fault of a refused ask is told, and no other event tells one
abbrev pub Tells : Option AskFault → World → Event → World → Type 0
Tells None old (Ask client server limits r) new = IsAsked old client server limits r new
Tells (Some f) old (Ask client server limits r) new = (h : IsRefused old client server limits r new) × (refusal_of f ≡ Some h.refusal)
Tells None old (Deliver number) new = Unit {0}
Tells None old (Noise node from octets) new = Unit {0}
Tells None old (Stray node from octets) new = Unit {0}
Tells None old (AskAway client peer limits q) new = IsAskedAway old client peer limits q new
Tells None old (Tick node) new = Unit {0}
Tells None old (Restart node exact store) new = Unit {0}
Tells None old (Begin node exact) new = Unit {0}
Tells None old (BeginAgain node exact first_id store) new = Unit {0}
Tells None old (Advance by own) new = Unit {0}
Tells None old (Change node c) new = Unit {0}
Tells (Some f) old (Deliver number) new = ⊥
Tells (Some f) old (Noise node from octets) new = ⊥
Tells (Some f) old (Stray node from octets) new = ⊥
Tells (Some f) old (AskAway client peer limits q) new = IsRefusedFor f old client peer limits q new
Tells (Some f) old (Tick node) new = ⊥
Tells (Some f) old (Restart node exact store) new = ⊥
Tells (Some f) old (Begin node exact) new = ⊥
Tells (Some f) old (BeginAgain node exact first_id store) new = ⊥
Tells (Some f) old (Advance by own) new = ⊥
Tells (Some f) old (Change node c) new = ⊥

-- it happens, and tells that
abbrev pub HappensTelling : (overtake : ℕ) → World → Event → Result (Option AskFault) WorldFault → World → Type 0
HappensTelling overtake old e (Ok told) new = WorldStep overtake old e new × Tells told old e new × (PassesClock old e → ⊥) × (NamesNodeLink old e → ⊥)
HappensTelling overtake old e (Err f) new = IsFault f overtake old e × (new ≡ old)

-- the same where these nodes let invoke IDs be used again
abbrev pub HappensTellingSo : (overtake : ℕ) → Reuses → World → Event → Result (Option AskFault) WorldFault → World → Type 0
HappensTellingSo overtake u old e (Ok told) new =
    WorldStepSo overtake u old e new × Tells told old e new × (PassesClock old e → ⊥) × (NamesNodeLink old e → ⊥)
HappensTellingSo overtake u old e (Err f) new = IsFault f overtake old e × (new ≡ old)

-- where nothing is told
abbrev pub Untells : {A : Type 0} → Result A WorldFault → Result (Option AskFault) WorldFault → Type 0
Untells (Ok x) r = r ≡ Ok None
Untells (Err f) r = r ≡ Err f
