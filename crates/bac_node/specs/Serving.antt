-- What a node makes of a datagram by its rules. All that is not said here is as in Node of bac_world, and under the strict rules everything is.
use Rattle.std.specs.Prelude.{◌≡◌, ◌≢◌, ◌⊎◌, ◌↔◌, ◌≤◌, ℕ, Bool, true, false, Option, Some, None, Result, Ok, Err}
use Rattle.bac_apdu.specs.Apdu.{Apdu}
use Rattle.bac_apdu.specs.Spelling.{SpellsApdu}
use Rattle.bac_npdu.specs.Datagram.{Means}
use Rattle.bac_npdu.specs.Peers.{PeerView}
use Rattle.bac_value.specs.declared.memory.NoMemory.{NoMemory}
use Rattle.bac_protocol.specs.Service.{Octets}
use Rattle.bac_protocol.specs.Serving.{ReadRule}
use Rattle.bac_protocol.specs.Wire.{is_from_client}
use Rattle.bac_protocol.specs.declared.times.TheConstants.{KEEP}
use Rattle.bac_transaction.specs.Given.{rules_of}
use Rattle.bac_transaction.specs.Reuse.{is_read}
use Rattle.bac_transaction.specs.Services.{service_of}
use Rattle.bac_transaction.specs.Sharing.{EndRules, STRICT, fresh_rules}
use Rattle.bac_transaction.specs.Serving.{is_turned_away_by, responder_by}
use Rattle.bac_transaction.specs.Views.{rules_view}
use Rattle.bac_world.specs.Node as world
use Rattle.bac_world.specs.Node.{IsDropped, IsHeardBy, IsServerTurn, Node, NodeOn}
use Rattle.bac_world.specs.ReusingNodes.{NodeHearsSo, NodeReusing}
use Rattle.bac_node.specs.Views.{outcome_view}
use Rattle.bac_node.specs.declared.outcome.Outcome.{Outcome}

-- the server's end hears an APDU of a peer, and says whether that was turned away
pub record IsServedBy (rules : EndRules) (away : Bool) (peer : PeerView) (a : Apdu) (now : ℕ) (old new : Node) (o : world.Outcome) : Type 0 where
  pub turn : IsServerTurn (responder_by rules old.settings now (service_of old.store) peer a old.servers) now old new o
  pub told : away ≡ is_turned_away_by rules old.settings now (service_of old.store) peer a old.servers

-- an APDU of a peer is heard by the server's end where a client sends such, by the client's end otherwise
abbrev pub IsHeardSoBy : EndRules → (away : Bool) → (server : Bool) → PeerView → Apdu → (now : ℕ) → (old new : Node) → world.Outcome → Type 0
IsHeardSoBy rules away true peer a now old new o = IsServedBy rules away peer a now old new o
IsHeardSoBy rules away false peer a now old new o = IsHeardBy false peer a now old new o × (away ≡ false)

-- a datagram that means an APDU of a peer, and comes from another link, is heard
pub record IsHeardSo (rules : EndRules) (away : Bool) (now : ℕ) (from octets : Octets) (old new : Node) (o : world.Outcome) : Type 0 where
  pub peer : PeerView
  pub apdu : Apdu
  pub foreign : from ≢ old.link
  pub means : Means SpellsApdu from octets peer apdu
  pub heard : IsHeardSoBy rules away (is_from_client apdu) peer apdu now old new o

-- a datagram comes from a link, and the node says whether it turned a request away
abbrev pub NodeServes : EndRules → (away : Bool) → (now : ℕ) → (from octets : Octets) → (old new : Node) → world.Outcome → Type 0
NodeServes rules away now from octets old new o = (IsDropped now from octets old new o × (away ≡ false)) ⊎ IsHeardSo rules away now from octets old new o

-- the same whatever it says
pub record NodeHearsBy (rules : EndRules) (now : ℕ) (from octets : Octets) (old new : Node) (o : world.Outcome) : Type 0 where
  pub away : Bool
  pub serves : NodeServes rules away now from octets old new o

-- an APDU of a peer went to the end that it is for, or memory could not be allocated or had no room, and nothing has changed
abbrev pub DispatchesBy : EndRules → (now : ℕ) → PeerView → Apdu → (old : Node) → Result Outcome NoMemory → (new : Node) → Type 0
DispatchesBy rules now peer a old (Ok o) new = IsHeardSoBy rules o.turned_away (is_from_client a) peer a now old new (outcome_view o)
DispatchesBy rules now peer a old (Err e) new = new ≡ old

-- Rules are those of a node in a world, which lets clients use invoke IDs again or not: it remembers a request as long as its entry lives, and shares its slots
-- among addresses only where it does.

abbrev pub reads_of : (reuse : Bool) → ReadRule
reads_of true = ReadRule.Fresh is_read
reads_of false = ReadRule.Kept

abbrev pub RemembersLong : (remember : Option ℕ) → Type 0
RemembersLong None = Unit {0}
RemembersLong (Some limit) = KEEP ≤ limit

pub record AreSetTo (reuse : Bool) (rules : EndRules) : Type 0 where
  pub reads : rules.machine.reads ≡ reads_of reuse
  pub remembers : RemembersLong rules.machine.remember
  pub shares : reuse ≡ false → rules.share ≡ false

-- the rules that code is given for either setting, with any bound on memory
abbrev pub GivenAreSet : Type 0
GivenAreSet = (reuse : Bool) (memory : Option ℕ) → AreSetTo reuse (rules_view (record (rules_of reuse) { memory = memory }))

-- whether rules let clients use invoke IDs again
abbrev pub reads_anew : ReadRule → Bool
reads_anew ReadRule.Kept = false
reads_anew (ReadRule.Fresh reads) = true

abbrev pub is_reusing : EndRules → Bool
is_reusing rules = reads_anew rules.machine.reads

-- By such rules a node makes of a datagram what bac_world says of such a node, and nothing else.
abbrev pub HearsAsInWorlds : Type 0
HearsAsInWorlds = (reuse : Bool) (rules : EndRules) → AreSetTo reuse rules → (now : ℕ) (from octets : Octets) (old new : Node) (o : world.Outcome)
    → NodeHearsBy rules now from octets old new o ↔ NodeHearsSo reuse rules.share now from octets old new o

-- By the strict rules it makes of a datagram what each node does that is told none,
abbrev pub StrictIsOn : Type 0
StrictIsOn = (now : ℕ) (from octets : Octets) (old new : Node) (o : world.Outcome)
    → NodeHearsBy STRICT now from octets old new o ↔ NodeOn now from octets old new o

-- and by those of fresh reads, where a request is remembered as long as its entry lives, what each node does that lets invoke IDs be used again.
abbrev pub FreshIsReusing : Type 0
FreshIsReusing = (share : Bool) (now : ℕ) (from octets : Octets) (old new : Node) (o : world.Outcome)
    → NodeHearsBy (fresh_rules is_read None share) now from octets old new o ↔ NodeReusing share now from octets old new o
