-- Nodes, with one list of the copies of their datagrams and one log.
use Rattle.std.specs.Prelude.{◌≡◌, ◌≢◌, ◌⊎◌, ℕ, zero, suc, ◌+◌, ◌-◌, ◌*◌, ◌≤◌, Bool, true, false, ◌&&◌, List, [], ◌∷◌, ◌++◌, length, Option, Some, None}
use Rattle.std.specs.Prelude.{slice_get, if◌then◌else◌, nat_eq, nat_le, not, is_some, min}
use Rattle.std.specs.Option.{option_map}
use Rattle.bac_apdu.specs.Apdu.{Apdu, Limits}
use Rattle.bac_apdu.specs.Spelling.{SpellsApdu}
use Rattle.bac_npdu.specs.Peers.{PeerView}
use Rattle.bac_npdu.specs.Datagram.{Means}
use Rattle.bac_service.specs.Values.{Request}
use Rattle.bac_store.specs.AtNode as at_node
use Rattle.bac_store.specs.AtNode.{change_fault}
use Rattle.bac_store.specs.Stores.{Store}
use Rattle.bac_protocol.specs.declared.times.TheConstants.{DEADLINE, KEEP}
use Rattle.bac_protocol.specs.Pace.{Pace, Clock, clock_at, goes_on, most}
use Rattle.bac_protocol.specs.Service.{Octets}
use Rattle.bac_protocol.specs.Wire.{is_from_client}
use Rattle.bac_protocol.specs.Own.{invoke_id_of}
use Rattle.bac_protocol.specs.Transaction.{Key}
use Rattle.bac_protocol.specs.World.{same_key}
use Rattle.bac_protocol.specs.Server.{ServerTransaction}
use Rattle.bac_slots.specs.Slots.{value_at}
use Rattle.bac_transaction.specs.Keys.{same_key as same_peer_key}
use Rattle.bac_transaction.specs.Sends.{Datagram, Pairwise}
use Rattle.bac_transaction.specs.Meanings.{EndedView, Ending}
use Rattle.bac_transaction.specs.Ends.{Accepted}
use Rattle.bac_world.specs.Services as service
use Rattle.bac_world.specs.Node.{Node, Outcome, Refusal, NodeOn, NodeTick, NodeAsks, NodeRefuses, with_change, restarted, begun_again, store_after_restart}
use Rattle.bac_world.specs.Laws.{IsMeaningless}
use Rattle.bac_world.specs.Once.{Fact, Stores}
use Rattle.bac_world.specs.Once.Fact.{Asked, Performed, Ended, Changed, Restarted, Served, AskedAway, EndedAway}

-- a datagram that was sent: at that moment, from that node to that one, in that transaction
pub record Copy : Type 0 where
  pub moment : ℕ
  pub from : ℕ
  pub to : ℕ
  pub key : Key
  pub octets : Octets

-- what is noted of an accepted ask: its transaction, and its client's ticket; its number is how many were noted before
pub record Note : Type 0 where
  pub key : Key
  pub ticket : ℕ
  pub away : Option PeerView  -- the stranger that was asked, if it was one; the key then has no server

-- real time, in parts of a millisecond, the clock of each node, and the pace that all keep
pub record Time : Type 0 where
  pub pace : Pace
  pub now : ℕ
  pub clocks : ℕ → Clock

-- so much passes, and each clock goes on as far as that, within its pace
abbrev pub passes : Time → (by : ℕ) → (own : ℕ → ℕ) → Time
passes t by own = record t { now = t.now + by; clocks = λ i. goes_on t.pace by (own i) (t.clocks i) }

-- a node begins with a new clock
abbrev pub with_clock : Time → ℕ → (exact : ℕ) → Time
with_clock t i exact = record t { clocks = λ j. if nat_eq j i then clock_at t.pace exact else t.clocks j }

-- what a node did so far: whether anything happened at it, and from which real moment on its client sends nothing for the asks that it made of nodes; 0 where
-- it made none
pub record Life : Type 0 where
  pub active : Bool
  pub sends_until : ℕ

-- a node at which nothing happened
abbrev pub untouched : Life
untouched = record { active = false; sends_until = 0 }

-- that node's life is another one now
abbrev pub with_life : (ℕ → Life) → ℕ → Life → ℕ → Life
with_life lives i life j = if nat_eq j i then life else lives j

-- something happens at a node
abbrev pub with_act : (ℕ → Life) → ℕ → ℕ → Life
with_act lives i = with_life lives i (record { active = true; sends_until = (lives i).sends_until })

-- a node asks another one, for which it sends no longer than its deadline lasts
abbrev pub with_ask : Time → (ℕ → Life) → ℕ → ℕ → Life
with_ask t lives i = with_life lives i (record { active = true; sends_until = t.now + most t.pace DEADLINE + 1 })

-- a node restarts: what it asked before is over
abbrev pub with_restart : Time → (ℕ → Life) → ℕ → ℕ → Life
with_restart t lives i = with_life lives i (record { active = true; sends_until = min (lives i).sends_until (t.now + 1) })

pub record World : Type 0 where
  pub nodes : List Node  -- numbered from 0
  pub time : Time
  pub lives : ℕ → Life
  pub copies : List Copy  -- oldest first, numbered from 0
  pub log : List Fact  -- newest first
  pub notes : List Note  -- newest first

-- Nodes.

-- what a node is told
abbrev pub told : World → ℕ → ℕ
told w i = (w.time.clocks i).shows

abbrev pub link_at : List Node → ℕ → Option Octets
link_at nodes i = option_map (λ (n : Node). n.link) (slice_get nodes i)

abbrev pub stores_of : List Node → Stores
stores_of nodes i = option_map (λ (n : Node). n.store) (slice_get nodes i)

-- the peer that is a node at that link
abbrev pub peer_at : Octets → PeerView
peer_at link = record { link = link; route = None }

-- that node is another one now, and all others are as they were
pub record IsWithNode (old : List Node) (i : ℕ) (node : Node) (new : List Node) : Type 0 where
  pub here : slice_get new i ≡ Some node
  pub others : (j : ℕ) → j ≢ i → slice_get new j ≡ slice_get old j

-- Notes.

-- the newest ask of a transaction
abbrev pub newest : Key → List Note → Option ℕ
newest key [] = None
newest key (n ∷ notes) = if not (is_some n.away) && same_key n.key key then Some (length notes) else newest key notes

-- the newest ask with that ticket of a node: a node that restarts numbers its tickets anew
abbrev pub ask_of : (client ticket : ℕ) → List Note → Option ℕ
ask_of client ticket [] = None
ask_of client ticket (n ∷ notes) = if nat_eq n.key.client client && nat_eq n.ticket ticket then Some (length notes) else ask_of client ticket notes

-- whether the ask of that number was of a stranger
abbrev pub is_away : (number : ℕ) → List Note → Bool
is_away number [] = false
is_away number (n ∷ notes) = if nat_eq number (length notes) then is_some n.away else is_away number notes

-- Copies.

-- the client of a transaction sends its requests, and SegmentACKs and Aborts with SRV 0; all others come from its server (clause 20.1)
abbrev pub transaction_of : (from to : ℕ) → Apdu → Key
transaction_of from to a =
    if is_from_client a
    then record { client = from; server = to; invoke_id = invoke_id_of a }
    else record { client = to; server = from; invoke_id = invoke_id_of a }

-- the copy means an APDU of its transaction
pub record IsOfTransaction (nodes : List Node) (c : Copy) : Type 0 where
  pub link : Octets
  pub sender : link_at nodes c.from ≡ Some link
  pub peer : PeerView
  pub apdu : Apdu
  pub means : Means SpellsApdu link c.octets peer apdu
  pub key : c.key ≡ transaction_of c.from c.to apdu

-- a datagram that a node sends becomes that copy
pub record IsCopied (nodes : List Node) (now sender : ℕ) (d : Datagram) (c : Copy) : Type 0 where
  pub moment : c.moment ≡ now
  pub from : c.from ≡ sender
  pub to : link_at nodes c.to ≡ Some d.to
  pub octets : c.octets ≡ d.octets
  pub transaction : IsOfTransaction nodes c

-- no node has that link
abbrev pub IsOfNone : List Node → Octets → Type 0
IsOfNone nodes link = (j : ℕ) → link_at nodes j ≡ Some link → ⊥

-- the datagram becomes the first of these copies, and the others go with the rest
pub record IsFirst (P : Copy → Type 0) (Rest : List Copy → Type 0) (cs : List Copy) : Type 0 where
  pub copy : Copy
  pub rest : List Copy
  pub is : cs ≡ copy ∷ rest
  pub copied : P copy
  pub others : Rest rest

-- datagrams for nodes become these copies; what goes to strangers is not followed
abbrev pub AreCopied : List Node → (now sender : ℕ) → List Datagram → List Copy → Type 0
AreCopied nodes now sender [] cs = cs ≡ []
AreCopied nodes now sender (d ∷ ds) cs =
    IsFirst (IsCopied nodes now sender d) (AreCopied nodes now sender ds) cs ⊎ (IsOfNone nodes d.to × AreCopied nodes now sender ds cs)

-- how many of these are the transaction's
abbrev pub count_of : Key → List Copy → ℕ
count_of key [] = 0
count_of key (c ∷ copies) = if same_key c.key key then suc (count_of key copies) else count_of key copies

-- how many members of the list after that one are the transaction's
abbrev pub later : Key → ℕ → List Copy → ℕ
later key number [] = 0
later key zero (c ∷ copies) = count_of key copies
later key (suc number) (c ∷ copies) = later key number copies

-- a copy is deliverable while it is young and not overtaken by too many of its transaction (own rule of this profile)
abbrev pub is_deliverable : (overtake life now number : ℕ) → List Copy → Copy → Bool
is_deliverable overtake life now number copies c = nat_le (now - c.moment) life && nat_le (later c.key number copies) overtake

-- What a node's call does to the world.

-- the ending of the ask of that number
abbrev pub ending_fact : (away : Bool) → (number : ℕ) → Ending → Fact
ending_fact true number how = EndedAway number how
ending_fact false number how = Ended number how

-- each ending enters the log, with the number noted for its ticket
abbrev pub AreEnded : List Note → (node : ℕ) → List EndedView → (old new : List Fact) → Type 0
AreEnded notes node [] old new = new ≡ old
AreEnded notes node (f ∷ fs) old new = (n : ℕ) × (ask_of node f.ticket notes ≡ Some n) × AreEnded notes node fs (ending_fact (is_away n notes) n f.how ∷ old) new

-- what was performed enters it, with the number of the newest ask of its client, this node and its invoke ID
pub record IsLogged (nodes : List Node) (notes : List Note) (node : ℕ) (p : service.Performed) (old new : List Fact) : Type 0 where
  pub client : ℕ
  pub number : ℕ
  pub link : link_at nodes client ≡ Some p.key.peer.link
  pub noted : newest (record { client = client; server = node; invoke_id = p.key.invoke_id }) notes ≡ Some number
  pub log : new ≡ Performed number p.request p.reply ∷ old

-- what was performed for a stranger enters it as such
pub record IsServedTo (nodes : List Node) (node : ℕ) (after : Node) (p : service.Performed) (old new : List Fact) : Type 0 where
  pub stranger : IsOfNone nodes p.key.peer.link
  pub entry : ServerTransaction
  pub kept : value_at same_peer_key p.key after.servers.slots ≡ Some entry
  pub log : new ≡ Served p.key.peer node p.key.invoke_id entry.begin p.request p.reply ∷ old

abbrev pub AreLogged : List Node → List Note → (node : ℕ) → (after : Node) → Option service.Performed → (old new : List Fact) → Type 0
AreLogged nodes notes node after None old new = new ≡ old
AreLogged nodes notes node after (Some p) old new = IsLogged nodes notes node p old new ⊎ IsServedTo nodes node after p old new

-- the node is another one, what it sends becomes copies, its endings and what it performed enter the log, and nothing else changes
pub record Acts (old : World) (i : ℕ) (node : Node) (o : Outcome) (new : World) : Type 0 where
  pub nodes : IsWithNode old.nodes i node new.nodes
  pub time : new.time ≡ old.time
  pub lives : new.lives ≡ with_act old.lives i
  pub notes : new.notes ≡ old.notes
  pub sent : List Copy
  pub copies : new.copies ≡ old.copies ++ sent
  pub copied : AreCopied old.nodes old.time.now i o.sends sent
  pub between : List Fact
  pub ended : AreEnded old.notes i o.ended old.log between
  pub logged : AreLogged old.nodes old.notes i node o.performed between new.log

-- a node hears a datagram
pub record Hears (old : World) (i : ℕ) (from octets : Octets) (new : World) : Type 0 where
  pub before : Node
  pub at : slice_get old.nodes i ≡ Some before
  pub after : Node
  pub outcome : Outcome
  pub on : NodeOn (told old i) from octets before after outcome
  pub acts : Acts old i after outcome new

-- Events.

pub data Event : Type 0 where
  Ask : (client server : ℕ) (limits : Limits) (request : Request) → Event
  Deliver : (number : ℕ) → Event
  Noise : (node : ℕ) (from octets : Octets) → Event
  Stray : (node : ℕ) (from octets : Octets) → Event
  AskAway : (client : ℕ) (peer : PeerView) (limits : Limits) (request : Request) → Event
  Tick : (node : ℕ) → Event
  Advance : (by : ℕ) (own : ℕ → ℕ) → Event
  Change : (node : ℕ) (change : at_node.Change) → Event
  Restart : (node exact : ℕ) (store : Option Store) → Event
  Begin : (node exact : ℕ) → Event
  BeginAgain : (node exact first_id : ℕ) (store : Option Store) → Event

-- an accepted ask: it is noted, and enters the log with the next number
pub record IsAsked (old : World) (client server : ℕ) (limits : Limits) (r : Request) (new : World) : Type 0 where
  pub before : Node
  pub at : slice_get old.nodes client ≡ Some before
  pub link : Octets
  pub peer : link_at old.nodes server ≡ Some link
  pub after : Node
  pub accepted : Accepted
  pub sends : List Datagram
  pub asks : NodeAsks (told old client) (peer_at link) limits r before after accepted sends
  pub nodes : IsWithNode old.nodes client after new.nodes
  pub time : new.time ≡ old.time
  pub lives : new.lives ≡ with_ask old.time old.lives client
  pub sent : List Copy
  pub copies : new.copies ≡ old.copies ++ sent
  pub copied : Pairwise (IsCopied old.nodes old.time.now client) sends sent
  pub notes : new.notes
      ≡ record { key = record { client = client; server = server; invoke_id = accepted.invoke_id }; ticket = accepted.ticket; away = None } ∷ old.notes
  pub log : new.log ≡ Asked (length old.notes) client server r ∷ old.log

-- a refused one changes nothing
pub record IsRefused (old : World) (client server : ℕ) (limits : Limits) (r : Request) (new : World) : Type 0 where
  pub node : Node
  pub at : slice_get old.nodes client ≡ Some node
  pub link : Octets
  pub peer : link_at old.nodes server ≡ Some link
  pub refusal : Refusal
  pub why : NodeRefuses (told old client) (peer_at link) limits r node refusal
  pub same : new ≡ old

-- an accepted ask of a stranger: what is sent to it is not followed
pub record IsAskedAway (old : World) (client : ℕ) (peer : PeerView) (limits : Limits) (r : Request) (new : World) : Type 0 where
  pub before : Node
  pub at : slice_get old.nodes client ≡ Some before
  pub stranger : IsOfNone old.nodes peer.link
  pub after : Node
  pub accepted : Accepted
  pub sends : List Datagram
  pub asks : NodeAsks (told old client) peer limits r before after accepted sends
  pub nodes : IsWithNode old.nodes client after new.nodes
  pub time : new.time ≡ old.time
  pub lives : new.lives ≡ with_act old.lives client
  pub copies : new.copies ≡ old.copies
  pub notes : new.notes
      ≡ record { key = record { client = client; server = 0; invoke_id = accepted.invoke_id }; ticket = accepted.ticket; away = Some peer } ∷ old.notes
  pub log : new.log ≡ AskedAway (length old.notes) client peer r ∷ old.log

-- a refused one, or one of a peer at a node's link, changes nothing
pub record IsRefusedAway (old : World) (client : ℕ) (peer : PeerView) (limits : Limits) (r : Request) (new : World) : Type 0 where
  pub node : Node
  pub at : slice_get old.nodes client ≡ Some node
  pub why : ((refusal : Refusal) × NodeRefuses (told old client) peer limits r node refusal) ⊎ (IsOfNone old.nodes peer.link → ⊥)
  pub same : new ≡ old

-- a copy is delivered to its node, where it is deliverable; otherwise it is lost
pub record Delivers (old : World) (c : Copy) (new : World) : Type 0 where
  pub link : Octets
  pub sender : link_at old.nodes c.from ≡ Some link
  pub hears : Hears old c.to link c.octets new

abbrev pub DeliversIf : Bool → World → Copy → World → Type 0
DeliversIf true old c new = Delivers old c new
DeliversIf false old c new = new ≡ old

pub record IsDelivered (overtake : ℕ) (old : World) (number : ℕ) (new : World) : Type 0 where
  pub copy : Copy
  pub there : slice_get old.copies number ≡ Some copy
  pub goes : DeliversIf (is_deliverable overtake old.time.pace.life old.time.now number old.copies copy) old copy new

-- octets from outside: those of a stranger, from a link of no node, whatever they are; and noise, which means no APDU of a peer, from any link
abbrev pub IsOutside : List Node → (from octets : Octets) → Type 0
IsOutside nodes from octets = IsOfNone nodes from ⊎ IsMeaningless from octets

-- noise is heard
pub record HearsNoise (old : World) (i : ℕ) (from octets : Octets) (new : World) : Type 0 where
  pub meaningless : IsMeaningless from octets
  pub hears : Hears old i from octets new

-- octets of a stranger, from a link of no node, are heard, whatever they are
pub record HearsStranger (old : World) (i : ℕ) (from octets : Octets) (new : World) : Type 0 where
  pub stranger : IsOfNone old.nodes from
  pub hears : Hears old i from octets new

-- other octets are lost
pub record LosesOctets (IsFit : Type 0) (old : World) (i : ℕ) (new : World) : Type 0 where
  pub node : Node
  pub at : slice_get old.nodes i ≡ Some node
  pub unfit : IsFit → ⊥
  pub same : new ≡ old

pub record Ticks (old : World) (i : ℕ) (new : World) : Type 0 where
  pub before : Node
  pub at : slice_get old.nodes i ≡ Some before
  pub after : Node
  pub outcome : Outcome
  pub tick : NodeTick (told old i) before after outcome
  pub acts : Acts old i after outcome new

-- a change at a node itself, where it has no fault: its store is the changed one, and the change enters the log; nothing is sent, and nothing else changes
pub record IsChanged (old : World) (i : ℕ) (c : at_node.Change) (new : World) : Type 0 where
  pub before : Node
  pub at : slice_get old.nodes i ≡ Some before
  pub may : change_fault before.store c ≡ None
  pub nodes : IsWithNode old.nodes i (with_change c before) new.nodes
  pub time : new.time ≡ old.time
  pub lives : new.lives ≡ old.lives
  pub copies : new.copies ≡ old.copies
  pub notes : new.notes ≡ old.notes
  pub log : new.log ≡ Changed i c ∷ old.log

-- a node restarts, with the store that it has or another one: both its tables are lost, both its ends wait, and the restart enters the log; nothing is sent,
-- and nothing else changes
pub record IsRestarted (old : World) (i exact : ℕ) (store : Option Store) (new : World) : Type 0 where
  pub before : Node
  pub at : slice_get old.nodes i ≡ Some before
  pub nodes : IsWithNode old.nodes i (restarted (clock_at old.time.pace exact).shows (store_after_restart before.store store) before) new.nodes
  pub time : new.time ≡ with_clock old.time i exact
  pub lives : new.lives ≡ with_restart old.time old.lives i
  pub copies : new.copies ≡ old.copies
  pub notes : new.notes ≡ old.notes
  pub log : new.log ≡ Restarted i store ∷ old.log

-- Late starts (own rule of this profile): a node may begin at any moment, and one client after another may begin at one node.

-- a node at which nothing happened begins, with a new clock; nothing else changes
pub record IsBegun (old : World) (i exact : ℕ) (new : World) : Type 0 where
  pub node : Node
  pub at : slice_get old.nodes i ≡ Some node
  pub first : (old.lives i).active ≡ false
  pub is : new ≡ record old { time = with_clock old.time i exact }

-- all is over that a node's client sent: no copy of it can arrive, nor any for which a server's entry lives that it began
abbrev pub is_quiet : World → (node : ℕ) → Bool
is_quiet w i = nat_le ((w.lives i).sends_until + w.time.pace.life + most w.time.pace KEEP + w.time.pace.life) w.time.now

-- then another program begins at its link: its client may ask at once, its server waits as after a restart, and the restart enters the log
pub record IsBegunAgain (old : World) (i exact first_id : ℕ) (store : Option Store) (new : World) : Type 0 where
  pub before : Node
  pub at : slice_get old.nodes i ≡ Some before
  pub quiet : is_quiet old i ≡ true
  pub nodes : IsWithNode old.nodes i (begun_again (clock_at old.time.pace exact).shows first_id (store_after_restart before.store store) before) new.nodes
  pub time : new.time ≡ with_clock old.time i exact
  pub lives : new.lives ≡ with_act old.lives i
  pub copies : new.copies ≡ old.copies
  pub notes : new.notes ≡ old.notes
  pub log : new.log ≡ Restarted i store ∷ old.log

abbrev pub WorldStep : (overtake : ℕ) → World → Event → World → Type 0
WorldStep overtake old (Ask client server limits r) new = IsAsked old client server limits r new ⊎ IsRefused old client server limits r new
WorldStep overtake old (AskAway client peer limits r) new = IsAskedAway old client peer limits r new ⊎ IsRefusedAway old client peer limits r new
WorldStep overtake old (Deliver number) new = IsDelivered overtake old number new
WorldStep overtake old (Noise node from octets) new = HearsNoise old node from octets new ⊎ LosesOctets (IsMeaningless from octets) old node new
WorldStep overtake old (Stray node from octets) new = HearsStranger old node from octets new ⊎ LosesOctets (IsOfNone old.nodes from) old node new
WorldStep overtake old (Tick node) new = Ticks old node new
WorldStep overtake old (Advance by own) new = new ≡ record old { time = passes old.time by own }
WorldStep overtake old (Change node change) new = IsChanged old node change new
WorldStep overtake old (Restart node exact store) new = IsRestarted old node exact store new
WorldStep overtake old (Begin node exact) new = IsBegun old node exact new
WorldStep overtake old (BeginAgain node exact first_id store) new = IsBegunAgain old node exact first_id store new

abbrev pub WorldRun : (overtake : ℕ) → World → List Event → World → Type 0
WorldRun overtake old [] new = new ≡ old
WorldRun overtake old (e ∷ es) new = (u : World) × WorldStep overtake old e u × WorldRun overtake u es new

-- in these events that node does not restart, nor does another program begin there
abbrev pub RunsOn : (node : ℕ) → List Event → Type 0
RunsOn node [] = Unit {0}
RunsOn node (Restart i exact store ∷ es) = (i ≢ node) × RunsOn node es
RunsOn node (BeginAgain i exact first_id store ∷ es) = (i ≢ node) × RunsOn node es
RunsOn node (e ∷ es) = RunsOn node es

-- in these events no node restarts, and no program begins where another one was
abbrev pub MakeNoRestart : List Event → Type 0
MakeNoRestart [] = Unit {0}
MakeNoRestart (Restart i exact store ∷ es) = ⊥
MakeNoRestart (BeginAgain i exact first_id store ∷ es) = ⊥
MakeNoRestart (e ∷ es) = MakeNoRestart es

-- these events are asks, deliveries, noise, ticks, steps of the clock and nodes that begin: no node changes its own store, and none restarts; strangers may do
-- what they like
abbrev pub MakeRequestsAlone : List Event → Type 0
MakeRequestsAlone [] = Unit {0}
MakeRequestsAlone (Change i change ∷ es) = ⊥
MakeRequestsAlone (Restart i exact store ∷ es) = ⊥
MakeRequestsAlone (BeginAgain i exact first_id store ∷ es) = ⊥
MakeRequestsAlone (e ∷ es) = MakeRequestsAlone es

-- in these events there are no strangers: none is asked, and none sends anything
abbrev pub MakeNoStray : List Event → Type 0
MakeNoStray [] = Unit {0}
MakeNoStray (AskAway client peer limits r ∷ es) = ⊥
MakeNoStray (Stray node from octets ∷ es) = ⊥
MakeNoStray (e ∷ es) = MakeNoStray es

-- no node waits, nor ever did
abbrev pub NeverRestarted : List Node → Type 0
NeverRestarted nodes = (i : ℕ) (n : Node) → slice_get nodes i ≡ Some n → (n.clients.asks_from ≡ 0) × (n.servers.serves_from ≡ 0)

-- Worlds at their beginning.

pub record IsFreshNode (n : Node) : Type 0 where
  pub latest : n.latest ≡ 0
  pub slots : n.clients.slots ≡ []
  pub asked : n.clients.asked ≡ 0
  pub asks_from : n.clients.asks_from ≡ 0
  pub entries : n.servers.slots ≡ []
  pub serves_from : n.servers.serves_from ≡ 0

-- no two nodes have one link, and nothing has happened
pub record IsFresh (w : World) : Type 0 where
  pub nodes : (i : ℕ) (n : Node) → slice_get w.nodes i ≡ Some n → IsFreshNode n
  pub apart : (i j : ℕ) (l : Octets) → link_at w.nodes i ≡ Some l → link_at w.nodes j ≡ Some l → i ≡ j
  pub lives : (i : ℕ) → w.lives i ≡ untouched
  pub now : w.time.now ≡ 0
  pub clocks : (i : ℕ) → w.time.clocks i ≡ clock_at w.time.pace (w.time.clocks i).exact
  pub copies : w.copies ≡ []
  pub log : w.log ≡ []
  pub notes : w.notes ≡ []

-- all windows are at most W, and few enough later copies may overtake one
pub record IsBounded (W overtake : ℕ) (w : World) : Type 0 where
  pub some : 1 ≤ W
  pub windows : (i : ℕ) (n : Node) → slice_get w.nodes i ≡ Some n → n.settings.window ≤ W
  pub room : overtake + 2 * W ≤ 255
