-- What comes of a node's call can enter the world: each datagram goes to a node, in a transaction that was asked, or to a stranger; each ending is an
-- ask's; what was performed is an ask's, or a stranger's.
use Rattle.std.specs.Prelude.{◌≡◌, ◌⊎◌, ℕ, suc, ◌+◌, ◌≤◌, Bool, true, false, List, [], ◌∷◌, length, if◌then◌else◌, nat_eq, nat_lt, Option, Some, None, slice_get}
use Rattle.bac_apdu.specs.Apdu.{Limits}
use Rattle.bac_service.specs.Values.{Request}
use Rattle.bac_protocol.specs.Pace.{IsTimely}
use Rattle.bac_protocol.specs.Service.{Octets}
use Rattle.bac_protocol.specs.Transaction.{Key}
use Rattle.bac_protocol.specs.Server.{ServerTransaction}
use Rattle.bac_slots.specs.Slots.{value_at}
use Rattle.bac_transaction.specs.Keys.{same_key}
use Rattle.bac_transaction.specs.Sends.{Datagram}
use Rattle.bac_transaction.specs.Meanings.{EndedView}
use Rattle.bac_transaction.specs.Ends.{Accepted}
use Rattle.bac_world.specs.Services.{Performed}
use Rattle.bac_world.specs.Node.{Node, Outcome, NodeTick, NodeAsks}
use Rattle.bac_world.specs.ReusingLogs.{Reuses}
use Rattle.bac_world.specs.ReusingNodes.{NodeHears}
use Rattle.bac_world.specs.ReusingWorlds.{WorldRunSo}
use Rattle.bac_world.specs.World.{World, Copy, Note, Event, link_at, peer_at, told, newest, ask_of, is_deliverable, IsCopied, IsOfNone, IsOutside, WorldRun}
use Rattle.bac_world.specs.World.{IsFresh, IsBounded}

-- each member of a list has that
abbrev pub Every : {A : Type 0} → (A → Type 0) → List A → Type 0
Every P [] = Unit {0}
Every P (x ∷ xs) = P x × Every P xs

-- that transaction was asked
abbrev pub WasAsked : List Note → Key → Type 0
WasAsked notes key = (number : ℕ) × (newest key notes ≡ Some number)

-- a datagram that a node sends can become a copy, and only one of a transaction that was asked
pub record CanBeCopied (nodes : List Node) (notes : List Note) (now sender : ℕ) (d : Datagram) : Type 0 where
  pub copy : Copy
  pub is : IsCopied nodes now sender d copy
  pub asked : (c : Copy) → IsCopied nodes now sender d c → WasAsked notes c.key

-- it can, or goes to a stranger, and becomes none
abbrev pub CanLeave : List Node → List Note → (now sender : ℕ) → Datagram → Type 0
CanLeave nodes notes now sender d = CanBeCopied nodes notes now sender d ⊎ IsOfNone nodes d.to

-- a ticket's ending has the number of an ask
abbrev pub IsNoted : World → (node : ℕ) → EndedView → Type 0
IsNoted w node f = (number : ℕ) × (ask_of node f.ticket w.notes ≡ Some number)

-- what was performed has a client, and the number of its newest ask
pub record IsOfClient (w : World) (node : ℕ) (p : Performed) : Type 0 where
  pub client : ℕ
  pub number : ℕ
  pub link : link_at w.nodes client ≡ Some p.key.peer.link
  pub noted : newest (record { client = client; server = node; invoke_id = p.key.invoke_id }) w.notes ≡ Some number

-- or was asked by a stranger, and the node keeps its entry
pub record IsOfStranger (w : World) (after : Node) (p : Performed) : Type 0 where
  pub stranger : IsOfNone w.nodes p.key.peer.link
  pub entry : ServerTransaction
  pub kept : value_at same_key p.key after.servers.slots ≡ Some entry

abbrev pub AreOfPeer : World → (node : ℕ) → (after : Node) → Option Performed → Type 0
AreOfPeer w node after None = Unit {0}
AreOfPeer w node after (Some p) = IsOfClient w node p ⊎ IsOfStranger w after p

-- the same of a node of either setting: one that lets invoke IDs be used again may keep no entry
abbrev pub AreOfPeerSo : (reuse : Bool) → World → (node : ℕ) → (after : Node) → Option Performed → Type 0
AreOfPeerSo false w node after p = AreOfPeer w node after p
AreOfPeerSo true w node after None = Unit {0}
AreOfPeerSo true w node after (Some p) = IsOfClient w node p ⊎ IsOfNone w.nodes p.key.peer.link

-- what comes of a call of a node of that setting, after which it is that one
pub record CanEnterSo (reuse : Bool) (w : World) (node : ℕ) (after : Node) (o : Outcome) : Type 0 where
  pub sends : Every (CanLeave w.nodes w.notes w.time.now node) o.sends
  pub ended : Every (IsNoted w node) o.ended
  pub performed : AreOfPeerSo reuse w node after o.performed

-- where it lets none be used again
abbrev pub CanEnter : World → (node : ℕ) → (after : Node) → Outcome → Type 0
CanEnter w node after o = CanEnterSo false w node after o

-- the note of an ask
abbrev pub note_of : (client server invoke_id ticket : ℕ) → Note
note_of client server invoke_id ticket = record { key = record { client = client; server = server; invoke_id = invoke_id }; ticket = ticket; away = None }

-- how many tickets there are with that one
abbrev pub with_ticket : (ticket tickets : ℕ) → ℕ
with_ticket ticket tickets = if nat_lt ticket tickets then tickets else suc ticket

-- how many tickets that client had in the life in which it had the most: a client that restarts numbers its tickets anew
abbrev pub tickets_of : ℕ → List Note → ℕ
tickets_of client [] = 0
tickets_of client (n ∷ notes) = if nat_eq n.key.client client then with_ticket n.ticket (tickets_of client notes) else tickets_of client notes

-- what is known of each world that a run leads to, where all windows are at most W, and these nodes let invoke IDs be used again
pub record CanGoOnSo (u : Reuses) (W overtake : ℕ) (w : World) : Type 0 where
  -- no node was told a later moment
  pub punctual : (i : ℕ) (a : Node) → slice_get w.nodes i ≡ Some a → a.latest ≤ told w i
  -- a node's next ticket is one of those that it had, or the one after them
  pub counted : (i : ℕ) (a : Node) → slice_get w.nodes i ≡ Some a → a.clients.asked ≤ tickets_of i w.notes
  -- a copy goes from a node to a node
  pub from : (number : ℕ) (c : Copy) → slice_get w.copies number ≡ Some c → (a : Node) × (slice_get w.nodes c.from ≡ Some a)
  pub to : (number : ℕ) (c : Copy) → slice_get w.copies number ≡ Some c → (a : Node) × (slice_get w.nodes c.to ≡ Some a)
  -- a node hears a copy
  pub hears : (number : ℕ) (c : Copy) → slice_get w.copies number ≡ Some c → is_deliverable overtake w.time.pace.life w.time.now number w.copies c ≡ true
      → (link : Octets) → link_at w.nodes c.from ≡ Some link → (a b : Node) (o : Outcome) → slice_get w.nodes c.to ≡ Some a
      → NodeHears (u c.to) (told w c.to) link c.octets a b o → CanEnterSo (u c.to) w c.to b o × (length o.sends ≤ W + 1) × (length o.ended ≤ 1)
  -- and octets from outside
  pub outside : (i : ℕ) (from octets : Octets) → IsOutside w.nodes from octets → (a b : Node) (o : Outcome) → slice_get w.nodes i ≡ Some a
      → NodeHears (u i) (told w i) from octets a b o → CanEnterSo (u i) w i b o × (length o.sends ≤ W + 1) × (length o.ended ≤ 1)
  -- it ticks
  pub ticks : (i : ℕ) (a b : Node) (o : Outcome) → slice_get w.nodes i ≡ Some a → NodeTick (told w i) a b o → CanEnter w i b o
  -- and asks, which is noted before it sends
  pub asks : (client server : ℕ) (a b : Node) (link : Octets) (limits : Limits) (r : Request) (accepted : Accepted) (sends : List Datagram)
      → slice_get w.nodes client ≡ Some a → link_at w.nodes server ≡ Some link → NodeAsks (told w client) (peer_at link) limits r a b accepted sends
      → Every (CanBeCopied w.nodes (note_of client server accepted.invoke_id accepted.ticket ∷ w.notes) w.time.now client) sends × (length sends ≤ W + 1)

-- where no node does
abbrev pub CanGoOn : (W overtake : ℕ) → World → Type 0
CanGoOn W overtake w = CanGoOnSo (λ node. false) W overtake w

abbrev pub RunsCanGoOnSo : Type 0
RunsCanGoOnSo = (u : Reuses) (W overtake : ℕ) (w w' : World) → IsFresh w → IsTimely w.time.pace → IsBounded W overtake w → (events : List Event)
    → WorldRunSo overtake u w events w' → CanGoOnSo u W overtake w'

abbrev pub RunsCanGoOn : Type 0
RunsCanGoOn = (W overtake : ℕ) (w w' : World) → IsFresh w → IsTimely w.time.pace → IsBounded W overtake w → (events : List Event)
    → WorldRun overtake w events w' → CanGoOn W overtake w'
