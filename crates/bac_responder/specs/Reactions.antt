-- What the calls on an entry answer, and what they leave.
use Rattle.std.specs.Prelude.{◌≡◌, ℕ, Bool, true, List, [], Option, Some, None, is_some, Result, Ok, Err}
use Rattle.bac_npdu.specs.Peers.{PeerView}
use Rattle.bac_value.specs.declared.memory.NoMemory.{NoMemory}
use Rattle.bac_store.specs.Stores.{Store}
use Rattle.bac_protocol.specs.Server as server
use Rattle.bac_protocol.specs.Server.{ServerTransaction, State}
use Rattle.bac_protocol.specs.Service.{Octets}
use Rattle.bac_transaction.specs.Sends.{Datagram, Pairwise, IsSent, to_all}
use Rattle.bac_transaction.specs.Services as services
use Rattle.bac_transaction.specs.Services.{ArePerformed, store_after}
use Rattle.bac_responder.specs.TransactionViews.{performed_view}
use Rattle.bac_responder.specs.declared.performed.Performed.{Performed}

-- the segments of a request that an entry keeps
abbrev pub parts_taken : State → List Octets
parts_taken (State.SegmentedRequest incoming since) = incoming.parts
parts_taken (State.Done kept) = []
parts_taken (State.SegmentedResponse out transfer since) = []
parts_taken State.Dropped = []

-- the machine's reaction, in code: its entry, one datagram for each of its sends, its effect, and the store after that
pub record IsReaction (r : server.Reaction) (peer : PeerView) (s : Store) (entry : ServerTransaction) (sent : List Datagram) (p : Option services.Performed) (t : Store)
    : Type 0 where
  pub entry_is : r.entry ≡ Some entry
  pub sends : Pairwise IsSent (to_all peer r.sends) sent
  pub effect : ArePerformed s r.effect p
  pub store : t ≡ store_after s p

-- what a call on an entry hands out; after an Err it and the store are as they were
abbrev pub Answers : server.Reaction → PeerView → (old new : ServerTransaction) → Store → Result Performed NoMemory → Store → Type 0
Answers r peer old new s (Ok x) t = IsReaction r peer s new x.sends.items (performed_view x.effect) t
Answers r peer old new s (Err e) t = (new ≡ old) × (t ≡ s)

-- nothing is remembered: a dead entry, if any, stays where it is
pub record IsStill (r : server.Reaction) (dead : Option ServerTransaction) (peer : PeerView) (s : Store) (sent : List Datagram) (t : Store) : Type 0 where
  pub entry : r.entry ≡ dead
  pub sends : Pairwise IsSent (to_all peer r.sends) sent
  pub effect : r.effect ≡ None
  pub store : t ≡ s

-- where no entry is live: an entry begins, or none does; neither rests on the dead entry, if any
abbrev pub BeginsWith : (Option ServerTransaction → server.Reaction) → PeerView → Store → Performed → Option ServerTransaction → Store → Type 0
BeginsWith r peer s x None t = ((dead : Option ServerTransaction) → IsStill (r dead) dead peer s x.sends.items t) × (x.effect ≡ None)
BeginsWith r peer s x (Some e) t = (dead : Option ServerTransaction) → IsReaction (r dead) peer s e x.sends.items (performed_view x.effect) t

abbrev pub IdleReacts : (Option ServerTransaction → server.Reaction) → PeerView → Store → Result (Performed × Option ServerTransaction) NoMemory → Store
    → Type 0
IdleReacts r peer s (Ok x) t = BeginsWith r peer s x.0 x.1 t
IdleReacts r peer s (Err e) t = t ≡ s

-- an entry begins only where a slot is free
abbrev pub BeginsWhereFree : Bool → Result (Performed × Option ServerTransaction) NoMemory → Type 0
BeginsWhereFree free (Ok x) = is_some x.1 ≡ true → free ≡ true
BeginsWhereFree free (Err e) = Unit {0}

-- an entry that begins, begins at that moment
abbrev pub IsBegunAt : (moment : ℕ) → Option ServerTransaction → Type 0
IsBegunAt moment None = Unit {0}
IsBegunAt moment (Some e) = e.begin ≡ moment

abbrev pub BeginsAt : (moment : ℕ) → Result (Performed × Option ServerTransaction) NoMemory → Type 0
BeginsAt moment (Ok x) = IsBegunAt moment x.1
BeginsAt moment (Err e) = Unit {0}
