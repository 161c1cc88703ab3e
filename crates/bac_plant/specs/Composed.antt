-- What stations do one after another, each by a call of its own.
use Rattle.std.specs.Prelude.{◌≡◌, ℕ, true, false, List, [], ◌∷◌, Option, Some, slice_get}
use Rattle.bac_apdu.specs.Apdu.{Limits}
use Rattle.bac_npdu.specs.Peers.{PeerView}
use Rattle.bac_service.specs.Values.{Request}
use Rattle.bac_store.specs.AtNode.{Change}
use Rattle.bac_store.specs.Stores.{Store}
use Rattle.bac_driver.specs.Changes.{MakesChange}
use Rattle.bac_protocol.specs.Pace.{clock_at}
use Rattle.bac_protocol.specs.Service.{Octets}
use Rattle.bac_transaction.specs.Views.{rules_view}
use Rattle.bac_world.specs.Node.{Node, begun_again, restarted, store_after_restart}
use Rattle.bac_world.specs.World.{IsOfNone, is_quiet, link_at, peer_at}
use Rattle.bac_driver.specs.Asking.{IsBegun}
use Rattle.bac_driver.specs.BoundNodes.{BoundNode}
use Rattle.bac_driver.specs.Runs.{CannotReceive, Timed}
use Rattle.bac_driver.specs.Turns.{Turn}
use Rattle.bac_plant.specs.Network.{HandsOver, Source}
use Rattle.bac_plant.specs.Plants.{Plant, RemembersInFull, nodes_of, shows, world_of}
use Rattle.bac_plant.specs.Steps.{AreSent, HoldsSomeTurn, IsSomeTurn, PlantRun, PlantStep, Step, question}
use Rattle.bac_plant.specs.Steps.Step.{Begins, BeginsAway, Changes, FailsToReceive, Holds, Passes, Restarts, SendsHeld, Starts, StartsAgain, Takes}

-- Each of these says of a plant that a station of it made a call, or that a program starts there: its `ensures` holds, and the network may hand over what came.

-- it took a turn
pub record CallsForTurn (overtake : ℕ) (p : Plant) (i : ℕ) (source : Source) (turn : Turn) : Type 0 where
  pub before : BoundNode
  pub at : slice_get p.stations i ≡ Some before
  pub full : RemembersInFull before
  pub after : BoundNode
  pub turned : IsSomeTurn (shows p i) before turn after
  pub came : HandsOver overtake p i source turn.received after.buffer

-- it took a turn whose sends it holds
pub record CallsForHeldTurn (overtake : ℕ) (p : Plant) (i : ℕ) (source : Source) (turn : Turn) : Type 0 where
  pub before : BoundNode
  pub at : slice_get p.stations i ≡ Some before
  pub full : RemembersInFull before
  pub after : BoundNode
  pub turned : HoldsSomeTurn (shows p i) before turn after
  pub came : HandsOver overtake p i source turn.received after.buffer

-- it sent what turns hold
pub record CallsToSend (p : Plant) (i : ℕ) (turns : List Turn) : Type 0 where
  pub before : BoundNode
  pub at : slice_get p.stations i ≡ Some before
  pub after : BoundNode
  pub sent : AreSent turns before after

-- its link failed to receive
pub record CallsInVain (p : Plant) (i : ℕ) : Type 0 where
  pub old : Timed
  pub new : Timed
  pub at : slice_get p.stations i ≡ Some old.bound_node
  pub failed : CannotReceive old new

-- its node accepted an ask of another station
pub record CallsToAsk (p : Plant) (i server : ℕ) (limits : Limits) (request : Request) : Type 0 where
  pub before : BoundNode
  pub at : slice_get p.stations i ≡ Some before
  pub link : Octets
  pub peer : link_at (nodes_of p.stations) server ≡ Some link
  pub ticket : ℕ
  pub after : BoundNode
  pub begun : IsBegun (shows p i) (question (peer_at link) limits request) before ticket after

-- its node accepted an ask of a stranger
pub record CallsToAskAway (p : Plant) (i : ℕ) (peer : PeerView) (limits : Limits) (request : Request) : Type 0 where
  pub before : BoundNode
  pub at : slice_get p.stations i ≡ Some before
  pub stranger : IsOfNone (nodes_of p.stations) peer.link
  pub ticket : ℕ
  pub after : BoundNode
  pub begun : IsBegun (shows p i) (question peer limits request) before ticket after

-- it changed its own store, without a fault
pub record CallsToChange (p : Plant) (i : ℕ) (change : Change) : Type 0 where
  pub before : BoundNode
  pub at : slice_get p.stations i ≡ Some before
  pub after : BoundNode
  pub made : MakesChange before change after

-- ---- starts

-- A program starts: its station is another one from now on, with any link and buffer. The node begins so, and the rules are as the start has them. The call names
-- that station, since a start leaves some of its rules free, and what follows depends on these.
pub record IsStarted (p : Plant) (i : ℕ) (begins : Node → Node) (AreRules : (before after : BoundNode) → Type 0) : Type 0 where
  pub before : BoundNode
  pub at : slice_get p.stations i ≡ Some before
  pub after : BoundNode
  pub node : after.node ≡ begins before.node
  pub rules : AreRules before after

-- all is over that the client there sent: another program starts there
pub record IsLeft (p : Plant) (i : ℕ) (begins : Node → Node) (AreRules : (before after : BoundNode) → Type 0) : Type 0 where
  pub started : IsStarted p i begins AreRules
  pub quiet : is_quiet (world_of p) i ≡ true

-- the rules stay, but for how much memory they take
abbrev pub AreKept : (before after : BoundNode) → Type 0
AreKept before after = rules_view after.rules ≡ rules_view before.rules

-- nothing happened there so far: a program starts there
pub record IsUnused (p : Plant) (i : ℕ) : Type 0 where
  pub started : IsStarted p i (λ n. n) AreKept
  pub first : (p.lives i).active ≡ false

-- a node after a restart, and one at which another program starts
abbrev pub back : Plant → (exact : ℕ) → Option Store → Node → Node
back p exact store n = restarted (clock_at p.time.pace exact).shows (store_after_restart n.store store) n

abbrev pub again : Plant → (exact first_id : ℕ) → Option Store → Node → Node
again p exact first_id store n = begun_again (clock_at p.time.pace exact).shows first_id (store_after_restart n.store store) n

-- ---- one after another

-- the call that a step stands for was made in that plant
abbrev pub IsCalled : (overtake : ℕ) → Plant → Step → Type 0
IsCalled overtake p (Passes by own) = Unit {0}
IsCalled overtake p (Takes i source turn) = CallsForTurn overtake p i source turn
IsCalled overtake p (FailsToReceive i) = CallsInVain p i
IsCalled overtake p (Begins i server limits request) = CallsToAsk p i server limits request
IsCalled overtake p (BeginsAway i peer limits request) = CallsToAskAway p i peer limits request
IsCalled overtake p (Changes i change) = CallsToChange p i change
IsCalled overtake p (Restarts i exact store) = IsStarted p i (back p exact store) AreKept
IsCalled overtake p (Starts i exact) = IsUnused p i
IsCalled overtake p (StartsAgain i exact first_id store) = IsLeft p i (again p exact first_id store) AreKept
IsCalled overtake p (Holds i source turn) = CallsForHeldTurn overtake p i source turn
IsCalled overtake p (SendsHeld i turns) = CallsToSend p i turns

abbrev pub StandsAt : Plant → (station : ℕ) → BoundNode → Type 0
StandsAt p i b = slice_get p.stations i ≡ Some b

-- in the next plant its station is as the call left it
abbrev pub IsAsCalled : (overtake : ℕ) (p : Plant) (step : Step) → IsCalled overtake p step → (next : Plant) → Type 0
IsAsCalled overtake p (Passes by own) call next = Unit {0}
IsAsCalled overtake p (Takes i source turn) call next = StandsAt next i call.after
IsAsCalled overtake p (FailsToReceive i) call next = StandsAt next i call.new.bound_node
IsAsCalled overtake p (Begins i server limits request) call next = StandsAt next i call.after
IsAsCalled overtake p (BeginsAway i peer limits request) call next = StandsAt next i call.after
IsAsCalled overtake p (Changes i change) call next = StandsAt next i call.after
IsAsCalled overtake p (Restarts i exact store) call next = StandsAt next i call.after
IsAsCalled overtake p (Starts i exact) call next = StandsAt next i call.started.after
IsAsCalled overtake p (StartsAgain i exact first_id store) call next = StandsAt next i call.started.after
IsAsCalled overtake p (Holds i source turn) call next = StandsAt next i call.after
IsAsCalled overtake p (SendsHeld i turns) call next = StandsAt next i call.after

-- The calls that these steps stand for were made one after the other, the first of the list first. Each was made in whatever plant the ones before it led to, whose
-- stations are as these left them.
abbrev pub AreCalled : (overtake : ℕ) → List Step → Plant → Type 0
AreCalled overtake [] p = Unit {0}
AreCalled overtake (step ∷ later) p =
    (call : IsCalled overtake p step) × ((next : Plant) → PlantStep overtake p step next → IsAsCalled overtake p step call next → AreCalled overtake later next)

-- later steps, the first of them first, upon those so far, of which the newest is first
abbrev pub upon : (later so_far : List Step) → List Step
upon [] so_far = so_far
upon (step ∷ later) so_far = upon later (step ∷ so_far)

-- a plant to which a run from that one leads by these steps
pub record IsComposed (overtake : ℕ) (first : Plant) (steps : List Step) : Type 0 where
  pub last : Plant
  pub run : PlantRun overtake steps first last
