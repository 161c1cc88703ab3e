-- After each run of a plant, whatever a call promises can be its next step.
use Rattle.std.specs.Prelude.{◌≡◌, ℕ, true, false, List, Option, Some, slice_get}
use Rattle.bac_apdu.specs.Apdu.{Limits}
use Rattle.bac_npdu.specs.Peers.{PeerView}
use Rattle.bac_service.specs.Values.{Request}
use Rattle.bac_store.specs.AtNode.{Change}
use Rattle.bac_driver.specs.Changes.{MakesChange}
use Rattle.bac_store.specs.Stores.{Store}
use Rattle.bac_protocol.specs.Pace.{IsTimely, clock_at}
use Rattle.bac_protocol.specs.Service.{Octets}
use Rattle.bac_world.specs.Node.{begun_again, restarted, store_after_restart}
use Rattle.bac_world.specs.World.{IsBounded, IsFresh, IsOfNone, is_quiet, link_at, peer_at}
use Rattle.bac_transaction.specs.Views.{rules_view}
use Rattle.bac_driver.specs.Asking.{IsBegun}
use Rattle.bac_driver.specs.BoundNodes.{BoundNode}
use Rattle.bac_driver.specs.Runs.{CannotReceive, Timed}
use Rattle.bac_driver.specs.Turns.{Turn}
use Rattle.bac_plant.specs.Network.{HandsOver, Source}
use Rattle.bac_plant.specs.Plants.{Plant, RemembersInFull, nodes_of, shows, world_of}
use Rattle.bac_plant.specs.Steps.{AreSent, HoldsSomeTurn, IsSomeTurn, PlantRun, PlantStep, Step, question}
use Rattle.bac_plant.specs.Steps.Step.{Begins, BeginsAway, Changes, FailsToReceive, Holds, Restarts, SendsHeld, Starts, StartsAgain, Takes}

-- a run from a fresh plant led there, whichever stations let clients use an invoke ID again
pub record IsReached (W overtake : ℕ) (p : Plant) : Type 0 where
  pub first : Plant
  pub fresh : IsFresh (world_of first)
  pub timely : IsTimely first.time.pace
  pub bounded : IsBounded W overtake (world_of first)
  pub steps : List Step
  pub run : PlantRun overtake steps first p

-- it is so of each plant that a run led to
abbrev pub AfterEachRun : (GoOn : (overtake : ℕ) → Plant → Type 0) → Type 0
AfterEachRun GoOn = (W overtake : ℕ) (p : Plant) → IsReached W overtake p → GoOn overtake p

-- it is so of each plant
abbrev pub InEachPlant : (GoOn : (overtake : ℕ) → Plant → Type 0) → Type 0
InEachPlant GoOn = (overtake : ℕ) (p : Plant) → GoOn overtake p

-- there is a plant after the step, in which that station is this one
pub record LeadsTo (overtake : ℕ) (p : Plant) (step : Step) (station : ℕ) (after : BoundNode) : Type 0 where
  pub new : Plant
  pub goes : PlantStep overtake p step new
  pub there : slice_get new.stations station ≡ Some after

-- each turn of a station at the moment of its clock, by a datagram that the network may hand over, where the station remembers each
-- request for 65,000 ms or longer
abbrev pub TurnsGoOn : (overtake : ℕ) → Plant → Type 0
TurnsGoOn overtake p =
    (i : ℕ) (before : BoundNode) → slice_get p.stations i ≡ Some before → RemembersInFull before → (turn : Turn) (after : BoundNode)
    → IsSomeTurn (shows p i) before turn after → (source : Source) → HandsOver overtake p i source turn.received after.buffer
    → LeadsTo overtake p (Takes i source turn) i after

-- the same of each turn of a round, whose sends are held
abbrev pub HeldTurnsGoOn : (overtake : ℕ) → Plant → Type 0
HeldTurnsGoOn overtake p =
    (i : ℕ) (before : BoundNode) → slice_get p.stations i ≡ Some before → RemembersInFull before → (turn : Turn) (after : BoundNode)
    → HoldsSomeTurn (shows p i) before turn after → (source : Source) → HandsOver overtake p i source turn.received after.buffer
    → LeadsTo overtake p (Holds i source turn) i after

-- each time that a station sends what turns hold
abbrev pub HeldSendsGoOn : (overtake : ℕ) → Plant → Type 0
HeldSendsGoOn overtake p =
    (i : ℕ) (before : BoundNode) → slice_get p.stations i ≡ Some before → (turns : List Turn) (after : BoundNode) → AreSent turns before after
    → LeadsTo overtake p (SendsHeld i turns) i after

-- each ask of another station that its node accepts
abbrev pub AsksGoOn : (overtake : ℕ) → Plant → Type 0
AsksGoOn overtake p =
    (i server : ℕ) (before : BoundNode) → slice_get p.stations i ≡ Some before → (link : Octets) → link_at (nodes_of p.stations) server ≡ Some link
    → (limits : Limits) (r : Request) (ticket : ℕ) (after : BoundNode) → IsBegun (shows p i) (question (peer_at link) limits r) before ticket after
    → LeadsTo overtake p (Begins i server limits r) i after

-- each ask of a stranger, at a link of no station, that its node accepts
abbrev pub StrangersAskedGoOn : (overtake : ℕ) → Plant → Type 0
StrangersAskedGoOn overtake p =
    (i : ℕ) (before : BoundNode) → slice_get p.stations i ≡ Some before → (peer : PeerView) → IsOfNone (nodes_of p.stations) peer.link
    → (limits : Limits) (r : Request) (ticket : ℕ) (after : BoundNode) → IsBegun (shows p i) (question peer limits r) before ticket after
    → LeadsTo overtake p (BeginsAway i peer limits r) i after

-- each call to receive that fails
abbrev pub FailuresGoOn : (overtake : ℕ) → Plant → Type 0
FailuresGoOn overtake p =
    (i : ℕ) (old new : Timed) → slice_get p.stations i ≡ Some old.bound_node → CannotReceive old new → LeadsTo overtake p (FailsToReceive i) i new.bound_node

-- each change of its own store that has no fault
abbrev pub ChangesGoOn : (overtake : ℕ) → Plant → Type 0
ChangesGoOn overtake p =
    (i : ℕ) (before : BoundNode) → slice_get p.stations i ≡ Some before → (c : Change) (after : BoundNode) → MakesChange before c after
    → LeadsTo overtake p (Changes i c) i after

-- each restart with a new clock, whatever its new link and buffer are
abbrev pub RestartsGoOn : (overtake : ℕ) → Plant → Type 0
RestartsGoOn overtake p =
    (i : ℕ) (before : BoundNode) → slice_get p.stations i ≡ Some before → (exact : ℕ) (store : Option Store) (after : BoundNode)
    → after.node ≡ restarted (clock_at p.time.pace exact).shows (store_after_restart before.node.store store) before.node → rules_view after.rules ≡ rules_view before.rules
    → LeadsTo overtake p (Restarts i exact store) i after

-- each first start at a station at which nothing happened, whatever its link and buffer are
abbrev pub StartsGoOn : (overtake : ℕ) → Plant → Type 0
StartsGoOn overtake p =
    (i : ℕ) (before : BoundNode) → slice_get p.stations i ≡ Some before → (p.lives i).active ≡ false → (exact : ℕ) (after : BoundNode)
    → after.node ≡ before.node → rules_view after.rules ≡ rules_view before.rules → LeadsTo overtake p (Starts i exact) i after

-- each start of another program once all is over that the client before it sent, whatever its link and buffer are
abbrev pub StartsAgainGoOn : (overtake : ℕ) → Plant → Type 0
StartsAgainGoOn overtake p =
    (i : ℕ) (before : BoundNode) → slice_get p.stations i ≡ Some before → is_quiet (world_of p) i ≡ true → (exact first_id : ℕ) (store : Option Store)
    (after : BoundNode)
    → after.node ≡ begun_again (clock_at p.time.pace exact).shows first_id (store_after_restart before.node.store store) before.node
    → rules_view after.rules ≡ rules_view before.rules → LeadsTo overtake p (StartsAgain i exact first_id store) i after
