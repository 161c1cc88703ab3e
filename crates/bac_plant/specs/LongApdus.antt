-- Plants whose stations all take APDUs of 480 octets or more.
use Rattle.std.specs.Prelude.{◌≡◌, ◌≤◌, ℕ, List, [], ◌∷◌, Some, slice_get}
use Rattle.bac_service.specs.Values.{Request}
use Rattle.bac_store.specs.Replies.{reply_to}
use Rattle.bac_store.specs.ReplyLengths.{DATA_LIMIT, reply_length}
use Rattle.bac_store.specs.Stores.{Store}
use Rattle.bac_protocol.specs.LongApdus.{TakesLong}
use Rattle.bac_protocol.specs.Pace.{IsTimely}
use Rattle.bac_world.specs.LongApdus.{RepliesFit, TakeLongApdus}
use Rattle.bac_world.specs.Node.{Node}
use Rattle.bac_world.specs.World.{IsFresh, World}
use Rattle.bac_plant.specs.Plants.{Plant, world_of}
use Rattle.bac_plant.specs.Steps.{PlantRun, PlantStep, Step}
use Rattle.bac_plant.specs.Steps.Step.{Begins}

-- who asks another station knows that it does
abbrev pub AsksLong : Step → Type 0
AsksLong (Begins station server limits request) = TakesLong limits
AsksLong step = Unit {0}

abbrev pub AllAskLong : List Step → Type 0
AllAskLong [] = Unit {0}
AllAskLong (step ∷ before) = AsksLong step × AllAskLong before

-- a run from such a plant, when it was fresh, led there
pub record IsReachedLong (W overtake : ℕ) (p : Plant) : Type 0 where
  pub first : Plant
  pub fresh : IsFresh (world_of first)
  pub timely : IsTimely first.time.pace
  pub long : TakeLongApdus W (world_of first)
  pub steps : List Step
  pub asks : AllAskLong steps
  pub run : PlantRun overtake steps first p
  pub fits : RepliesFit p.log

-- before each of these steps, the first of them first, no reply in the log is longer than can be sent, whatever plant the ones before it led to
abbrev pub RepliesFitBefore : (overtake : ℕ) → List Step → Plant → Type 0
RepliesFitBefore overtake [] p = Unit {0}
RepliesFitBefore overtake (step ∷ later) p =
    RepliesFit p.log × ((next : Plant) → PlantStep overtake p step next → RepliesFitBefore overtake later next)

-- no reply of a store is longer than can be sent: true of each store that code holds, by `replies_can_be_sent` of bac_store
abbrev pub CanReply : Store → Type 0
CanReply s = (r : Request) → reply_length (reply_to s r) ≤ DATA_LIMIT

abbrev pub AllCanReply : World → Type 0
AllCanReply w = (i : ℕ) (n : Node) → slice_get w.nodes i ≡ Some n → CanReply n.store

-- that holds of the stores of all stations before each step of the run
abbrev pub CanReplyThroughout : (overtake : ℕ) (steps : List Step) (old new : Plant) → PlantRun overtake steps old new → Type 0
CanReplyThroughout overtake [] old new run = Unit {0}
CanReplyThroughout overtake (step ∷ before) old new run = CanReplyThroughout overtake before old run.middle run.so_far × AllCanReply (world_of run.middle)
