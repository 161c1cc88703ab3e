-- Why a straight run stops at a fault, and where it leaves the world.
use Rattle.std.specs.Prelude.{◌≡◌, ◌⊎◌, ℕ, ◌+◌, ◌<◌, length, Some, None, slice_get}
use Rattle.bac_apdu.specs.Apdu.{Limits}
use Rattle.bac_service.specs.Values.{Request}
use Rattle.bac_world.specs.Node.{Node}
use Rattle.bac_world.specs.World.{World, WorldRun, IsAsked}
use Rattle.bac_world.specs.World.Event.{Ask, Deliver}
use Rattle.bac_network.specs.Steps.{IsFault}
use Rattle.bac_network.specs.declared.fault.WorldFault.{WorldFault}
use Rattle.bac_network.specs.declared.fault.WorldFault.TheVariants as fault
use Rattle.bac_liveness.specs.StraightRuns.{deliveries, ending_in}
use Rattle.bac_network.specs.StraightRuns.{limits_of_server}

-- the ask met that fault, and nothing changed
abbrev pub AskFails : WorldFault → (overtake : ℕ) → (old : World) → (client server : ℕ) → Limits → Request → (new : World) → Type 0
AskFails f overtake old client server limits r new = IsFault f overtake old (Ask client server limits r) × (new ≡ old)

-- the ask was accepted, so many of its copies were delivered, and the delivery of the next one met that fault: that copy is there, and the ask has not ended
pub record DeliveryFails (f : WorldFault) (overtake : ℕ) (old : World) (client server : ℕ) (limits : Limits) (r : Request) (new : World) : Type 0 where
  pub count : ℕ
  pub asked : World
  pub asks : IsAsked old client server limits r asked
  pub done : WorldRun overtake asked (deliveries count (length old.copies)) new
  pub unended : ending_in (length old.notes) new.log ≡ None
  pub left : length old.copies + count < length new.copies
  pub why : IsFault f overtake new (Deliver (length old.copies + count))

abbrev pub Fails : WorldFault → (overtake : ℕ) → (old : World) → (client server : ℕ) → Limits → Request → (new : World) → Type 0
Fails f overtake old client server limits r new =
    AskFails f overtake old client server limits r new ⊎ DeliveryFails f overtake old client server limits r new

-- where there is such a server, of an ask with what it takes of APDUs as a server
pub record FailsAt (f : WorldFault) (overtake : ℕ) (old : World) (client server : ℕ) (r : Request) (new : World) : Type 0 where
  pub node : Node
  pub at : slice_get old.nodes server ≡ Some node
  pub fails : Fails f overtake old client server (limits_of_server node) r new

-- there is no such server
pub record LacksServer (f : WorldFault) (old : World) (server : ℕ) (new : World) : Type 0 where
  pub fault_is : f ≡ fault.NoSuchNode
  pub lacks : slice_get old.nodes server ≡ None
  pub same : new ≡ old

abbrev pub StopsShort : WorldFault → (overtake : ℕ) → (old : World) → (client server : ℕ) → Request → (new : World) → Type 0
StopsShort f overtake old client server r new = LacksServer f old server new ⊎ FailsAt f overtake old client server r new
