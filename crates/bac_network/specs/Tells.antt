-- What a loop over the copies of an ask needs that looks at the log alone.
use Rattle.std.specs.Prelude.{◌≡◌, ℕ, ◌+◌, ◌-◌, ◌≤◌, length, Option, None}
use Rattle.bac_apdu.specs.Apdu.{Limits}
use Rattle.bac_service.specs.Values.{Request}
use Rattle.bac_transaction.specs.Meanings.{Ending}
use Rattle.bac_world.specs.Node.{Node}
use Rattle.bac_world.specs.World.{World, WorldStep, IsAsked}
use Rattle.bac_world.specs.World.Event.{Deliver}
use Rattle.bac_liveness.specs.StraightRuns.{IsStraight, ending_in}
use Rattle.bac_network.specs.Logs.{IsSince, DeliverUnended, Stops}
use Rattle.bac_network.specs.StraightRuns.{CanBeAnswered, GoesAt, IsAnsweredSoon, IsWellMadeAt, WentBy}

-- in each world: where `number` is that of the next copy, none was delivered yet, or one more is; and the facts before the ask stay as they were
pub record LoopGoesOn : Type 0 where
  pub first : (overtake ask first : ℕ) (w : World) → DeliverUnended overtake ask (first - first) first w w
  pub next : (overtake ask first number : ℕ) (w u v : World) → first ≤ number → DeliverUnended overtake ask (number - first) first w u
      → ending_in ask u.log ≡ None → WorldStep overtake u (Deliver number) v → DeliverUnended overtake ask (number + 1 - first) first w v
  pub since : (overtake ask since number : ℕ) (u v : World) → IsSince since ask u.log → WorldStep overtake u (Deliver number) v → IsSince since ask v.log

-- in this world: an ask is newer than the facts before it; as many deliveries as there were are a run; where they stop they were a straight run; and a
-- straight run between nodes that are well made answers where it can be answered
pub record LogTells (overtake : ℕ) (old : World) : Type 0 where
  pub since : (client server : ℕ) (limits : Limits) (r : Request) (asked : World) → IsAsked old client server limits r asked
      → IsSince (length old.log) (length old.notes) asked.log
  pub run : (client server : ℕ) (limits : Limits) (r : Request) (asked new : World) → IsAsked old client server limits r asked
      → (count : ℕ) → DeliverUnended overtake (length old.notes) count (length old.copies) asked new → WentBy overtake old client server limits r new
  pub straight : (client server : ℕ) (limits : Limits) (r : Request) (asked new : World) → IsAsked old client server limits r asked
      → (count : ℕ) → DeliverUnended overtake (length old.notes) count (length old.copies) asked new
      → Stops (length old.notes) (length old.copies + count) new
      → IsStraight overtake old client server limits r (ending_in (length old.notes) new.log) count new
  pub answers : (client server : ℕ) (r : Request) (ending : Option Ending) (count : ℕ) (new : World)
      → GoesAt overtake old client server r ending count new → IsWellMadeAt old client → IsWellMadeAt old server
      → (a b : Node) → CanBeAnswered overtake old client server a b r → IsAnsweredSoon old client server a b r ending count new
