-- Plants in which stations may start again with other settings, and all take APDUs of 480 octets or more.
use Rattle.std.specs.Prelude.{ℕ, List, [], ◌∷◌}
use Rattle.bac_protocol.specs.LongApdus.{TakesLong}
use Rattle.bac_protocol.specs.Pace.{IsTimely}
use Rattle.bac_world.specs.LongApdus.{RepliesFit, TakeLongApdus}
use Rattle.bac_world.specs.ReusingLogs.{Reuses}
use Rattle.bac_world.specs.World.{IsFresh}
use Rattle.bac_plant.specs.Anew.{Anew, Stretch}
use Rattle.bac_plant.specs.Anew.Anew.{RestartsSo, StartsAgainSo}
use Rattle.bac_plant.specs.LongApdus.{AllAskLong, AsksLong}
use Rattle.bac_plant.specs.Moves.{IsLed, MayStart, Move, MoveRun}
use Rattle.bac_plant.specs.Moves.Move.{Goes, StartsAnew}
use Rattle.bac_plant.specs.Plants.{Plant, world_of}
use Rattle.bac_plant.specs.Steps.{Step}

-- the station that starts takes such
abbrev pub StartsLong : Anew → Type 0
StartsLong (RestartsSo i exact store settings reuses) = TakesLong settings.limits
StartsLong (StartsAgainSo i exact first_id store settings reuses) = TakesLong settings.limits

-- so it is in each stretch, and who asks another station knows that it does
abbrev pub TakeLongThroughout : List Stretch → Type 0
TakeLongThroughout [] = Unit {0}
TakeLongThroughout (s ∷ ss) = StartsLong s.anew × AllAskLong s.steps × TakeLongThroughout ss

-- also in the steps before them
abbrev pub AreLong : List Step → List Stretch → Type 0
AreLong steps stretches = AllAskLong steps × TakeLongThroughout stretches

-- such a run, when the first plant was fresh, led there; no reply in the log is longer than can be sent
pub record IsReachedLongIn (W overtake : ℕ) (ever : Reuses) (first p : Plant) : Type 0 where
  pub fresh : IsFresh (world_of first)
  pub timely : IsTimely first.time.pace
  pub long : TakeLongApdus W (world_of first)
  pub led : IsLed W overtake ever first p
  pub throughout : AreLong led.steps led.stretches
  pub fits : RepliesFit p.log

-- in these moves too
abbrev pub AllMoveLong : List Move → Type 0
AllMoveLong [] = Unit {0}
AllMoveLong (Goes step ∷ later) = AsksLong step × AllMoveLong later
AllMoveLong (StartsAnew anew ∷ later) = StartsLong anew × AllMoveLong later

-- the first plant's run leads on through such moves
abbrev pub LongMovesGoOn : Type 0
LongMovesGoOn =
    (W overtake : ℕ) (ever : Reuses) (first p : Plant) → IsReachedLongIn W overtake ever first p → (moves : List Move) → MayStart W ever moves
    → AllMoveLong moves → (new : Plant) → MoveRun overtake p moves new → RepliesFit new.log → IsReachedLongIn W overtake ever first new
