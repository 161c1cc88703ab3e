-- A plant with power cuts in which some stations start again with other settings.
use Rattle.std.specs.Prelude.{◌≡◌, ℕ, List, [], ◌∷◌, Some, None}
use Rattle.bac_world.specs.ReusingLogs.{Reuses}
use Rattle.bac_driver.specs.BoundNodes.{BoundNode}
use Rattle.bac_plant.specs.Anew.{Anew, HappensAnew}
use Rattle.bac_plant.specs.Anew.Anew.{RestartsSo, StartsAgainSo}
use Rattle.bac_plant.specs.Cuts.{CutPlant, CutPlantStep, CutStep, real, with_losing}
use Rattle.bac_plant.specs.Moves.{IsReachedIn, MayStart, Move, MoveRun}
use Rattle.bac_plant.specs.Plants.{Plant}
use Rattle.bac_plant.specs.Steps.Step.{Restarts}

-- a step of the plant with power cuts, or a start with other settings
pub data CutMove : Type 0 where
  Goes : (step : CutStep) → CutMove
  StartsAnew : (anew : Anew) → CutMove

-- which station starts
abbrev pub station_anew : Anew → ℕ
station_anew (RestartsSo i exact store settings reuses) = i
station_anew (StartsAgainSo i exact first_id store settings reuses) = i

-- it starts, after a cut or without one: by the store that it has in the plant, or by another one; a round that it was taking is lost
pub record StartsAnewIn (old : CutPlant) (anew : Anew) (new : CutPlant) : Type 0 where
  pub starts : HappensAnew old.plant anew new.plant
  pub losing : new.losing ≡ with_losing old.losing (station_anew anew) None

-- there is a plant after such a start, and that station is this one
pub record LeadsAnew (c : CutPlant) (anew : Anew) (station : ℕ) (after : BoundNode) : Type 0 where
  pub new : CutPlant
  pub starts : StartsAnewIn c anew new
  pub there : real new station ≡ Some after

-- the plant goes on so
abbrev pub CutMoves : (overtake : ℕ) → (old : CutPlant) → CutMove → (new : CutPlant) → Type 0
CutMoves overtake old (CutMove.Goes step) new = CutPlantStep overtake old step new
CutMoves overtake old (CutMove.StartsAnew anew) new = StartsAnewIn old anew new

-- the plant after these moves, in their order
abbrev pub CutMoveRun : (overtake : ℕ) → CutPlant → List CutMove → CutPlant → Type 0
CutMoveRun overtake old [] new = new ≡ old
CutMoveRun overtake old (move ∷ later) new = (next : CutPlant) × CutMoves overtake old move next × CutMoveRun overtake next later new

-- the moves of the plant in these: a cut is a restart with the store kept, and the turns of a round that is lost are none
abbrev pub moves_of : List CutMove → List Move
moves_of [] = []
moves_of (CutMove.Goes (CutStep.Goes step) ∷ later) = Move.Goes step ∷ moves_of later
moves_of (CutMove.Goes (CutStep.Loses i source turn) ∷ later) = moves_of later
moves_of (CutMove.Goes (CutStep.Cuts i exact) ∷ later) = Move.Goes (Restarts i exact None) ∷ moves_of later
moves_of (CutMove.StartsAnew anew ∷ later) = Move.StartsAnew anew ∷ moves_of later

-- the plant makes these moves
abbrev pub CutMovesAreMoves : Type 0
CutMovesAreMoves =
    (overtake : ℕ) (moves : List CutMove) (old new : CutPlant) → CutMoveRun overtake old moves new → MoveRun overtake old.plant (moves_of moves) new.plant

-- so they lead the first plant's run on
abbrev pub CutMovesGoOn : Type 0
CutMovesGoOn =
    (W overtake : ℕ) (ever : Reuses) (first : Plant) (old new : CutPlant) → IsReachedIn W overtake ever first old.plant → (moves : List CutMove)
    → MayStart W ever (moves_of moves) → CutMoveRun overtake old moves new → IsReachedIn W overtake ever first new.plant
