-- The turns that one station takes, whatever others do between them.
use Rattle.std.specs.Prelude.{◌≡◌, ◌≢◌, ◌⊎◌, ℕ, List, [], ◌∷◌, map, Some, slice_get, if◌then◌else◌, nat_eq}
use Rattle.bac_requester.specs.declared.ending.Ending.{Ending}
use Rattle.bac_driver.specs.Asking.{AskingEnds, AskingFails, Asks, IsBegun, Question}
use Rattle.bac_driver.specs.BoundNodes.{BoundNode}
use Rattle.bac_driver.specs.Turns.{Turn}
use Rattle.bac_driver.specs.Pairs.{Pair, Round, TakesRound, turn_of_first}
use Rattle.bac_driver.specs.Runs.{GoesBack, Run, Timed, TurnFails}
use Rattle.bac_driver.specs.Serving.{Serves, ServingFails, performed_in}
use Rattle.bac_driver.specs.declared.fault.TurnFault.{TurnFault}
use Rattle.bac_driver.specs.declared.question.AskEnd.TheVariants as end
use Rattle.bac_driver.specs.declared.wait_limit.WaitLimit.{WaitLimit}
use Rattle.bac_plant.specs.Plants.{Plant}
use Rattle.bac_plant.specs.Steps.{IsSomeTurn, PlantRun, Step}
use Rattle.bac_plant.specs.Steps.Step.{Begins, BeginsAway, Changes, FailsToReceive, Holds, Restarts, SendsHeld, Starts, StartsAgain, Takes}

-- a turn at some moment
pub record TakesSomeTurn (before : BoundNode) (turn : Turn) (after : BoundNode) : Type 0 where
  pub now : ℕ
  pub is : IsSomeTurn now before turn after

-- turns of one station, one after the other; the newest comes first
abbrev pub Chain : List Turn → (before after : BoundNode) → Type 0
Chain turns before after = Run TakesSomeTurn turns before after

-- what serving promises of a station: a chain of turns, in which so many requests were performed
pub record ServesInChain (effects : ℕ) (before after : BoundNode) : Type 0 where
  pub turns : List Turn
  pub chain : Chain turns before after
  pub counted : effects ≡ performed_in turns

-- what asking promises of it: an ask that was accepted at some moment, and a chain of turns after it
pub record AsksInChain (q : Question) (before after : BoundNode) : Type 0 where
  pub now : ℕ
  pub ticket : ℕ
  pub asked : BoundNode
  pub begun : IsBegun now q before ticket asked
  pub turns : List Turn
  pub chain : Chain turns asked after

-- a chain of turns, after which one was not taken, for that fault
pub record StopsInChain (fault : TurnFault) (old new : Timed) : Type 0 where
  pub turns : List Turn
  pub middle : Timed
  pub chain : Chain turns old.bound_node middle.bound_node
  pub failed : TurnFails fault middle new

-- the same after an ask
pub record AsksAndStops (q : Question) (fault : TurnFault) (old new : Timed) : Type 0 where
  pub ticket : ℕ
  pub asked : Timed
  pub asks : Asks q old ticket asked
  pub stops : StopsInChain fault asked new

-- what a round gave of the second of two stations
abbrev pub turn_of_second : Round → Turn
turn_of_second round = round.of_second

-- ---- what calls promise

-- serving is a chain
abbrev pub ServingIsChain : Type 0
ServingIsChain =
    (p : WaitLimit) (turns effects : ℕ) (old new : Timed) → Serves p turns effects old new → ServesInChain effects old.bound_node new.bound_node

-- asking is one, where the ask ends
abbrev pub AskingIsChain : Type 0
AskingIsChain =
    (q : Question) (how : Ending) (p : WaitLimit) (turns : ℕ) (old new : Timed) → AskingEnds q (end.Ended how) p turns old new
    → AsksInChain q old.bound_node new.bound_node

-- where it does not end in time
abbrev pub WaitingIsChain : Type 0
WaitingIsChain =
    (q : Question) (p : WaitLimit) (turns : ℕ) (old new : Timed) → AskingEnds q end.NoEnding p turns old new → AsksInChain q old.bound_node new.bound_node

-- serving that a fault stops was one until then
abbrev pub ServingStopsInChain : Type 0
ServingStopsInChain = (fault : TurnFault) (p : WaitLimit) (turns : ℕ) (old new : Timed) → ServingFails fault p turns old new → StopsInChain fault old new

-- so was asking, if the clock did not go back before it began
abbrev pub AskingStopsInChain : Type 0
AskingStopsInChain =
    (q : Question) (fault : TurnFault) (p : WaitLimit) (turns : ℕ) (old new : Timed) → AskingFails q fault p turns old new
    → GoesBack old new ⊎ AsksAndStops q fault old new

-- of a pair, the first node's turns are a chain
abbrev pub FirstIsChain : Type 0
FirstIsChain = (rounds : List Round) (old new : Pair) → Run TakesRound rounds old new → Chain (map turn_of_first rounds) old.first new.first

-- the second node's too
abbrev pub SecondIsChain : Type 0
SecondIsChain = (rounds : List Round) (old new : Pair) → Run TakesRound rounds old new → Chain (map turn_of_second rounds) old.second new.second

-- ---- the steps of a station

-- the turns of that station in a run
abbrev pub turns_of : (station : ℕ) → List Step → List Turn
turns_of i [] = []
turns_of i (Takes j source turn ∷ before) = if nat_eq j i then turn ∷ turns_of i before else turns_of i before
turns_of i (step ∷ before) = turns_of i before

-- in a run that station takes turns and does nothing else
abbrev pub TakesTurnsAlone : (station : ℕ) → List Step → Type 0
TakesTurnsAlone i [] = Unit {0}
TakesTurnsAlone i (FailsToReceive j ∷ before) = (j ≢ i) × TakesTurnsAlone i before
TakesTurnsAlone i (Begins j server limits r ∷ before) = (j ≢ i) × TakesTurnsAlone i before
TakesTurnsAlone i (BeginsAway j peer limits r ∷ before) = (j ≢ i) × TakesTurnsAlone i before
TakesTurnsAlone i (Changes j change ∷ before) = (j ≢ i) × TakesTurnsAlone i before
TakesTurnsAlone i (Restarts j exact store ∷ before) = (j ≢ i) × TakesTurnsAlone i before
TakesTurnsAlone i (Starts j exact ∷ before) = (j ≢ i) × TakesTurnsAlone i before
TakesTurnsAlone i (StartsAgain j exact first_id store ∷ before) = (j ≢ i) × TakesTurnsAlone i before
TakesTurnsAlone i (Holds j source turn ∷ before) = (j ≢ i) × TakesTurnsAlone i before
TakesTurnsAlone i (SendsHeld j turns ∷ before) = (j ≢ i) × TakesTurnsAlone i before
TakesTurnsAlone i (step ∷ before) = TakesTurnsAlone i before

-- then its turns are a chain
abbrev pub StepsAreChain : Type 0
StepsAreChain =
    (overtake station : ℕ) (steps : List Step) (old new : Plant) → PlantRun overtake steps old new → TakesTurnsAlone station steps
    → (before after : BoundNode) → slice_get old.stations station ≡ Some before → slice_get new.stations station ≡ Some after
    → Chain (turns_of station steps) before after
