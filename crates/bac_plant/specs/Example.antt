-- Two stations, of which one asks the other: runs in which it is answered, by a turn or by a round, and runs in which the power is cut in that round.
use Rattle.std.specs.Prelude.{◌≡◌, ℕ, List, [], ◌∷◌, Some, None}
use Rattle.bac_protocol.specs.Pace.{IsTimely}
use Rattle.bac_driver.specs.BoundNodes.{BoundNode}
use Rattle.bac_driver.specs.Turns.{Turn}
use Rattle.bac_transaction.specs.Given.{STRICTLY}
use Rattle.bac_world.specs.AnsweredRun.{LIMITS, LOG, TIME, node}
use Rattle.bac_world.specs.Examples.{ASKED, REPLY, REQUEST}
use Rattle.bac_world.specs.Once.Fact.{Performed, Restarted}
use Rattle.bac_world.specs.World.{IsBounded, IsFresh, untouched}
use Rattle.bac_plant.specs.Cuts.{CutPlant, CutPlantRun, CutStep}
use Rattle.bac_plant.specs.Cuts.CutStep.{Cuts, Goes, Loses}
use Rattle.bac_plant.specs.Network.Source.{Nowhere, Station}
use Rattle.bac_plant.specs.Plants.{Plant, world_of}
use Rattle.bac_plant.specs.Steps.{PlantRun, Step}
use Rattle.bac_plant.specs.Steps.Step.{Begins, Holds, SendsHeld, Takes}

-- a node on a link that keeps its calls, and has none; buffers hold what came last alone
abbrev pub station : ℕ → BoundNode
station n = record { node = node n; failures = 0; calls = Some []; buffer = []; rules = STRICTLY }

abbrev pub OPENING : Plant
OPENING = record { stations = station 0 ∷ station 1 ∷ []; time = TIME; lives = λ i. untouched; copies = []; log = []; notes = [] }

-- station 0 asks station 1, and takes a turn in which nothing comes; station 1 takes one by the request, and station 0 one by the answer
abbrev pub steps : (idle served answered : Turn) → List Step
steps idle served answered =
    Takes 0 (Station 1) answered ∷ Takes 1 (Station 0) served ∷ Takes 0 Nowhere idle ∷ Begins 0 1 LIMITS REQUEST ∷ []

-- the same, where station 1 takes a round: it holds what the turn by the request is to send, and then sends it
abbrev pub round_steps : (idle served answered : Turn) → List Step
round_steps idle served answered =
    Takes 0 (Station 1) answered ∷ SendsHeld 1 (served ∷ []) ∷ Holds 1 (Station 0) served ∷ Takes 0 Nowhere idle ∷ Begins 0 1 LIMITS REQUEST ∷ []

-- a run by such steps, with windows of 1, and 253 later copies that may overtake one
pub record AnsweredBy (steps : (idle served answered : Turn) → List Step) : Type 0 where
  pub fresh : IsFresh (world_of OPENING)
  pub timely : IsTimely OPENING.time.pace
  pub bounded : IsBounded 1 253 (world_of OPENING)
  pub idle : Turn
  pub served : Turn
  pub answered : Turn
  pub last : Plant
  pub run : PlantRun 253 (steps idle served answered) OPENING last
  pub log : last.log ≡ LOG

abbrev pub AnsweredTurns : Type 0
AnsweredTurns = AnsweredBy steps

abbrev pub AnsweredRound : Type 0
AnsweredRound = AnsweredBy round_steps

-- ---- power cuts

abbrev pub CUT_OPENING : CutPlant
CUT_OPENING = record { plant = OPENING; losing = λ i. None }

-- the power of station 1 is cut before its round has sent anything, and it starts again: with the store before the round
abbrev pub lost_steps : (idle served : Turn) → List CutStep
lost_steps idle served = Cuts 1 0 ∷ Loses 1 (Station 0) served ∷ Goes (Takes 0 Nowhere idle) ∷ Goes (Begins 0 1 LIMITS REQUEST) ∷ []

-- or with that after its turn
abbrev pub found_steps : (idle served : Turn) → List CutStep
found_steps idle served = Cuts 1 0 ∷ Goes (Holds 1 (Station 0) served) ∷ Goes (Takes 0 Nowhere idle) ∷ Goes (Begins 0 1 LIMITS REQUEST) ∷ []

-- both by the same turns: what was lost was not performed
pub record CutRounds : Type 0 where
  pub idle : Turn
  pub served : Turn
  pub lost : CutPlant
  pub lost_run : CutPlantRun 253 (lost_steps idle served) CUT_OPENING lost
  pub lost_log : lost.plant.log ≡ Restarted 1 None ∷ ASKED
  pub found : CutPlant
  pub found_run : CutPlantRun 253 (found_steps idle served) CUT_OPENING found
  pub found_log : found.plant.log ≡ Restarted 1 None ∷ Performed 0 REQUEST REPLY ∷ ASKED
