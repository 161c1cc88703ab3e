-- What a straight run makes of a world in code.
use Rattle.std.specs.Prelude.{ℕ, IfErr, IfOk, Result}
use Rattle.bac_service.specs.Values.{Request}
use Rattle.bac_world.specs.Node.{Node}
use Rattle.bac_network.specs.Histories.{HasRequestsAloneNow, IsOnceByRequestsAloneNow, WorldView, as_world}
use Rattle.bac_network.specs.Laws.{HasStrictLog}
use Rattle.bac_network.specs.Logs.{ending_by}
use Rattle.bac_network.specs.StraightFaults.{StopsShort}
use Rattle.bac_network.specs.StraightRuns.{CanBeAnswered, GoesAt, IsAnsweredSoon, WentSoFar}
use Rattle.bac_network.specs.declared.fault.WorldFault.{WorldFault}
use Rattle.bac_network.specs.declared.running.StraightRun.{StraightRun}

-- a run that ended gives the ask, and how many copies were delivered
abbrev pub GoesStraight : (old : WorldView) → (client server : ℕ) → Request → StraightRun → (new : WorldView) → Type 0
GoesStraight old client server r s new = GoesAt old.overtake (as_world old) client server r (ending_by s.ask new.log) s.deliveries (as_world new)

-- the ask of that run was answered, with few deliveries
abbrev pub AnswersSoon : (old : WorldView) → (client server : ℕ) → (a b : Node) → Request → StraightRun → (new : WorldView) → Type 0
AnswersSoon old client server a b r s new = IsAnsweredSoon (as_world old) client server a b r (ending_by s.ask new.log) s.deliveries (as_world new)

-- where no node lets invoke IDs be used again: how far it went, whether it ended or met a fault; and where nothing speaks against an answer, it has one
pub record RunsStraight (result : Result StraightRun WorldFault) (old : WorldView) (client server : ℕ) (r : Request) (new : WorldView) : Type 0 where
  pub run : WentSoFar old.overtake (as_world old) client server r (as_world new)
  pub goes : IfOk result (λ s. GoesStraight old client server r s new)
  pub stopped : IfErr result (λ f. StopsShort f old.overtake (as_world old) client server r (as_world new))
  pub answered : (a b : Node) → CanBeAnswered old.overtake (as_world old) client server a b r → IfOk result (λ s. AnswersSoon old client server a b r s new)
  pub log : HasStrictLog new
  pub requests_alone : HasRequestsAloneNow old → IsOnceByRequestsAloneNow new
