use Rattle.std.proofs.Common.{length}
use Rattle.bac_service.proofs.Counting.{IsPassed}
use Rattle.bac_service.proofs.records.strings_in.Given as goal

abbrev pub invariant-loop-rest : goal.invariant-loop-rest
invariant-loop-rest l = IsPassed l.fn.run l.count l.rest

abbrev pub decreases-loop-rest : goal.decreases-loop-rest
decreases-loop-rest l = length l.rest
