use Rattle.std.proofs.Common.{length, reverse}
use Rattle.bac_value.specs.Reading.{IsPassed}
use Rattle.bac_value.proofs.data_reading.pass_run.Given as goal

abbrev pub invariant-loop-element : goal.invariant-loop-element
invariant-loop-element l = IsPassed (reverse l.fn.opened.items) l.run (reverse l.opened.items) l.rest

abbrev pub decreases-loop-element : goal.decreases-loop-element
decreases-loop-element l = length l.rest
