use Rattle.std.proofs.Common.{◌≡◌, ◌++◌, length}
use Rattle.bac_value_text.specs.Reading.{octets_for}
use Rattle.bac_value_text.proofs.body_reading.octets_for.Given as goal

abbrev pub invariant-loop-rest : goal.invariant-loop-rest
invariant-loop-rest l = l.octets.items ++ octets_for l.rest ≡ octets_for l.fn.word

abbrev pub decreases-loop-rest : goal.decreases-loop-rest
decreases-loop-rest l = length l.rest
