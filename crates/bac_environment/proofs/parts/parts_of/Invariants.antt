use Rattle.std.proofs.Common.{◌≡◌, ◌++◌, map, length}
use Rattle.bac_value_text.specs.Splits.{split_by}
use Rattle.bac_environment.specs.QuestionLines.{is_octet}
use Rattle.bac_environment.proofs.parts.parts_of.Given as goal

abbrev pub invariant-loop-part : goal.invariant-loop-part
invariant-loop-part l = map (λ p. p.now) l.parts.items ++ split_by (is_octet l.fn.wanted) l.rest ≡ split_by (is_octet l.fn.wanted) l.fn.text

abbrev pub decreases-loop-part : goal.decreases-loop-part
decreases-loop-part l = length l.rest
