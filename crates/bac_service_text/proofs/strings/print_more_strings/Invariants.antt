use Rattle.std.proofs.Common.{length}
use Rattle.bac_service_text.proofs.TakenStrings.{AreTaken}
use Rattle.bac_service_text.proofs.strings.print_more_strings.Given as goal

abbrev pub invariant-loop-rest : goal.invariant-loop-rest
invariant-loop-rest g l = AreTaken l.run l.rest (g.W.Write.contents l.initial.out) (g.W.Write.contents l.out)

abbrev pub decreases-loop-rest : goal.decreases-loop-rest
decreases-loop-rest g l = length l.rest
