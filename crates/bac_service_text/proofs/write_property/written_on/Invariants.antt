use Rattle.std.proofs.Common.{◌≡◌, map, length}
use Rattle.bac_service_text.specs.WriteProperty.{written_on}
use Rattle.bac_service_text.proofs.write_property.written_on.Given as goal

abbrev pub invariant-loop-rest : goal.invariant-loop-rest
invariant-loop-rest l = written_on l.octets.items (map (λ w. w.now) l.rest) ≡ written_on l.fn.octets.items (map (λ w. w.now) l.fn.words)

abbrev pub decreases-loop-rest : goal.decreases-loop-rest
decreases-loop-rest l = length l.rest
