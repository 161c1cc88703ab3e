use Rattle.std.proofs.Common.{length, map}
use Rattle.serde_json.specs.View.{view}
use Rattle.bac_json.proofs.Elements.{AreTaken}
use Rattle.bac_json.proofs.value.data_json.Given as goal

-- together with the remaining elements, these are all
abbrev pub invariant-loop-element : goal.invariant-loop-element
invariant-loop-element l = AreTaken (map view l.elements.items) l.rest.octets.now l.fn.values.octets.now

abbrev pub decreases-loop-element : goal.decreases-loop-element
decreases-loop-element l = length l.rest.octets.now
