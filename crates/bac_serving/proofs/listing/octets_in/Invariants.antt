use Rattle.std.proofs.Common.{◌≡◌, length}
use Rattle.bac_serving.specs.Listing.{octets_with}
use Rattle.bac_serving.proofs.listing.octets_in.Given as goal

abbrev pub invariant-loop-rest : goal.invariant-loop-rest
invariant-loop-rest l = octets_with l.octets l.fn.before l.fn.count l.rest ≡ octets_with 0 l.fn.before l.fn.count l.fn.cells

abbrev pub decreases-loop-rest : goal.decreases-loop-rest
decreases-loop-rest l = length l.rest
