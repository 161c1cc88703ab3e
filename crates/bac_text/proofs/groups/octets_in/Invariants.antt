use Rattle.std.proofs.Common.{◌≡◌, length}
use Rattle.bac_text.specs.Groups.{groups_of, octets_in, octets_on}
use Rattle.bac_text.proofs.groups.octets_in.Given as goal

abbrev pub invariant-loop-group : goal.invariant-loop-group
invariant-loop-group l = octets_on l.octets.items (groups_of l.rest) ≡ octets_in l.fn.text

abbrev pub decreases-loop-group : goal.decreases-loop-group
decreases-loop-group l = length l.rest
