use Rattle.std.proofs.Common.{◌≡◌, ◌≤◌, ◌+◌, length}
use Rattle.bac_forms.specs.Positions.{position_from, position_of}
use Rattle.bac_forms.proofs.place.position_of.Given as goal

abbrev pub invariant-loop-octet : goal.invariant-loop-octet
invariant-loop-octet l =
    (position_from l.position l.rest ≡ position_of l.fn.text)
    × ((l.position.line + length l.rest ≤ length l.fn.text + 1) × (l.position.column + length l.rest ≤ length l.fn.text + 1))

abbrev pub decreases-loop-octet : goal.decreases-loop-octet
decreases-loop-octet l = length l.rest
