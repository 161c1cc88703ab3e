-- Packing the remaining digits, starting from what is packed so far.
use Rattle.std.proofs.Common.{◌≡◌, [], drop}
use Rattle.bac_objects.specs.Bits.{fresh, packed}
use Rattle.bac_objects.specs.Views.{packing_view}
use Rattle.bac_objects.proofs.bits.packed.Given as goal

abbrev pub invariant-loop-digit : goal.invariant-loop-digit
invariant-loop-digit l = packed (fresh []) l.digits ≡ packed (packing_view l.packing) (drop l.digit-index l.digits)
