-- The copies so far.
use Rattle.std.proofs.Common.{◌≡◌, take}
use Rattle.bac_network.specs.Fresh.{opening_of}
use Rattle.bac_network.proofs.making.stores_of.Given as goal

abbrev pub invariant-loop-maker : goal.invariant-loop-maker
invariant-loop-maker l = l.stores.items ≡ opening_of (take l.maker-index l.makers)
