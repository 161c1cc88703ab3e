-- The links so far.
use Rattle.std.proofs.Common.{◌≡◌, take}
use Rattle.bac_network.specs.Fresh.{links_of}
use Rattle.bac_network.proofs.making.links_of.Given as goal

abbrev pub invariant-loop-maker : goal.invariant-loop-maker
invariant-loop-maker l = l.links.items ≡ links_of (take l.maker-index l.makers)
