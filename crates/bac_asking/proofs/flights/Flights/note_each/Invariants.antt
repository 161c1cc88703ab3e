-- What is left to note makes of the asks so far what all make of the asks at first.
use Rattle.std.proofs.Common.{◌≡◌}
use Rattle.bac_asking.specs.InFlight.{all_noted, sky}
use Rattle.bac_asking.proofs.flights.Flights.note_each.Given as goal

abbrev pub invariant-loop-finish : goal.invariant-loop-finish
invariant-loop-finish l = all_noted l.node l.finish-iterator.rest.items (sky l.self) ≡ all_noted l.node l.fn.finishes.items (sky l.fn.self)
