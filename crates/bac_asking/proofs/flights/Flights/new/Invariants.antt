-- The lines from here on, behind those so far, are all.
use Rattle.std.proofs.Common.{◌≡◌, ◌++◌, map, drop}
use Rattle.bac_asking.specs.InFlight.{no_end, waiting_from}
use Rattle.bac_asking.proofs.flights.Flights.new.Given as goal

abbrev pub invariant-loop-place : goal.invariant-loop-place
invariant-loop-place l =
    record {
      waiting : l.waiting.items ++ waiting_from l.place (drop l.place l.lines) ≡ waiting_from 0 l.lines;
      ends : l.ends.items ++ map no_end (drop l.place l.lines) ≡ map no_end l.lines;
    }
