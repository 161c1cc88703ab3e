-- What the rounds from here on do completes what all do.
use Rattle.std.proofs.Common.{◌≡◌, ℕ, ◌+◌, ◌&&◌, Bool, List, Option}
use Rattle.bac_driver.specs.Runs.{Timed, timed}
use Rattle.bac_asking.specs.Asked.{AsksAll}
use Rattle.bac_asking.specs.Rounds.{AreRoundsFrom}
use Rattle.bac_environment.specs.Sockets.{OnPort}
use Rattle.bac_asking.proofs.rounds.ask_rounds.Given as goal

abbrev pub invariant-loop : goal.invariant-loop
invariant-loop g l = (left : ℕ) → left + l.counter ≡ l.times → (all : Bool) (last : Timed) (end : Option (List ℕ))
    → AreRoundsFrom (AsksAll (OnPort g.M.Sockets.is_bound g.M.Link.Link.failures g.M.Link.Link.calls) l.asking l.asked) l.rounds.every left l.from all (timed l.client.station.bound_node (g.M.Timer.Clock.told l.client.station.clock)) last
    (g.O.Write.contents l.out) end
    → AreRoundsFrom (AsksAll (OnPort g.M.Sockets.is_bound g.M.Link.Link.failures g.M.Link.Link.calls) l.asking l.asked) l.rounds.every l.times 0 (l.all && all) (timed l.fn.client.station.bound_node (g.M.Timer.Clock.told l.fn.client.station.clock)) last
    (g.O.Write.contents l.fn.out) end
