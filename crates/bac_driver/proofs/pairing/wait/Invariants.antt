use Rattle.bac_driver.specs.Asking.{NeverEnds}
use Rattle.bac_driver.specs.Pairs.{TakesRound, paired, turn_of_first}
use Rattle.bac_driver.proofs.pairing.wait.Given as goal

abbrev pub invariant-loop : goal.invariant-loop
invariant-loop g l =
    NeverEnds TakesRound turn_of_first l.counter l.ticket (paired l.initial.first l.initial.second (g.C.Clock.told l.initial.clock))
    (paired l.first l.second (g.C.Clock.told l.clock))
