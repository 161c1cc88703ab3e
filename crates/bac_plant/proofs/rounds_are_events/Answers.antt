-- What rounds promise is a chain of rounds.
use Rattle.bac_plant.proofs.Holding.{round_sent}
use Rattle.bac_plant.proofs.Rounded.{round_held, round_in_chain, serves_rounds, stops_in_round, stops_rounds}
use Rattle.bac_plant.proofs.rounds_are_events.Goals as goal

pub returns-clause-round : goal.returns-clause-round
returns-clause-round g c = λ p old effects new h. round_in_chain _ p old effects new h

pub returns-clause-held : goal.returns-clause-held
returns-clause-held g c = λ p old effects new h. round_held old.timed.bound_node effects new.timed.bound_node (round_in_chain _ p old effects new h)

pub returns-clause-failed : goal.returns-clause-failed
returns-clause-failed g c = λ why p old new h. stops_in_round why p old new h

pub returns-clause-served : goal.returns-clause-served
returns-clause-served g c = λ p rounds effects old new h. serves_rounds _ p rounds effects old new h

pub returns-clause-stopped : goal.returns-clause-stopped
returns-clause-stopped g c = λ p rounds keeper old new h. stops_rounds _ p _ _ keeper rounds old new h

pub returns-clause-sent : goal.returns-clause-sent
returns-clause-sent g c = λ overtake station steps old middle new run alone few step before after at there.
    round_sent overtake station steps old middle new run alone few step before after at there
