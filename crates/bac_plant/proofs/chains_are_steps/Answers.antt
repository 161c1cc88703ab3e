-- What calls promise is a chain of turns.
use Rattle.bac_plant.proofs.Chained.{asking_stops, ended_chain, serves_chain, serving_stops, waited_chain}
use Rattle.bac_plant.proofs.chains_are_steps.Goals as goal

pub returns-clause-served : goal.returns-clause-served
returns-clause-served c = λ p turns effects old new h. serves_chain p turns effects old new h

pub returns-clause-ended : goal.returns-clause-ended
returns-clause-ended c = λ q how p turns old new h. ended_chain q how p turns old new h

pub returns-clause-waited : goal.returns-clause-waited
returns-clause-waited c = λ q p turns old new h. waited_chain q p turns old new h

pub returns-clause-serving_failed : goal.returns-clause-serving_failed
returns-clause-serving_failed c = λ fault p turns old new h. serving_stops fault p turns old new h

pub returns-clause-asking_failed : goal.returns-clause-asking_failed
returns-clause-asking_failed c = λ q fault p turns old new h. asking_stops q fault p turns old new h
