-- What a call promises, and what a power cut leaves, is a step.
use Rattle.bac_plant.proofs.CutNext.{found_stores_go_on, kept_stores_go_on, lost_turns_go_on, steps_go_on}
use Rattle.bac_plant.proofs.cuts_go_on.Goals as goal

pub returns-clause-steps : goal.returns-clause-steps
returns-clause-steps g c = λ overtake p i free step own after leads. steps_go_on overtake p i free step own after leads

pub returns-clause-lost_turns : goal.returns-clause-lost_turns
returns-clause-lost_turns g c = λ overtake p i before at turn after holds source from. lost_turns_go_on overtake p i before at turn after holds source from

pub returns-clause-found : goal.returns-clause-found
returns-clause-found g c = λ overtake keeper before after as_held finds honest s may.
    found_stores_go_on _ _ overtake keeper before after as_held finds honest s may

pub returns-clause-kept : goal.returns-clause-kept
returns-clause-kept g c = λ overtake keeper stands is honest s may.
    kept_stores_go_on g.K.Keeper.IsHonest g.K.Keeper.may_find g.K.Keeper.IsOpen g.K.Keeper.kept g.K.Keeper.noted g.met.K.Keeper.settled overtake keeper stands
    is honest s may
