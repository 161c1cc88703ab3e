-- What comes of calls can enter, whichever nodes let invoke IDs be used again.
use Rattle.bac_journal.proofs.GoingOn as going
use Rattle.bac_journal.proofs.runs_can_go_on.Goals as goal

pub returns-clause-runs : goal.returns-clause-runs
returns-clause-runs c = λ W overtake w w' f timely b events run. going.runs_can_go_on W overtake w w' f timely b events run

pub returns-clause-reusing : goal.returns-clause-reusing
returns-clause-reusing c = λ u W overtake w w' f timely b events run. going.runs_can_go_on_so u W overtake w w' f timely b events run
