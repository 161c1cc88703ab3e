use Rattle.bac_plant.proofs.Answers.{in_long_runs, stores_in_long_runs}
use Rattle.bac_plant.proofs.AnswersMoments.{moments_in_long_runs}
use Rattle.bac_plant.proofs.replies.answers_are_replies_with_long_apdus.Goals as goal

pub returns-clause-runs : goal.returns-clause-runs
returns-clause-runs c = in_long_runs

pub returns-clause-moments : goal.returns-clause-moments
returns-clause-moments c = moments_in_long_runs

pub returns-clause-stores : goal.returns-clause-stores
returns-clause-stores c = stores_in_long_runs
