-- What a sweep leaves.
use Rattle.std.proofs.lemmas.List.Sums.{length-filter}
use Rattle.bac_slots.proofs.Values.{distinct_kept, value_kept}
use Rattle.bac_slots.proofs.laws.sweeping_slots.Goals as goal

pub returns-clause-distinct : goal.returns-clause-distinct
returns-clause-distinct g c = λ slots test d. distinct_kept _ _ g.K.PartialEq.eq g.met.K.Eq.laws test slots d

pub returns-clause-values : goal.returns-clause-values
returns-clause-values g c = λ slots test key d. value_kept _ _ g.K.PartialEq.eq g.met.K.Eq.laws test key slots d

pub returns-clause-length : goal.returns-clause-length
returns-clause-length g c = λ slots test. length-filter (λ s. test s.value) slots
