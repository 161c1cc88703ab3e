-- Slots stay in order.
use Rattle.bac_slots.proofs.SlotAges.{ascends_put, ascends_set, ascends_without, ascends_kept}
use Rattle.bac_slots.proofs.laws.ascending_slots.Goals as goal

pub returns-clause-put : goal.returns-clause-put
returns-clause-put g c = λ slots x a e. ascends_put slots x a e

pub returns-clause-set : goal.returns-clause-set
returns-clause-set g c = λ slots key v a. ascends_set g.K.PartialEq.eq key v slots a

pub returns-clause-removed : goal.returns-clause-removed
returns-clause-removed g c = λ slots key a. ascends_without g.K.PartialEq.eq key slots a

pub returns-clause-swept : goal.returns-clause-swept
returns-clause-swept g c = λ slots test a. ascends_kept (λ s. test s.value) slots a
