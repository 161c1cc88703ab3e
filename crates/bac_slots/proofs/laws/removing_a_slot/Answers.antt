-- The values of keys after removing a slot.
use Rattle.bac_slots.proofs.Slots.{IsDistinct-without}
use Rattle.bac_slots.proofs.Values.{removed_none, removed_others, removed_length}
use Rattle.bac_slots.proofs.laws.removing_a_slot.Goals as goal

pub returns-clause-distinct : goal.returns-clause-distinct
returns-clause-distinct g c = λ slots key d. IsDistinct-without g.K.PartialEq.eq key slots d

pub returns-clause-absent : goal.returns-clause-absent
returns-clause-absent g c = λ slots key d. removed_none _ _ g.K.PartialEq.eq g.met.K.Eq.laws key slots d

pub returns-clause-others : goal.returns-clause-others
returns-clause-others g c = λ slots key other e. removed_others _ _ g.K.PartialEq.eq g.met.K.Eq.laws key other slots e

pub returns-clause-length : goal.returns-clause-length
returns-clause-length g c = λ slots key v e. removed_length _ _ g.K.PartialEq.eq g.met.K.Eq.laws key v slots e
