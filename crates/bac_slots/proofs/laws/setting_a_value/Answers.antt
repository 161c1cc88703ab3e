-- The values of keys after setting a value.
use Rattle.bac_slots.proofs.Slots.{IsDistinct-with_value}
use Rattle.bac_slots.proofs.Values.{set_keys, set_length, set_found, set_others}
use Rattle.bac_slots.proofs.laws.setting_a_value.Goals as goal

pub returns-clause-keys : goal.returns-clause-keys
returns-clause-keys g c = λ slots key v. set_keys _ _ g.K.PartialEq.eq g.met.K.Eq.laws key v slots

pub returns-clause-length : goal.returns-clause-length
returns-clause-length g c = λ slots key v. set_length _ _ g.K.PartialEq.eq g.met.K.Eq.laws key v slots

pub returns-clause-distinct : goal.returns-clause-distinct
returns-clause-distinct g c = λ slots key v d. IsDistinct-with_value g.K.PartialEq.eq key v slots d

pub returns-clause-found : goal.returns-clause-found
returns-clause-found g c = λ slots key old v e. set_found _ _ g.K.PartialEq.eq g.met.K.Eq.laws key old v slots e

pub returns-clause-others : goal.returns-clause-others
returns-clause-others g c = λ slots key other v e. set_others _ _ g.K.PartialEq.eq g.met.K.Eq.laws key other v slots e
