-- Setting twice, and setting the value that is there.
use Rattle.bac_slots.proofs.Values.{set_twice, set_back}
use Rattle.bac_slots.proofs.laws.setting_again.Goals as goal

pub returns-clause-twice : goal.returns-clause-twice
returns-clause-twice g c = λ slots key a b. set_twice _ _ g.K.PartialEq.eq g.met.K.Eq.laws key a b slots

pub returns-clause-back : goal.returns-clause-back
returns-clause-back g c = λ slots key v e. set_back _ _ g.K.PartialEq.eq g.met.K.Eq.laws key v slots e
