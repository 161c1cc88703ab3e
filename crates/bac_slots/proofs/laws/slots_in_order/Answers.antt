-- The slots in key order.
use Rattle.bac_slots.proofs.KeyOrder.{nth_is, are_apart, ascending, length_in_order, value_in_order}
use Rattle.bac_slots.proofs.laws.slots_in_order.Goals as goal

pub returns-clause-nth : goal.returns-clause-nth
returns-clause-nth g c = λ slots n d.
    nth_is _ _ g.K.Ord.cmp g.met.K.Ord.total slots (are_apart _ _ g.K.Ord.cmp g.met.K.Ord.total g.K.PartialEq.eq g.met.K.Ord.matches_eq
    slots d) n

pub returns-clause-ascending : goal.returns-clause-ascending
returns-clause-ascending g c = λ slots n s t d e f. ascending _ _ g.K.Ord.cmp g.met.K.Ord.total g.K.PartialEq.eq g.met.K.Ord.matches_eq slots n s t d e f

pub returns-clause-length : goal.returns-clause-length
returns-clause-length g c = λ slots. length_in_order _ _ g.K.Ord.cmp g.met.K.Ord.total slots

pub returns-clause-values : goal.returns-clause-values
returns-clause-values g c = λ slots key d. value_in_order _ _ g.K.Ord.cmp g.met.K.Ord.total g.K.PartialEq.eq g.met.K.Ord.matches_eq key slots d
