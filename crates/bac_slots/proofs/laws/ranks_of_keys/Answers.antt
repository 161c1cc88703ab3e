-- The slot at a key's place, and the next key.
use Rattle.bac_slots.proofs.Ranks.{present, here, other, past, next}
use Rattle.bac_slots.proofs.laws.ranks_of_keys.Goals as goal

pub returns-clause-present : goal.returns-clause-present
returns-clause-present g c = λ slots key v d e. present _ _ g.K.Ord.cmp g.met.K.Ord.total g.K.PartialEq.eq g.met.K.Ord.matches_eq key v slots d e

pub returns-clause-here : goal.returns-clause-here
returns-clause-here g c = λ slots key n s d e f. here _ _ g.K.Ord.cmp g.met.K.Ord.total g.K.PartialEq.eq g.met.K.Ord.matches_eq key n slots s d e f

pub returns-clause-other : goal.returns-clause-other
returns-clause-other g c = λ slots key s d e f. other _ _ g.K.Ord.cmp g.met.K.Ord.total g.K.PartialEq.eq g.met.K.Ord.matches_eq key slots s d e f

pub returns-clause-past : goal.returns-clause-past
returns-clause-past g c = λ slots key d e. past _ _ g.K.Ord.cmp g.met.K.Ord.total g.K.PartialEq.eq g.met.K.Ord.matches_eq key slots d e

pub returns-clause-next : goal.returns-clause-next
returns-clause-next g c = λ slots key after v d e less between.
    next _ _ g.K.Ord.cmp g.met.K.Ord.total g.K.PartialEq.eq g.met.K.Ord.matches_eq key after less between slots v d e
