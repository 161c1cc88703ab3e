-- The n-th place of the index is that of the n-th slot by key.
use Rattle.std.proofs.Common.{◌≡◌, Option, Some, None, sym, subst, arith}
use Rattle.std.specs.Prelude.{MatchOption}
use Rattle.bac_slots.specs.declared.slot.Slot.{Slot}
use Rattle.bac_slots.proofs.Indexes.{index_length}
use Rattle.bac_slots.proofs.Joined.{keyed_length, joined_nth, joined_nth_past}
use Rattle.bac_slots.proofs.index_slots.IndexSlotsSlotTable.at.Goals as goal

pub returns-then-n-len : goal.returns-then-n-len
returns-then-n-len g c =
    let places = index_length _ _ g.K.Ord.cmp g.met.K.Ord.total g.K.PartialEq.eq g.met.K.Ord.matches_eq _ c.self.inside.places.0 c.self.invariant.4 in
    let long = keyed_length c.self.inside.keys.items in
    rw (← c.self.view_is) (joined_nth_past _ _ g.K.Ord.cmp g.met.K.Ord.total g.K.PartialEq.eq g.met.K.Ord.matches_eq
    c.self.inside.keys.items c.self.inside.entries.items c.args.n c.self.invariant.7 c.self.invariant.3
    (omega (arith, c.if-n-len.true, c.len.ensures, places, long)))

pub returns : goal.returns
returns g c =
    let same = joined_nth _ _ g.K.Ord.cmp g.met.K.Ord.total g.K.PartialEq.eq g.met.K.Ord.matches_eq c.self.inside.keys.items
    c.self.inside.entries.items c.self.inside.places.0 c.args.n c.at.result
    c.self.invariant.7 c.self.invariant.3 c.self.invariant.4 c.at.ensures in
    subst (λ (o : Option (Slot _ _)). MatchOption c.by_age.result (o ≡ None) (λ x. o ≡ Some (record { key = x.0; begin = x.1; value = x.2.now })))
    (sym (rw (← c.self.view_is) same)) c.by_age.ensures
