-- The place that a search found is the place in key order.
use Rattle.std.proofs.Common.{◌≤◌, ◌+◌, ◌∙◌, ℕ, sym, subst}
use Rattle.bac_slots.specs.Slots.{digits}
use Rattle.bac_slots.proofs.Slots.{value_at-some}
use Rattle.bac_slots.proofs.Joined.{joined_IsAt, joined_absent, joined_length, joined_rank}
use Rattle.bac_slots.proofs.index_slots.IndexSlotsSlotTable.find.Goals as goal

pub returns-in-Ok-clause-place : goal.returns-in-Ok-clause-place
returns-in-Ok-clause-place g c =
    let at = joined_IsAt g.K.PartialEq.eq c.args.key.now c.in-Ok.found.place c.self.inside.keys.items c.self.inside.entries.items c.self.invariant.7
    c.in-Ok.ensures.place.3 in
    let same = joined_rank _ _ g.K.Ord.cmp g.met.K.Ord.total g.K.PartialEq.eq g.met.K.Ord.matches_eq c.args.key.now c.self.inside.keys.items
    c.self.inside.entries.items c.self.invariant.7 in
    rw (← c.self.view_is) (value_at-some g.K.PartialEq.eq c.args.key.now c.in-Ok.found.place _ at, c.in-Ok.ensures.place.0 ∙ sym same)

pub returns-in-Ok-clause-few : goal.returns-in-Ok-clause-few
returns-in-Ok-clause-few g c =
    let long = joined_length c.self.inside.keys.items c.self.inside.entries.items c.self.invariant.7 in
    rw (← c.self.view_is) (subst (λ (n : ℕ). c.search.new.count.comparisons ≤ c.args.count.now.comparisons + digits n) (sym long) c.in-Ok.ensures.few)

pub returns-in-Err-clause-place : goal.returns-in-Err-clause-place
returns-in-Err-clause-place g c =
    rw (← c.self.view_is) (joined_absent g.K.PartialEq.eq c.args.key.now c.self.inside.keys.items c.self.inside.entries.items c.in-Err.ensures.place.2)

pub returns-in-Err-clause-few : goal.returns-in-Err-clause-few
returns-in-Err-clause-few g c =
    let long = joined_length c.self.inside.keys.items c.self.inside.entries.items c.self.invariant.7 in
    rw (← c.self.view_is) (subst (λ (n : ℕ). c.search.new.count.comparisons ≤ c.args.count.now.comparisons + digits n) (sym long) c.in-Err.ensures.few)
