-- The key and its entry are removed, and their place is removed from the index.
use Rattle.std.proofs.Common.{◌≡◌, ◌∙◌, ap, sym, subst, ℕ, List, arith}
use Rattle.std.specs.List.{remove}
use Rattle.bac_slots.specs.declared.slot.Slot.{Slot}
use Rattle.bac_slots.specs.Slots.{IsDistinct}
use Rattle.bac_slots.specs.Indexes.{joined, keyed, rank_at, IsIndex}
use Rattle.bac_slots.proofs.Slots.{without-none, without-IsAt, IsDistinct-without}
use Rattle.bac_slots.proofs.Indexes.{index_avoids, index_remove}
use Rattle.bac_slots.proofs.Joined.{joined_absent, joined_IsAt, joined_remove, joined_value, keyed_remove, keyed_within, when_some}
use Rattle.bac_slots.proofs.index_slots.IndexSlotsSlotTable.remove.Goals as goal

pub returns-in_default-clause-value : goal.returns-in_default-clause-value
returns-in_default-clause-value g c =
    rw (← c.self.view_is) (sym (joined_absent g.K.PartialEq.eq c.args.key.now c.self.inside.keys.items c.self.inside.entries.items c.in_default.ensures))

pub returns-in_default-clause-slots : goal.returns-in_default-clause-slots
returns-in_default-clause-slots g c =
    let absent = joined_absent g.K.PartialEq.eq c.args.key.now c.self.inside.keys.items c.self.inside.entries.items c.in_default.ensures in
    rw (← c.self.view_is) (sym (without-none g.K.PartialEq.eq c.args.key.now _ absent))

pub take-is_closed-requires-clause-once : goal.take-is_closed-requires-clause-once
take-is_closed-requires-clause-once g c =
    index_avoids _ _ g.K.Ord.cmp g.met.K.Ord.total g.K.PartialEq.eq g.met.K.Ord.matches_eq c.args.key.now (keyed c.self.inside.keys.items)
    c.self.inside.places.0 (rank_at c.self.inside.places.2 c.in-Some.seen.spot.block c.in-Some.seen.spot.at)
    c.in-Some.seen.place c.self.invariant.3 c.self.invariant.4 c.in-Some.ensures.1 c.in-Some.ensures.3

pub returns-clause-slots : goal.returns-clause-slots
returns-clause-slots g c =
    let within = keyed_within c.self.inside.keys.items c.in-Some.seen.place c.in-Some.ensures.2 in
    let keys : c.remove.new.self.items ≡ remove c.self.inside.keys.items c.in-Some.seen.place =
    when_some c.remove.result _ (c.remove.ensures.variant.1 (omega (arith, within, c.self.inside.keys.ok.0))) c.remove.ensures.items in
    let at = joined_IsAt g.K.PartialEq.eq c.args.key.now c.in-Some.seen.place c.self.inside.keys.items c.self.inside.entries.items c.self.invariant.7
    c.in-Some.ensures.3 in
    rw (← c.self.view_is)
    (ap (λ l. joined l c.remove-2.new.self.items) keys
    ∙ ap (λ l. joined (remove c.self.inside.keys.items c.in-Some.seen.place) l) c.in-Some-remove.ensures.items
    ∙ joined_remove c.self.inside.keys.items c.self.inside.entries.items c.in-Some.seen.place
    ∙ sym (without-IsAt g.K.PartialEq.eq c.args.key.now c.in-Some.seen.place _ at))

pub returns-clause-value : goal.returns-clause-value
returns-clause-value g c =
    rw (← c.self.view_is) (sym (joined_value g.K.PartialEq.eq c.args.key.now c.in-Some.seen.place c.self.inside.keys.items c.self.inside.entries.items
    c.in-Some-remove.entry c.self.invariant.7 c.in-Some.ensures.3 c.in-Some-remove.ensures.value))

pub invariant_of-self : goal.invariant_of-self
invariant_of-self g c =
    let keys : List (Slot _ _) = keyed c.self.inside.keys.items in
    let places : List ℕ = c.self.inside.places.0 in
    let within = keyed_within c.self.inside.keys.items c.in-Some.seen.place c.in-Some.ensures.2 in
    let is_some = c.remove.ensures.variant.1 (omega (arith, within, c.self.inside.keys.ok.0)) in
    let rest : c.remove.new.self.items ≡ remove c.self.inside.keys.items c.in-Some.seen.place =
    when_some c.remove.result _ is_some c.remove.ensures.items in
    let len = when_some c.remove.result _ is_some c.remove.ensures.len in
    let items = ap keyed rest ∙ keyed_remove c.self.inside.keys.items c.in-Some.seen.place in
    let distinct = without-IsAt g.K.PartialEq.eq c.args.key.now c.in-Some.seen.place keys c.in-Some.ensures.3 ∙ sym items in (
      omega (arith, c.remove.ensures.capacity, c.self.invariant.0),
      omega (arith, c.take-is_closed.ensures.room, c.self.invariant.1),
      omega (arith, len, c.self.invariant.2),
      subst (λ (l : List (Slot _ _)). IsDistinct g.K.PartialEq.eq l) distinct
          (IsDistinct-without g.K.PartialEq.eq c.args.key.now keys c.self.invariant.3),
      subst (λ (l : List (Slot _ _)). IsIndex g.K.Ord.cmp c.take-is_closed.new.self.0 l) (sym items)
          (subst (λ (l : List ℕ). IsIndex g.K.Ord.cmp l (remove keys c.in-Some.seen.place)) (sym c.take-is_closed.ensures.places)
          (index_remove _ _ g.K.Ord.cmp g.met.K.Ord.total g.K.PartialEq.eq g.met.K.Ord.matches_eq
          c.args.key.now keys places (rank_at c.self.inside.places.2 c.in-Some.seen.spot.block c.in-Some.seen.spot.at) c.in-Some.seen.place
          c.self.invariant.3 c.self.invariant.4 c.in-Some.ensures.1 c.in-Some.ensures.3)),
      c.self.invariant.5,
      omega (arith, c.remove-2.ensures.capacity, c.self.invariant.6),
      omega (arith, len, c.in-Some-remove.ensures.len, c.self.invariant.7),
    )
