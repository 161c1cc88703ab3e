-- One more slot, and its place in the index.
use Rattle.std.proofs.Common.{◌≡◌, ◌∷◌, [], ◌++◌, ◌∙◌, ◌<◌, refl, ap, sym, subst, ℕ, List, arith, length, length-append}
use Rattle.std.specs.List.{insert}
use Rattle.bac_slots.specs.declared.slot.Slot.{Slot}
use Rattle.bac_slots.specs.Slots.{rank, IsDistinct}
use Rattle.bac_slots.specs.Indexes.{bare, joined, keyed, IsIndex}
use Rattle.bac_slots.proofs.Slots.{IsDistinct-push}
use Rattle.bac_slots.proofs.Indexes.{index_length, index_put}
use Rattle.bac_slots.proofs.Joined.{joined_length, joined_put, keyed_absent, keyed_length, keyed_put}
use Rattle.bac_slots.proofs.index_slots.IndexSlotsSlotTable.put.Goals as goal

pub returns-then-len-self : goal.returns-then-len-self
returns-then-len-self g c =
    let long = joined_length c.self.inside.keys.items c.self.inside.entries.items c.self.invariant.7 in
    let full : length (joined c.self.inside.keys.items c.self.inside.entries.items) ≡ c.self.inside.capacity =
    omega (arith, long, c.if-len-self.true, c.len-len.ensures, c.self.inside.keys.ok.0, c.self.invariant.2) in
    record { slots = (refl, rw (← c.self.view_is) full, refl); same = refl }

pub insert-change-requires-clause-room : goal.insert-change-requires-clause-room
insert-change-requires-clause-room g c =
    let places = index_length _ _ g.K.Ord.cmp g.met.K.Ord.total g.K.PartialEq.eq g.met.K.Ord.matches_eq
    (keyed c.self.inside.keys.items) c.self.inside.places.0 c.self.invariant.4 in
    let long = keyed_length c.self.inside.keys.items in
    omega (arith, places, long, c.self.invariant.1, c.if-len-self.false, c.len-len.ensures, c.self.inside.keys.ok.0)

pub insert-change-requires-clause-small : goal.insert-change-requires-clause-small
insert-change-requires-clause-small g c =
    omega (arith, c.self.invariant.5, c.if-len-self.false, c.len-len.ensures)

pub returns : goal.returns
returns g c =
    let long = joined_length c.self.inside.keys.items c.self.inside.entries.items c.self.invariant.7 in
    let room : length (joined c.self.inside.keys.items c.self.inside.entries.items) < c.self.inside.capacity =
    omega (arith, long, c.if-len-self.false, c.len-len.ensures, c.self.inside.keys.ok.0) in
    let more = joined_put c.self.inside.keys.items c.self.inside.entries.items c.args.key (record { begin = c.args.begin; value = c.args.value })
    c.self.invariant.7 in
    let items = ap (λ l. joined l c.push_back_reserved-2.new.self.items) c.push_back_reserved.ensures.items
    ∙ ap (λ l. joined (c.self.inside.keys.items ++ c.args.key ∷ []) l) c.push_back_reserved-2.ensures.items ∙ more in
    record { slots = (rw (← c.self.view_is) room, rw (← c.self.view_is) items); same = rw (← c.self.view_is) refl }

pub invariant_of-self : goal.invariant_of-self
invariant_of-self g c =
    let x : Slot _ _ = bare c.args.key in
    let keys : List (Slot _ _) = keyed c.self.inside.keys.items in
    let places : List ℕ = c.self.inside.places.0 in
    let items = ap keyed c.push_back_reserved.ensures.items ∙ keyed_put c.self.inside.keys.items c.args.key in
    let more = ap length c.push_back_reserved.ensures.items ∙ length-append c.self.inside.keys.items (c.args.key ∷ []) in
    let more_entries = ap length c.push_back_reserved-2.ensures.items ∙ length-append c.self.inside.entries.items _ in
    let absent = keyed_absent g.K.PartialEq.eq c.args.key c.self.inside.keys.items c.self.inside.entries.items c.self.invariant.7
    (rw (← c.self.view_is) at c.requires) in
    let all = keyed_length c.self.inside.keys.items in
    let long : c.len-len.result ≡ length keys = omega (arith, c.len-len.ensures, c.self.inside.keys.ok.0, all) in
    let named : c.insert-change.new.self.0 ≡ insert places (rank g.K.Ord.cmp c.args.key keys) (length keys) =
    c.insert-change.ensures.places ∙ ap (λ n. insert places n c.len-len.result) c.spot_near-spot.ensures.rank
    ∙ ap (λ n. insert places (rank g.K.Ord.cmp c.args.key keys) n) long in (
      omega (arith, c.push_back_reserved.ensures.capacity, c.self.invariant.0),
      omega (arith, c.insert-change.ensures.room, c.self.invariant.1),
      omega (arith, more, c.if-len-self.false, c.len-len.ensures, c.self.inside.keys.ok.0),
      subst (λ (l : List (Slot _ _)). IsDistinct g.K.PartialEq.eq l) (sym items) (IsDistinct-push g.K.PartialEq.eq keys x c.self.invariant.3 absent),
      subst (λ (l : List (Slot _ _)). IsIndex g.K.Ord.cmp c.insert-change.new.self.0 l) (sym items)
          (subst (λ (l : List ℕ). IsIndex g.K.Ord.cmp l (keys ++ x ∷ [])) (sym named)
          (index_put _ _ g.K.Ord.cmp g.met.K.Ord.total g.K.PartialEq.eq g.met.K.Ord.matches_eq x keys places
          c.self.invariant.3 absent c.self.invariant.4)),
      c.self.invariant.5,
      omega (arith, c.push_back_reserved-2.ensures.capacity, c.self.invariant.6),
      omega (arith, more, more_entries, c.self.invariant.7),
    )
