-- The slot behind the spot has the key, or a greater one.
use Rattle.std.proofs.Common.{◌≤◌, ◌∙◌, ℕ, length, sym, subst, arith}
use Rattle.bac_slots.specs.Slots.{in_order}
use Rattle.bac_slots.specs.Indexes.{bare, keyed, rank_at, AllAbove}
use Rattle.bac_slots.proofs.Indexes.{index_length, index_at, index_within, above_more, found_is, not_found}
use Rattle.bac_slots.proofs.index_slots.look_at.Goals as goal

pub returns-in-Equal : goal.returns-in-Equal
returns-in-Equal g c =
    let n = rank_at c.args.places.now.2 c.next-next.result.block c.next-next.result.at in
    let here = sym (index_at _ _ g.K.Ord.cmp g.met.K.Ord.total g.K.PartialEq.eq g.met.K.Ord.matches_eq
    (keyed c.args.keys.now.items) c.args.places.now.0 n c.at_spot.result c.requires.index c.at_spot.ensures)
    ∙ c.key_at.ensures in
    let found = found_is _ _ g.K.Ord.cmp g.met.K.Ord.total g.K.PartialEq.eq g.met.K.Ord.matches_eq
    c.args.key.now (keyed c.args.keys.now.items) n c.at_spot.result (bare c.key_at.result.now)
    c.requires.distinct c.key_at.ensures here (sym c.cmp.ensures ∙ c.in-Equal.is) in
    let inside = index_within _ _ g.K.Ord.cmp g.met.K.Ord.total g.K.PartialEq.eq g.met.K.Ord.matches_eq
    (keyed c.args.keys.now.items) c.args.places.now.0 n c.at_spot.result c.requires.index c.at_spot.ensures in
    (c.holds.ensures c.if-not-holds.false, found.0, inside, found.1)

pub returns-then-is_above : goal.returns-then-is_above
returns-then-is_above g c =
    let n = rank_at c.args.places.now.2 c.args.spot.block c.args.spot.at in
    let long = index_length _ _ g.K.Ord.cmp g.met.K.Ord.total g.K.PartialEq.eq g.met.K.Ord.matches_eq
    (keyed c.args.keys.now.items) c.args.places.now.0 c.requires.index in
    let small = c.has.ensures.small c.if-not-has.false in
    let within : n ≤ length (keyed c.args.keys.now.items) = omega (arith, long, small) in
    let gone = not_found _ _ g.K.Ord.cmp g.met.K.Ord.total g.K.PartialEq.eq g.met.K.Ord.matches_eq
    c.args.key.now (keyed c.args.keys.now.items) n c.requires.distinct within (c.is_above.ensures c.if-is_above.true)
    (subst (λ (m : ℕ). AllAbove g.K.Ord.cmp c.args.key.now m (in_order g.K.Ord.cmp (keyed c.args.keys.now.items))) c.next-next.ensures
    (above_more _ _ g.K.Ord.cmp g.met.K.Ord.total g.K.PartialEq.eq g.met.K.Ord.matches_eq c.args.key.now (keyed c.args.keys.now.items)
    (rank_at c.args.places.now.2 c.next-next.result.block c.next-next.result.at) (bare c.key_at.result.now) c.requires.distinct c.key_at.ensures
    (sym c.cmp.ensures ∙ c.in-Greater.is))) in
    (c.has.ensures.within c.if-not-has.false, gone.0, gone.1)
