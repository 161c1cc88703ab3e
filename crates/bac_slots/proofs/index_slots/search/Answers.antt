-- The n-th key of the index is less, equal or greater.
use Rattle.std.proofs.Common.{◌≡◌, ◌+◌, ◌-◌, ◌/◌, ◌<◌, ◌≤◌, ℕ, length, ◌∙◌, sym, subst, arith}
use Rattle.bac_slots.specs.Slots.{in_order}
use Rattle.bac_slots.specs.Indexes.{bare, keyed, AllAbove}
use Rattle.bac_slots.proofs.Indexes.{index_length, index_at, index_within, above_end, below_more, above_more, not_found, found_is}
use Rattle.bac_slots.proofs.Indexes.{few_first, few_above, few_below, few_found, few_left}
use Rattle.bac_slots.proofs.Joined.{keyed_length}
use Rattle.bac_slots.proofs.index_slots.search.Goals as goal

pub loop-first-init : goal.loop-first-init
loop-first-init g c =
    let long : c.len-end.result ≡ length c.args.places.now.0 = c.len-end.ensures in
    record {
      ordered = omega arith;
      within = omega (arith, long);
      below = λ k s l f. absurd (omega arith);
      above = λ k s l f. above_end _ _ g.K.Ord.cmp g.met.K.Ord.total g.K.PartialEq.eq g.met.K.Ord.matches_eq c.args.key.now (keyed c.args.keys.now.items)
          c.args.places.now.0 c.requires.index k s (omega (arith, l, long)) f;
      counted = omega arith;
      few = few_first c.args.count.now.comparisons c.len-end.result (length c.args.places.now.0) long;
    }

pub nth-requires-clause-within : goal.nth-requires-clause-within
nth-requires-clause-within g c = omega (arith, c.loop-first-test.true, c.loop-first.invariant.within)

pub loop-first-preserved-in-Less : goal.loop-first-preserved-in-Less
loop-first-preserved-in-Less g c =
    let i = c.loop-first.invariant in
    let counted = c.compare.ensures.counted in
    record {
      ordered = omega (arith, c.loop-first-test.true);
      within = i.within;
      below = below_more _ _ g.K.Ord.cmp g.met.K.Ord.total g.K.PartialEq.eq g.met.K.Ord.matches_eq c.args.key.now (keyed c.args.keys.now.items) _
          (bare c.nth.result.now)
          c.requires.distinct c.nth.ensures (sym c.compare.ensures.value ∙ c.in-Less.is);
      above = i.above;
      counted = omega (arith, i.counted, counted);
      few = few_above c.loop-first.count.comparisons c.compare.new.count.comparisons c.loop-first.first c.loop-first.end c.args.count.now.comparisons
          (length c.args.places.now.0) c.loop-first-test.true (omega (arith, counted)) i.few;
    }

pub at-requires : goal.at-requires
at-requires g c = omega (arith, c.loop-first-test.true, c.loop-first.invariant.within)

pub returns-in-Equal-clause-place : goal.returns-in-Equal-clause-place
returns-in-Equal-clause-place g c =
    let n : ℕ = c.loop-first.first + (c.loop-first.end - c.loop-first.first) / 2 in
    let within : n < length c.args.places.now.0 = omega (arith, c.loop-first-test.true, c.loop-first.invariant.within) in
    let here = sym (index_at _ _ g.K.Ord.cmp g.met.K.Ord.total g.K.PartialEq.eq g.met.K.Ord.matches_eq
    (keyed c.args.keys.now.items) c.args.places.now.0 n c.at.result c.requires.index c.at.ensures)
    ∙ c.nth.ensures in
    let found = found_is _ _ g.K.Ord.cmp g.met.K.Ord.total g.K.PartialEq.eq g.met.K.Ord.matches_eq
    c.args.key.now (keyed c.args.keys.now.items) n c.at.result (bare c.nth.result.now)
    c.requires.distinct c.nth.ensures here (sym c.compare.ensures.value ∙ c.in-Equal.is) in
    let long = index_length _ _ g.K.Ord.cmp g.met.K.Ord.total g.K.PartialEq.eq g.met.K.Ord.matches_eq
    (keyed c.args.keys.now.items) c.args.places.now.0 c.requires.index in
    let inside = index_within _ _ g.K.Ord.cmp g.met.K.Ord.total g.K.PartialEq.eq g.met.K.Ord.matches_eq
    (keyed c.args.keys.now.items) c.args.places.now.0 n c.at.result c.requires.index c.at.ensures in
    (found.0, omega (arith, within, long), inside, found.1)

pub returns-in-Equal-clause-few : goal.returns-in-Equal-clause-few
returns-in-Equal-clause-few g c =
    let long = index_length _ _ g.K.Ord.cmp g.met.K.Ord.total g.K.PartialEq.eq g.met.K.Ord.matches_eq
    (keyed c.args.keys.now.items) c.args.places.now.0 c.requires.index in
    few_found c.loop-first.count.comparisons c.compare.new.count.comparisons c.loop-first.first c.loop-first.end c.args.count.now.comparisons
    (length c.args.places.now.0) (length c.args.keys.now.items) c.loop-first-test.true (omega (arith, c.compare.ensures.counted))
    c.loop-first.invariant.few (long ∙ keyed_length c.args.keys.now.items)

pub loop-first-preserved : goal.loop-first-preserved
loop-first-preserved g c =
    let i = c.loop-first.invariant in
    let counted = c.compare.ensures.counted in
    record {
      ordered = omega arith;
      within = omega (arith, c.loop-first-test.true, i.within);
      below = i.below;
      above = above_more _ _ g.K.Ord.cmp g.met.K.Ord.total g.K.PartialEq.eq g.met.K.Ord.matches_eq c.args.key.now (keyed c.args.keys.now.items) _
          (bare c.nth.result.now)
          c.requires.distinct c.nth.ensures (sym c.compare.ensures.value ∙ c.in-Greater.is);
      counted = omega (arith, i.counted, counted);
      few = few_below c.loop-first.count.comparisons c.compare.new.count.comparisons c.loop-first.first c.loop-first.end c.args.count.now.comparisons
          (length c.args.places.now.0) c.loop-first-test.true (omega (arith, counted)) i.few;
    }

pub returns-clause-place : goal.returns-clause-place
returns-clause-place g c =
    let i = c.loop-first.invariant in
    let long = index_length _ _ g.K.Ord.cmp g.met.K.Ord.total g.K.PartialEq.eq g.met.K.Ord.matches_eq
    (keyed c.args.keys.now.items) c.args.places.now.0 c.requires.index in
    let met : c.loop-first.end ≡ c.loop-first.first = omega (arith, c.loop-first-test.false, i.ordered) in
    let within : c.loop-first.first ≤ length (keyed c.args.keys.now.items) = omega (arith, met, i.within, long) in
    let gone = not_found _ _ g.K.Ord.cmp g.met.K.Ord.total g.K.PartialEq.eq g.met.K.Ord.matches_eq
    c.args.key.now (keyed c.args.keys.now.items) c.loop-first.first c.requires.distinct within i.below
    (subst (λ n. AllAbove g.K.Ord.cmp c.args.key.now n (in_order g.K.Ord.cmp (keyed c.args.keys.now.items))) met i.above) in
    (gone.0, within, gone.1)

pub returns-clause-few : goal.returns-clause-few
returns-clause-few g c =
    let long = index_length _ _ g.K.Ord.cmp g.met.K.Ord.total g.K.PartialEq.eq g.met.K.Ord.matches_eq
    (keyed c.args.keys.now.items) c.args.places.now.0 c.requires.index in
    few_left c.loop-first.count.comparisons (c.loop-first.end - c.loop-first.first) c.args.count.now.comparisons (length c.args.places.now.0)
    (length c.args.keys.now.items) c.loop-first.invariant.few (long ∙ keyed_length c.args.keys.now.items)
