-- The keys before the spot are less than the last of them.
use Rattle.std.proofs.Common.{◌≡◌, ◌+◌, ◌-◌, ◌∙◌, ℕ, ap, sym, subst, arith}
use Rattle.std.proofs.lemmas.Bool.Decides.{nat_tests}
use Rattle.bac_slots.specs.Slots.{in_order}
use Rattle.bac_slots.specs.Indexes.{bare, keyed, rank_at, AllBelow}
use Rattle.bac_slots.proofs.Indexes.{below_more}
use Rattle.bac_slots.proofs.InBlocks.{held_last, rank_more}
use Rattle.bac_slots.proofs.index_slots.is_above.Goals as goal

pub returns-then-spot-eq0 : goal.returns-then-spot-eq0
returns-then-spot-eq0 g c = λ t k s l e.
    let block : c.args.spot.block ≡ 0 = grind (arith, nat_tests) in
    let first = ap (λ b. rank_at c.args.places.now.2 b c.args.spot.at) block in
    absurd (omega (arith, l, first, c.if-spot-eq0.true))

pub key_at-requires-clause-held : goal.key_at-requires-clause-held
key_at-requires-clause-held g c =
    held_last c.args.places.now.2 c.args.spot.block c.args.spot.at (omega (arith, c.if-spot-eq0.false)) c.requires.within

pub returns-in-Less : goal.returns-in-Less
returns-in-Less g c = λ t.
    let sizes = c.args.places.now.2 in
    let next : c.args.spot.at - 1 + 1 ≡ c.args.spot.at = omega (arith, c.if-spot-eq0.false) in
    let more : rank_at sizes c.args.spot.block (c.args.spot.at - 1) + 1 ≡ rank_at sizes c.args.spot.block c.args.spot.at =
    sym (rank_more sizes c.args.spot.block (c.args.spot.at - 1) 1) ∙ ap (λ m. rank_at sizes c.args.spot.block m) next in
    subst (λ (n : ℕ). AllBelow g.K.Ord.cmp c.args.key.now n (in_order g.K.Ord.cmp (keyed c.args.keys.now.items))) more
    (below_more _ _ g.K.Ord.cmp g.met.K.Ord.total g.K.PartialEq.eq g.met.K.Ord.matches_eq c.args.key.now (keyed c.args.keys.now.items)
    (rank_at sizes c.args.spot.block (c.args.spot.at - 1)) (bare c.key_at.result.now) c.requires.distinct c.key_at.ensures (sym c.cmp.ensures ∙ c.in-Less.is))
