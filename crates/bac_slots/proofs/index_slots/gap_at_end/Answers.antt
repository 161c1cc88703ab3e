-- No key is behind the spot.
use Rattle.std.proofs.Common.{◌≤◌, length, arith}
use Rattle.bac_slots.specs.Indexes.{keyed, rank_at}
use Rattle.bac_slots.proofs.Indexes.{index_length, above_end, not_found}
use Rattle.bac_slots.proofs.index_slots.gap_at_end.Goals as goal

pub returns : goal.returns
returns g c =
    let n = rank_at c.args.places.now.2 c.args.spot.block c.args.spot.at in
    let long = index_length _ _ g.K.Ord.cmp g.met.K.Ord.total g.K.PartialEq.eq g.met.K.Ord.matches_eq
    (keyed c.args.keys.now.items) c.args.places.now.0 c.requires.index in
    let end = c.is_end.ensures c.if-not-is_end.false in
    let within : n ≤ length (keyed c.args.keys.now.items) = omega (arith, long, end) in
    let gone = not_found _ _ g.K.Ord.cmp g.met.K.Ord.total g.K.PartialEq.eq g.met.K.Ord.matches_eq
    c.args.key.now (keyed c.args.keys.now.items) n c.requires.distinct within (c.is_above.ensures c.if-not-is_above.false)
    (λ k s l e. above_end _ _ g.K.Ord.cmp g.met.K.Ord.total g.K.PartialEq.eq g.met.K.Ord.matches_eq
    c.args.key.now (keyed c.args.keys.now.items) c.args.places.now.0 c.requires.index k s (omega (arith, l, end)) e) in
    (c.requires.within, gone.0, gone.1)
