-- The place in key order is a spot, or before one.
use Rattle.std.proofs.Common.{◌∙◌, arith}
use Rattle.bac_slots.specs.Indexes.{keyed}
use Rattle.bac_slots.proofs.Indexes.{index_length}
use Rattle.bac_slots.proofs.index_slots.search_all.Goals as goal

pub spot-requires : goal.spot-requires
spot-requires g c =
    let long = index_length _ _ g.K.Ord.cmp g.met.K.Ord.total g.K.PartialEq.eq g.met.K.Ord.matches_eq
    (keyed c.args.keys.now.items) c.args.places.now.0 c.requires.index in
    omega (arith, long, c.in-Ok.ensures.place.1)

pub returns-in-Ok : goal.returns-in-Ok
returns-in-Ok g c = (c.spot.ensures.held, c.spot.ensures.rank ∙ c.in-Ok.ensures.place.0, c.in-Ok.ensures.place.2, c.in-Ok.ensures.place.3)

pub gap-requires : goal.gap-requires
gap-requires g c =
    let long = index_length _ _ g.K.Ord.cmp g.met.K.Ord.total g.K.PartialEq.eq g.met.K.Ord.matches_eq
    (keyed c.args.keys.now.items) c.args.places.now.0 c.requires.index in
    omega (arith, long, c.in-Err.ensures.place.1)

pub returns-in-Err : goal.returns-in-Err
returns-in-Err g c = (c.gap.ensures.within, c.gap.ensures.rank ∙ c.in-Err.ensures.place.0, c.in-Err.ensures.place.2)
