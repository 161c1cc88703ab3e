-- The index names a key there.
use Rattle.std.proofs.Common.{◌∙◌, arith}
use Rattle.bac_slots.specs.Indexes.{keyed, rank_at}
use Rattle.bac_slots.proofs.Indexes.{index_at, index_within}
use Rattle.bac_slots.proofs.Joined.{keyed_read, keyed_within}
use Rattle.bac_slots.proofs.index_slots.key_at.Goals as goal

pub index-requires : goal.index-requires
index-requires g c =
    let within = index_within _ _ g.K.Ord.cmp g.met.K.Ord.total g.K.PartialEq.eq g.met.K.Ord.matches_eq (keyed c.args.keys.now.items) c.args.places.now.0
    (rank_at c.args.places.now.2 c.args.spot.block c.args.spot.at) c.at_spot.result c.requires.index c.at_spot.ensures in
    let inside = keyed_within c.args.keys.now.items c.at_spot.result within in
    omega (arith, inside, c.args.keys.now.ok.0)

pub returns : goal.returns
returns g c =
    let within = index_within _ _ g.K.Ord.cmp g.met.K.Ord.total g.K.PartialEq.eq g.met.K.Ord.matches_eq (keyed c.args.keys.now.items) c.args.places.now.0
    (rank_at c.args.places.now.2 c.args.spot.block c.args.spot.at) c.at_spot.result c.requires.index c.at_spot.ensures in
    index_at _ _ g.K.Ord.cmp g.met.K.Ord.total g.K.PartialEq.eq g.met.K.Ord.matches_eq (keyed c.args.keys.now.items) c.args.places.now.0
    (rank_at c.args.places.now.2 c.args.spot.block c.args.spot.at) c.at_spot.result c.requires.index c.at_spot.ensures
    ∙ keyed_read c.args.keys.now.items c.at_spot.result c.index.result.now within c.index.ensures
