-- The number there encodes the place.
use Rattle.bac_slots.specs.Indexes.{rank_at}
use Rattle.bac_slots.proofs.Numbers.{from_at, place_at}
use Rattle.bac_slots.proofs.places.Places.at_spot.Goals as goal

pub overflow_sub-result : goal.overflow_sub-result
overflow_sub-result c =
    let i = c.self.inside in
    from_at i.gone i.numbers.0 (rank_at i.numbers.2 c.args.spot.block c.args.spot.at) c.at.result c.self.invariant.1 c.at.ensures

pub returns : goal.returns
returns c =
    let i = c.self.inside in
    rw (← c.self.view_is) (place_at i.gone i.numbers.0 (rank_at i.numbers.2 c.args.spot.block c.args.spot.at) c.at.result c.at.ensures)
