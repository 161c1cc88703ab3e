-- As many places are before the spot.
use Rattle.std.proofs.Common.{◌∙◌, sym}
use Rattle.bac_slots.proofs.InBlocks.{within_held}
use Rattle.bac_slots.proofs.Joined.{joined_rank}
use Rattle.bac_slots.proofs.index_slots.IndexSlotsSlotTable.rank.Goals as goal

pub rank-requires : goal.rank-requires
rank-requires g c = within_held c.self.inside.places.2 c.in-Ok.seen.spot.block c.in-Ok.seen.spot.at c.in-Ok.ensures.0

pub returns-in-Ok : goal.returns-in-Ok
returns-in-Ok g c =
    let same = joined_rank _ _ g.K.Ord.cmp g.met.K.Ord.total g.K.PartialEq.eq g.met.K.Ord.matches_eq c.args.key.now c.self.inside.keys.items
    c.self.inside.entries.items c.self.invariant.7 in
    rw (← c.self.view_is) (c.rank.ensures ∙ c.in-Ok.ensures.1 ∙ sym same)

pub returns-in-Err : goal.returns-in-Err
returns-in-Err g c =
    let same = joined_rank _ _ g.K.Ord.cmp g.met.K.Ord.total g.K.PartialEq.eq g.met.K.Ord.matches_eq c.args.key.now c.self.inside.keys.items
    c.self.inside.entries.items c.self.invariant.7 in
    rw (← c.self.view_is) (c.rank-in-Err.ensures ∙ c.in-Err.ensures.1 ∙ sym same)
