-- The spot of a place is within its block.
use Rattle.bac_slots.proofs.InBlocks.{within_held}
use Rattle.bac_slots.proofs.index_slots.spot_near.Goals as goal

pub returns-in-Ok-clause-within : goal.returns-in-Ok-clause-within
returns-in-Ok-clause-within g c = within_held c.args.places.now.2 c.in-Ok.seen.spot.block c.in-Ok.seen.spot.at c.in-Ok.ensures.0
