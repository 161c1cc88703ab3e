-- The first slot with a key, by a scan.
use Rattle.bac_slots.proofs.Slots.{place_of}
use Rattle.bac_slots.proofs.plain_slots.place.Goals as goal

pub returns : goal.returns
returns g c = place_of g.K.PartialEq.eq c.args.key.now c.args.slots.now.items _ c.position_of-at.ensures
