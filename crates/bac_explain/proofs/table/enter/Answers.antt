-- The key is absent at this point.
use Rattle.bac_explain.proofs.Seen.{seen_none}
use Rattle.bac_explain.proofs.table.enter.Goals as goal

pub put-requires : goal.put-requires
put-requires c = seen_none c.args.key c.make_room-closed.new.table.0 c.make_room-closed.ensures.absent
