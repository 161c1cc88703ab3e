-- The pieces of the window, one by one.
use Rattle.bac_segment.proofs.Cut.{map-piece_at}
use Rattle.bac_segment.proofs.outgoing.Outgoing.window.Goals as goal

pub returns-clause-pieces : goal.returns-clause-pieces
returns-clause-pieces c = rw (← c.self.view_is) (map-piece_at _ _ _)
