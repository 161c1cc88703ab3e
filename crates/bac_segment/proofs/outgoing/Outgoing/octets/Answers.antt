-- The pieces joined are the octets.
use Rattle.std.proofs.Common.{◌∙◌, sym}
use Rattle.bac_segment.proofs.Cut.{join-pieces_of}
use Rattle.bac_segment.proofs.outgoing.Outgoing.octets.Goals as goal

pub returns : goal.returns
returns c = rw (← c.self.view_is) (c.deref.ensures.value ∙ sym (join-pieces_of _ _ c.self.invariant.some))
