-- Both halves are in proofs/Unique.
use Rattle.bac_segment.proofs.Unique.{pieces_are}
use Rattle.bac_segment.proofs.laws.pieces_are_unique.Goals as goal

pub returns-clause-are : goal.returns-clause-are
returns-clause-are c = pieces_are
