-- An answer that comes late ends its ticket.
use Rattle.bac_liveness.proofs.AtNode.{answer_ends}
use Rattle.bac_liveness.proofs.node.answer_ends.Goals as goal

pub returns : goal.returns
returns c = λ now peer a old new o gets from apart number t there late. answer_ends now peer a old new o gets from apart number t there late
