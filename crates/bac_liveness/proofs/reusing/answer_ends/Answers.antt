-- An answer that comes late ends its ticket.
use Rattle.bac_liveness.proofs.FreshNodes.{answer_ends_so}
use Rattle.bac_liveness.proofs.reusing.answer_ends.Goals as goal

pub returns : goal.returns
returns c = λ reuse now peer a old new o gets from apart number t there late. answer_ends_so reuse now peer a old new o gets from apart number t there late
