use Rattle.bac_service.proofs.Wholes.{one_complex_spelling, one_complex}
use Rattle.bac_service.proofs.laws.one_reply_spelling.Goals as goal

pub returns : goal.returns
returns c = record { only = one_complex_spelling; apart = one_complex }
