use Rattle.bac_npdu.proofs.Datagrams.{npdu_one}
use Rattle.bac_npdu.proofs.laws.one_npdu_spelling.Goals as goal

pub returns : goal.returns
returns c = npdu_one
