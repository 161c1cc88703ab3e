use Rattle.bac_npdu.proofs.Datagrams.{bvll_one}
use Rattle.bac_npdu.proofs.laws.one_bvll_spelling.Goals as goal

pub returns : goal.returns
returns c = bvll_one
