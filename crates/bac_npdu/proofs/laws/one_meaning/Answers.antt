use Rattle.bac_npdu.proofs.Datagrams.{carries_one}
use Rattle.bac_npdu.proofs.laws.one_meaning.Goals as goal

pub returns : goal.returns
returns c = carries_one
