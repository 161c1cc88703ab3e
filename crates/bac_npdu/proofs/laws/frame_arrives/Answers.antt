use Rattle.bac_npdu.proofs.Datagrams.{arrives}
use Rattle.bac_npdu.proofs.laws.frame_arrives.Goals as goal

pub returns : goal.returns
returns c = arrives
