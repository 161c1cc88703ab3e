use Rattle.bac_npdu.proofs.Datagrams.{routed_on}
use Rattle.bac_npdu.proofs.laws.routed_frame_means_nothing.Goals as goal

pub returns : goal.returns
returns c = routed_on
