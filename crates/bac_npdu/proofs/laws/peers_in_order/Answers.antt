use Rattle.bac_npdu.specs.Peers.{peer_cmp_total}
use Rattle.bac_npdu.proofs.PeerOrder.{peers_equal}
use Rattle.bac_npdu.proofs.laws.peers_in_order.Goals as goal

pub returns-clause-total : goal.returns-clause-total
returns-clause-total c = peer_cmp_total

pub returns-clause-exact : goal.returns-clause-exact
returns-clause-exact c = peers_equal
