-- What an address is sent is bounded.
use Rattle.bac_guard.proofs.Hosts.{host_bounded}
use Rattle.bac_guard.proofs.laws.what_an_address_is_sent_is_bounded.Goals as goal

pub returns : goal.returns
returns c = host_bounded
