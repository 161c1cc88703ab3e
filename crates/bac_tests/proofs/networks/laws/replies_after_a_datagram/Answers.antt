-- The law of retries, of keys that are apart.
use Rattle.bac_tests.proofs.networks.laws.replies_after_a_datagram.Goals as goal

pub returns : goal.returns
returns c =
    λ now from octets new o went key next transfer is.
    c.retries_fall.ensures.on now from octets c.args.node.now new o went c.keys_are_apart.ensures key next transfer is
