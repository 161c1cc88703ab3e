-- The law of repeats, of keys that are apart.
use Rattle.bac_tests.proofs.networks.laws.tickets_after_an_ask.Goals as goal

pub returns : goal.returns
returns c =
    λ now peer limits r new a sends asked key number next is.
    c.repeats_fall.ensures.asks now peer limits r c.args.node.now new a sends asked c.keys_are_apart.ensures key number next is
