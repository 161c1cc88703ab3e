-- What stands before the slash is no address.
use Rattle.std.proofs.Common.{List, ℕ, sym, subst}
use Rattle.std.specs.Net.Grammar.{IsIpv4Text}
use Rattle.bac_guard.proofs.sources_reading.read_block.Goals as goal

pub returns-in_default-clause-flaw : goal.returns-in_default-clause-flaw
returns-in_default-clause-flaw c =
    λ number h. c.in_default.ensures.value h.0
    (subst (λ (t : List ℕ). IsIpv4Text t h.0) (sym c.address_and_bits-bits.ensures.address) h.1)
