-- What a node makes of a datagram by its rules.
use Rattle.bac_node.proofs.Rules.{fresh_is_so, hears_as_in_worlds, strict_is_on}
use Rattle.bac_node.proofs.law.hears_by_rules.Goals as goal

pub returns-clause-strict : goal.returns-clause-strict
returns-clause-strict c = λ now from octets old new o. strict_is_on now from octets old new o

pub returns-clause-fresh : goal.returns-clause-fresh
returns-clause-fresh c = λ share now from octets old new o. fresh_is_so share now from octets old new o

pub returns-clause-worlds : goal.returns-clause-worlds
returns-clause-worlds c = λ reuse rules set now from octets old new o. hears_as_in_worlds reuse rules set now from octets old new o
