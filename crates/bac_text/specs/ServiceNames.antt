-- The names of services and of messages of the network layer: the tables in code.
use Rattle.std.specs.Prelude.{List, map}
use Rattle.bac_value_text.specs.Names.{Row}
use Rattle.bac_text.specs.declared.service_names.TheConstants as code

unfoldable pub CONFIRMED_SERVICES : List Row
CONFIRMED_SERVICES = map (λ r. (r.0.now, r.1)) code.CONFIRMED.now

unfoldable pub UNCONFIRMED_SERVICES : List Row
UNCONFIRMED_SERVICES = map (λ r. (r.0.now, r.1)) code.UNCONFIRMED.now

unfoldable pub NETWORK_MESSAGES : List Row
NETWORK_MESSAGES = map (λ r. (r.0.now, r.1)) code.MESSAGES.now
