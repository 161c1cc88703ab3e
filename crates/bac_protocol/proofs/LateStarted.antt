-- The runs with nodes that begin late are computed.
use Rattle.std.proofs.Common.{refl}
use Rattle.bac_protocol.specs.Pace.{most}
use Rattle.bac_protocol.specs.LateStarts.{Late, BegunActive, AfterEnd, AfterAsk, WithServer}

pub late : Late
late = record { client = refl; client_clock = refl; server = refl; server_clock = refl; asked = refl; served = refl }

pub begun_active : BegunActive
begun_active = record { server = refl; client = refl }

pub after_end : AfterEnd
unfolding most
after_end = record { refused = refl; too_soon = refl; begins = refl }

pub after_ask : AfterAsk
unfolding most
after_ask = record { refused = refl; too_soon = refl; begins = refl; clock = refl; left = refl; nothing = refl }

pub with_server : WithServer
unfolding most
with_server = record { unserved = refl; served = refl }
