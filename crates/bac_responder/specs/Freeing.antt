-- When slots of the reply table get free.
use Rattle.std.specs.Prelude.{ℕ, ◌+◌, min}
use Rattle.bac_protocol.specs.Server.{ServerTransaction}
use Rattle.bac_responder.specs.Timers.{LAST_MOMENT}

-- the first moment at which an entry is not live, after 65,000 ms; the last moment of all where that is not before it
abbrev pub dies : ServerTransaction → ℕ
dies e = min (e.begin + 65001) LAST_MOMENT
