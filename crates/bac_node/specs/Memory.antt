-- How many octets of service data the server's end of a node keeps.
use Rattle.std.specs.Prelude.{◌≤◌, ℕ, max, Option, Some, None}
use Rattle.bac_responder.specs.Kept as servers
use Rattle.bac_world.specs.Node.{Node}

-- in its entries, live or not: of requests and replies, and of the segments that are put together, each with four more
abbrev pub kept_octets : Node → ℕ
kept_octets n = servers.kept_octets n.servers.slots

-- it keeps no more octets than before, or no more than that
abbrev pub KeepsWithin : (memory : ℕ) → (old new : Node) → Type 0
KeepsWithin memory old new = kept_octets new ≤ max (kept_octets old) memory

-- so it is where there is a bound
abbrev pub IsWithin : (memory : Option ℕ) → (old new : Node) → Type 0
IsWithin None old new = Unit {0}
IsWithin (Some memory) old new = KeepsWithin memory old new
