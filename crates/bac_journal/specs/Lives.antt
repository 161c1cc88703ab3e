-- What nodes did so far, as a world sees it.
use Rattle.std.specs.Prelude.{ℕ, false, List, Option, Some, None, slice_get}
use Rattle.bac_protocol.specs.Service.{Octets}
use Rattle.bac_world.specs.World as world
use Rattle.bac_world.specs.World.{untouched}
use Rattle.bac_journal.specs.declared.lives.Life.{Life}

-- a node that there is not did nothing
abbrev pub life_of : Option Life → world.Life
life_of None = untouched
life_of (Some l) = record { active = l.active; sends_until = l.sends_until }

abbrev pub lives_at : List Life → ℕ → world.Life
lives_at lives node = life_of (slice_get lives node)

-- nothing happened at the node with that link
abbrev pub fresh_life : Octets → Life
fresh_life link = record { active = false; sends_until = 0 }
