-- Which nodes of a world let clients use an invoke ID again as soon as its transaction is over.
use Rattle.std.specs.Prelude.{Bool, false, List, Option, Some, None, slice_get}
use Rattle.bac_world.specs.ReusingLogs.{Reuses}

-- it is so where that is said
abbrev pub is_so : Option Bool → Bool
is_so None = false
is_so (Some said) = said

-- those do so of which the list says it; a node after its end does not
abbrev pub reuses_by : List Bool → Reuses
reuses_by said node = is_so (slice_get said node)
