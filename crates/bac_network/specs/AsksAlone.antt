-- Logs that have what nodes asked of nodes, what was performed and how it ended, and nothing else.
use Rattle.std.specs.Prelude.{◌≡◌, List, [], ◌∷◌}
use Rattle.bac_world.specs.Once.{AreSame, Fact, IsUnended, MayEnd, MayPerform, Stores, asks_in}
use Rattle.bac_world.specs.Once.Fact.{Asked, Performed, Ended}
use Rattle.bac_world.specs.World.{stores_of}
use Rattle.bac_network.specs.Histories.{WorldView, opening_stores}

-- the log has no other fact: no change, no restart, and nothing of strangers
abbrev pub HasAsksAlone : List Fact → Type 0
HasAsksAlone [] = Unit {0}
HasAsksAlone (Asked n c s r ∷ log) = HasAsksAlone log
HasAsksAlone (Performed n r p ∷ log) = HasAsksAlone log
HasAsksAlone (Ended n how ∷ log) = HasAsksAlone log
HasAsksAlone (f ∷ log) = ⊥

-- what each of them requires of those before it, and how the stores change with it; no other fact may enter
abbrev pub MayEnterOfAsks : Fact → List Fact → (old new : Stores) → Type 0
MayEnterOfAsks (Asked n c s r) log old new = (n ≡ asks_in log) × AreSame old new
MayEnterOfAsks (Performed n r p) log old new = MayPerform n r p log old new
MayEnterOfAsks (Ended n how) log old new = MayEnd n how log × IsUnended n log × AreSame old new
MayEnterOfAsks f log old new = ⊥

-- every accepted ask takes effect at most once, and exactly once where a service answer reached its client; the request performed and the answer are its own,
-- whole; and each server's store is its opening store after the performed requests of nodes in their order
abbrev pub IsOnceOfAsks : (opening : Stores) → List Fact → (stores : Stores) → Type 0
IsOnceOfAsks opening [] stores = AreSame opening stores
IsOnceOfAsks opening (f ∷ log) stores = (old : Stores) × MayEnterOfAsks f log old stores × IsOnceOfAsks opening log old

-- so it is in a world
abbrev pub HasAsksAloneNow : WorldView → Type 0
HasAsksAloneNow w = HasAsksAlone w.log

abbrev pub IsOnceOfAsksNow : WorldView → Type 0
IsOnceOfAsksNow w = IsOnceOfAsks (opening_stores w) w.log (stores_of w.nodes)
