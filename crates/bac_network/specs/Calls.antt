-- What calls of a network in code make of it, as a world.
use Rattle.std.specs.Prelude.{◌≡◌, ◌+◌, ◌≤◌, ℕ, Bool, true, List, Option, None, Some, length, slice_get, vec_capacity}
use Rattle.bac_protocol.specs.Service.{Octets}
use Rattle.bac_store.specs.AtNode.{Change, change_fault}
use Rattle.bac_store.specs.Stores.{Store}
use Rattle.bac_world.specs.Node.{Node}
use Rattle.bac_world.specs.ReusingWorlds.{HearsOutsideSo}
use Rattle.bac_world.specs.World.{IsBegunAgain, IsOfNone, IsRestarted, is_quiet}
use Rattle.bac_network.specs.Networks.{restart_in, world_of}
use Rattle.bac_network.specs.Rules.{reuses_by}
use Rattle.bac_network.specs.declared.network.Network.{Network}

-- the log has room for one more fact
abbrev pub HasLogRoom : Network → Type 0
HasLogRoom n = length n.log.items + 1 ≤ vec_capacity n.log

-- a node restarted now, with that store or with the one that it had
abbrev pub RestartsNow : (old : Network) → (node : ℕ) → Option Store → (new : Network) → Type 0
RestartsNow old node store new = IsRestarted (world_of old) node (restart_in old) store (world_of new)

-- all is over that the node's client sent
abbrev pub IsQuiet : Network → (node : ℕ) → Type 0
IsQuiet n node = is_quiet (world_of n) node ≡ true

-- another program began at the node's link now
abbrev pub BeginsAgain : (old : Network) → (node first_id : ℕ) → Option Store → (new : Network) → Type 0
BeginsAgain old node first_id store new = IsBegunAgain (world_of old) node (restart_in old) first_id store (world_of new)

-- the change has no fault for the store of that node
abbrev pub MayChange : List Node → (node : ℕ) → Change → Type 0
MayChange nodes node c = (a : Node) → slice_get nodes node ≡ Some a → change_fault a.store c ≡ None

-- a node heard octets of a stranger, where the nodes have these rules
abbrev pub HearsStray : (reuses : List Bool) → (old : Network) → (node : ℕ) → (from octets : Octets) → (new : Network) → Type 0
HearsStray reuses old node from octets new =
    HearsOutsideSo (IsOfNone old.nodes.items from) (reuses_by reuses) (world_of old) node from octets (world_of new)
