-- One of the nodes goes on.
use Rattle.std.specs.Prelude.{◌≡◌, ℕ, ◌≤◌, List, Some, slice_get}
use Rattle.bac_protocol.specs.Service.{Octets}
use Rattle.bac_node.specs.Calls.{ticked}
use Rattle.bac_world.specs.Node.{Node, Outcome, NodeTick}
use Rattle.bac_world.specs.ReusingLogs.{Reuses}
use Rattle.bac_world.specs.ReusingNodes.{NodeHears}
use Rattle.bac_world.specs.ReusingWorlds.{DeliversSo}
use Rattle.bac_world.specs.World.{World, Copy, IsWithNode, link_at}

-- a node goes on so, and all others stay
pub record Goes (old : List Node) (i : ℕ) (how : Node → Node → Type 0) (new : List Node) : Type 0 where
  pub before : Node
  pub after : Node
  pub at : slice_get old i ≡ Some before
  pub goes : how before after
  pub nodes : IsWithNode old i after new

-- that node was told no later moment
abbrev pub IsPunctual : List Node → (i now : ℕ) → Type 0
IsPunctual nodes i now = (a : Node) → slice_get nodes i ≡ Some a → a.latest ≤ now

-- no node was told a later moment than it is now
abbrev pub ArePunctual : List Node → (told : ℕ → ℕ) → Type 0
ArePunctual nodes told = (i : ℕ) → IsPunctual nodes i (told i)

-- a copy goes from a node to a node
pub record IsBetween (nodes : List Node) (c : Copy) : Type 0 where
  pub sender : Node
  pub from : slice_get nodes c.from ≡ Some sender
  pub receiver : Node
  pub to : slice_get nodes c.to ≡ Some receiver

-- a node heard the copy of that number, and what came of it
pub record IsHeardCopy (u : Reuses) (old : List Node) (told : ℕ → ℕ) (copies : List Copy) (number to : ℕ) (o : Outcome) (new : List Node) : Type 0 where
  pub copy : Copy
  pub there : slice_get copies number ≡ Some copy
  pub receiver : to ≡ copy.to
  pub link : Octets
  pub sender : link_at old copy.from ≡ Some link
  pub goes : Goes old copy.to (λ a b. NodeHears (u copy.to) (told copy.to) link copy.octets a b o) new

-- that comes of a node's tick
pub record IsDue (nodes : List Node) (now node : ℕ) (o : Outcome) : Type 0 where
  pub before : Node
  pub at : slice_get nodes node ≡ Some before
  pub due : NodeTick now before (ticked now before) o

-- the copy of that number was delivered
pub record Arrives (u : Reuses) (old : World) (number : ℕ) (new : World) : Type 0 where
  pub copy : Copy
  pub there : slice_get old.copies number ≡ Some copy
  pub delivers : DeliversSo u old copy new
