-- What the tables of a node hold at most.
use Rattle.std.specs.Prelude.{◌≡◌, ℕ, ◌≤◌, count_by, Some, slice_get}
use Rattle.bac_transaction.specs.Ends.{is_slot_held, is_slot_live}
use Rattle.bac_world.specs.Node.{Node}
use Rattle.bac_world.specs.World.{World, told}

-- no more client slots are held, and no more entries live, than there are slots
pub record HasRoom (now : ℕ) (n : Node) : Type 0 where
  pub held : count_by (is_slot_held now) n.clients.slots ≤ n.clients.capacity
  pub live : count_by (is_slot_live now) n.servers.slots ≤ n.servers.capacity

abbrev pub HaveRoom : World → Type 0
HaveRoom w = (i : ℕ) (n : Node) → slice_get w.nodes i ≡ Some n → HasRoom (told w i) n
