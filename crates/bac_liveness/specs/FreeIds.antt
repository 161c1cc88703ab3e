-- Invoke IDs that are free.
use Rattle.std.specs.Prelude.{◌≡◌, ℕ, false, Some, None, slice_get}
use Rattle.bac_apdu.specs.Apdu.{Limits}
use Rattle.bac_service.specs.Values.{Request}
use Rattle.bac_protocol.specs.Server.{live_entry}
use Rattle.bac_slots.specs.Slots.{value_at}
use Rattle.bac_transaction.specs.Keys.{same_key}
use Rattle.bac_transaction.specs.Ends.{is_id_taken}
use Rattle.bac_world.specs.Node.{Node}
use Rattle.bac_world.specs.World.{World, IsAsked, told, peer_at}

-- a server has no live entry of that node and invoke ID
abbrev pub HasNoneLive : (now : ℕ) → (server client : Node) → (invoke_id : ℕ) → Type 0
HasNoneLive now server client invoke_id =
    live_entry now (value_at same_key (record { peer = peer_at client.link; invoke_id = invoke_id }) server.servers.slots) ≡ None

-- where a client does not wait after a restart and holds no slot with an invoke ID for a server, that server has no live entry of it; so the server of an
-- accepted ask has none for it
pub record FreeIdsAreUnused (w : World) : Type 0 where
  pub free : (i j : ℕ) (client server : Node) → slice_get w.nodes i ≡ Some client → slice_get w.nodes j ≡ Some server
      → (invoke_id : ℕ) → is_id_taken (told w i) client.clients (peer_at server.link) invoke_id ≡ false → HasNoneLive (told w j) server client invoke_id
  pub asked : (i j : ℕ) (limits : Limits) (r : Request) (new : World) → (asks : IsAsked w i j limits r new)
      → (server : Node) → slice_get w.nodes j ≡ Some server → HasNoneLive (told w j) server asks.before asks.accepted.invoke_id
