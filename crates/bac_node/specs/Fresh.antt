-- Which nodes are made, and what they are then.
use Rattle.std.specs.Prelude.{ℕ, Option, Some, None, Bool, ◌&&◌, [], nat_le}
use Rattle.bac_store.specs.Stores.{Store}
use Rattle.bac_transaction.specs.Ends.{server_restarted}
use Rattle.bac_world.specs.Node.{Node, restarted}
use Rattle.bac_node.specs.Views.{settings_of}
use Rattle.bac_node.specs.declared.config.Config.{Config}

-- a table has 1 to that many slots
abbrev pub slots_within : (most slots : ℕ) → Bool
slots_within most n = nat_le 1 n && nat_le n most

abbrev pub has_slots_within : (most : ℕ) → Config → Bool
has_slots_within most c = slots_within most c.client_slots && slots_within most c.reply_slots

-- a table has 1 to 1,024 slots (own limit of this profile)
abbrev pub slots_fit : ℕ → Bool
slots_fit n = slots_within 1024 n

abbrev pub has_slots : Config → Bool
has_slots c = has_slots_within 1024 c

-- a large table has 1 to 65,536 slots (own limit of this profile)
abbrev pub large_slots_fit : ℕ → Bool
large_slots_fit n = slots_within 65536 n

abbrev pub has_large_slots : Config → Bool
has_large_slots c = has_slots_within 65536 c

-- windows are 1 to 64 (own limit of this profile)
abbrev pub window_fits : ℕ → Bool
window_fits n = nat_le 1 n && nat_le n 64

-- a node to which nothing has happened; its invoke IDs begin at 0
abbrev pub fresh_node : Config → Store → Node
fresh_node c s =
    record {
      link = c.link;
      settings = settings_of c;
      latest = 0;
      clients = record { slots = []; capacity = c.client_slots; asked = 0; asks_from = 0; first_id = 0 };
      servers = record { slots = []; capacity = c.reply_slots; serves_from = 0 };
      store = s;
    }

-- its invoke IDs begin at that one
abbrev pub with_first_id : (first_id : ℕ) → Node → Node
with_first_id first_id n = record n { clients = record n.clients { first_id = first_id } }

-- one that restarts at that moment, if it does
abbrev pub made_node : Config → Store → (restart : Option ℕ) → Node
made_node c s None = fresh_node c s
made_node c s (Some now) = restarted now s (fresh_node c s)

-- both tables of a node are lost at that moment: its client asks from that one on, and its server waits
abbrev pub renewed : (now asks_from first_id : ℕ) → Store → Node → Node
renewed now asks_from first_id s n =
    record n {
      latest = now;
      clients = record { slots = []; capacity = n.clients.capacity; asked = 0; asks_from = asks_from; first_id = first_id };
      servers = server_restarted now n.servers;
      store = s;
    }
