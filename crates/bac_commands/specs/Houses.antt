-- The nodes that commands make.
use Rattle.std.specs.Prelude.{ℕ, [], true, Option, Some, None}
use Rattle.bac_apdu.specs.Apdu.{Limits}
use Rattle.bac_protocol.specs.Service.{Octets}
use Rattle.bac_store.specs.House.{house}
use Rattle.bac_store.specs.Stores.{Store}
use Rattle.bac_driver.specs.Nodes.{with_first_id, Node, begun_again, restarted}

-- APDUs of 1,476 octets (code 5 of clause 20.1.2.5), and any number of segments (code 7 of clause 20.1.2.4)
abbrev pub most_limits : Limits
most_limits = record { max_apdu = 5; takes_segments = true; max_segments = 7 }

-- a node to which nothing has happened, with a store, a window of 32 segments and so many slots at each end
abbrev pub node_of : (slots : ℕ) → (link : Octets) → Store → Node
node_of slots link store =
    record {
      link = link;
      settings = record { limits = most_limits; window = 32 };
      latest = 0;
      clients = record { slots = []; capacity = slots; asked = 0; asks_from = 0; first_id = 0 };
      servers = record { slots = []; capacity = slots; serves_from = 0 };
      store = store;
    }

-- the same with 64 slots
abbrev pub node_with : (link : Octets) → Store → Node
node_with link store = node_of 64 link store

-- a node with so many slots that serves, and that restarts at that moment, if it does
abbrev pub server_node : (slots : ℕ) → (restart : Option ℕ) → (link : Octets) → Store → Node
server_node slots None link store = node_of slots link store
server_node slots (Some now) link store = restarted now store (node_of slots link store)

-- the same with so many slots for asks of its own
abbrev pub with_asks : (slots : ℕ) → Node → Node
with_asks slots n = record n { clients = record n.clients { capacity = slots } }

-- one that asks for lists: 65,536 slots for its asks, and 256 for those of others
abbrev pub asking_node : (link : Octets) → Store → Node
asking_node link store = with_asks 65536 (node_of 256 link store)

-- the one with the house store, which begins at that moment, once all is over that was sent from there: its invoke IDs begin at that one, it may ask at once, and
-- it turns requests away at first
abbrev pub client_node : (now first_id : ℕ) → (link : Octets) → Node
client_node now first_id link = begun_again now first_id house (asking_node link house)

-- the one of 64 slots with the house store, whose invoke IDs begin at that one
abbrev pub house_node : (first_id : ℕ) → (link : Octets) → Node
house_node first_id link = with_first_id first_id (node_with link house)
