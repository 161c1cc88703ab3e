-- The network that the first line of a script sets.
use Rattle.std.specs.Prelude.{ℕ, zero, suc, ◌+◌, Bool, true, false, nat_eq, if◌then◌else◌, List, [], ◌∷◌, None, Some}
use Rattle.std.specs.List.{list_any}
use Rattle.bac_apdu.specs.Apdu as plain
use Rattle.bac_apdu.specs.declared.limits.Limits.{Limits}
use Rattle.bac_journal.specs.Clocks.{fresh_clocks}
use Rattle.bac_journal.specs.declared.lives.Life.{Life}
use Rattle.bac_network.specs.Fresh.{Maker}
use Rattle.bac_network.specs.Histories.{WorldView}
use Rattle.bac_simulate.specs.Lines.{Setting}
use Rattle.bac_store.specs.House.{house}
use Rattle.bac_store.specs.Stores.{Store}
use Rattle.bac_world.specs.Node.{Node}
use Rattle.bac_simulate.specs.Scripts.{ScriptLine, Happens, Lost, Note, Began, Paced, most_limits}

-- 127.0.0.1, and the UDP port 47,808 + node (clause J.1.2)
abbrev pub link_at : (node : ℕ) → List ℕ
link_at node = 127 ∷ 0 ∷ 0 ∷ 1 ∷ 0xBA ∷ (0xC0 + node) ∷ []

-- a node to which nothing has happened, with a house store of its own and 64 slots at each end
abbrev pub house_node : plain.Limits → (window node : ℕ) → Node
house_node limits window node =
    record {
      link = link_at node;
      settings = record { limits = limits; window = window };
      latest = 0;
      clients = record { slots = []; capacity = 64; asked = 0; asks_from = 0; first_id = 0 };
      servers = record { slots = []; capacity = 64; serves_from = 0 };
      store = house;
    }

-- so many nodes, numbered from the first on
abbrev pub house_nodes : (window first count : ℕ) → List Node
house_nodes window first zero = []
house_nodes window first (suc count) = house_node most_limits window first ∷ house_nodes window (first + 1) count

abbrev pub houses : (count : ℕ) → List Store
houses zero = []
houses (suc count) = house ∷ houses count

-- nothing happened at any of so many nodes
abbrev pub fresh_lives : (count : ℕ) → List Life
fresh_lives zero = []
fresh_lives (suc count) = record { active = false; sends_until = 0 } ∷ fresh_lives count

-- nothing has happened in it
abbrev pub world_set : Setting → WorldView
world_set s =
    record {
      overtake = s.overtake;
      opening = houses s.nodes;
      reuses = [];
      nodes = house_nodes s.window 0 s.nodes;
      time = record { moment = 0; own = None };
      lives = fresh_lives s.nodes;
      copies = [];
      log = [];
      notes = [];
    }

-- ---- clocks of their own

-- the line speaks of a clock
abbrev pub is_of_clock : ScriptLine → Bool
is_of_clock (Happens event) = false
is_of_clock (Lost copy) = false
is_of_clock Note = false
is_of_clock (Began node start) = true
is_of_clock (Paced node rate) = true

-- where a node's clock begins after a line, if it began there before
abbrev pub start_by : (node before : ℕ) → ScriptLine → ℕ
start_by node before (Happens event) = before
start_by node before (Lost copy) = before
start_by node before Note = before
start_by node before (Began other start) = if nat_eq other node then start else before
start_by node before (Paced other rate) = before

-- and after all of these: the last line of that node counts
abbrev pub start_after : (node before : ℕ) → List ScriptLine → ℕ
start_after node before [] = before
start_after node before (said ∷ lines) = start_after node (start_by node before said) lines

-- of so many nodes, from the first on; a clock of which no line speaks begins at 0
abbrev pub starts_from : List ScriptLine → (first count : ℕ) → List ℕ
starts_from lines first zero = []
starts_from lines first (suc count) = start_after first 0 lines ∷ starts_from lines (first + 1) count

-- each node has a clock of its own, by at most 1,000 parts in a million fast or slow; a copy lives 4,873 ms
abbrev pub clock_world_set : Setting → (starts : List ℕ) → WorldView
clock_world_set s starts = record (world_set s) { time = record { moment = 0; own = Some (fresh_clocks 1000 4873 starts) } }

-- the network of a script: nodes have clocks of their own where a line speaks of one
abbrev pub world_by : (clocks : Bool) → Setting → List ScriptLine → WorldView
world_by false s lines = world_set s
world_by true s lines = clock_world_set s (starts_from lines 0 s.nodes)

abbrev pub script_world : Setting → List ScriptLine → WorldView
script_world s lines = world_by (list_any is_of_clock lines) s lines

-- ---- what nodes are made of

abbrev pub maker_at : Limits → (window node : ℕ) → Maker
maker_at limits window node = (record { link = link_at node; limits = limits; window = window; client_slots = 64; reply_slots = 64 }, house)

abbrev pub makers_from : Limits → (window first count : ℕ) → List Maker
makers_from limits window first zero = []
makers_from limits window first (suc count) = maker_at limits window first ∷ makers_from limits window (first + 1) count
