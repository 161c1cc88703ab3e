-- What a script says is to happen, and which event that is in a world.
use Rattle.std.specs.Prelude.{ℕ, ◌+◌, ◌*◌, List, Option}
use Rattle.bac_apdu.specs.Apdu.{Limits}
use Rattle.bac_npdu.specs.Peers.{PeerView}
use Rattle.bac_service.specs.Values.{Request}
use Rattle.bac_store.specs.AtNode as at_node
use Rattle.bac_store.specs.Stores.{Store}
use Rattle.bac_world.specs.World as world
use Rattle.bac_journal.specs.Clocks.{later_by, parts_of, restart_at, restarted_own, steps_of}
use Rattle.bac_network.specs.Clocks.{Instant}

-- nodes and copies are numbered from 0; the clock goes on in milliseconds
pub data Happening : Type 0 where
  Ask : (client server : ℕ) (limits : Limits) (request : Request) → Happening
  Deliver : (number : ℕ) → Happening
  Noise : (node : ℕ) (from octets : List ℕ) → Happening
  Tick : (node : ℕ) → Happening
  Advance : (by : ℕ) → Happening
  Change : (node : ℕ) (change : at_node.Change) → Happening
  Restart : (node : ℕ) (store : Option Store) → Happening
  Begin : (node : ℕ) → Happening
  BeginAgain : (node first_id : ℕ) (store : Option Store) → Happening
  -- octets of a stranger, from a link of no node, and an ask of one
  Stranger : (node : ℕ) (from octets : List ℕ) → Happening
  AskStranger : (client : ℕ) (peer : PeerView) (limits : Limits) (request : Request) → Happening

-- at a moment: each clock goes on as its rate says, and one that begins anew begins where such a clock does
abbrev pub event_at : Instant → Happening → world.Event
event_at t (Happening.Ask client server limits request) = world.Event.Ask client server limits request
event_at t (Happening.Deliver number) = world.Event.Deliver number
event_at t (Happening.Noise node from octets) = world.Event.Noise node from octets
event_at t (Happening.Tick node) = world.Event.Tick node
event_at t (Happening.Advance by) = world.Event.Advance (parts_of t.own * by) (steps_of t.own by)
event_at t (Happening.Change node change) = world.Event.Change node change
event_at t (Happening.Restart node store) = world.Event.Restart node (restart_at t.moment t.own) store
event_at t (Happening.Begin node) = world.Event.Begin node (restart_at t.moment t.own)
event_at t (Happening.BeginAgain node first_id store) = world.Event.BeginAgain node (restart_at t.moment t.own) first_id store
event_at t (Happening.Stranger node from octets) = world.Event.Stray node from octets
event_at t (Happening.AskStranger client peer limits request) = world.Event.AskAway client peer limits request

-- the moment after it
abbrev pub time_after : Happening → Instant → Instant
time_after (Happening.Advance by) t = record { moment = t.moment + parts_of t.own * by; own = later_by by t.own }
time_after (Happening.Restart node store) t = record t { own = restarted_own node t.own }
time_after (Happening.Begin node) t = record t { own = restarted_own node t.own }
time_after (Happening.BeginAgain node first_id store) t = record t { own = restarted_own node t.own }
time_after e t = t
