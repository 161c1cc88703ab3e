-- What contracts see of facts and events.
use Rattle.std.specs.Prelude.{◌+◌, ◌*◌, List, [], ◌∷◌, map, reverse}
use Rattle.bac_apdu.specs.Views.{limits_view}
use Rattle.bac_npdu.specs.Views.{peer_view}
use Rattle.bac_service.specs.Views.{owned_request_view, owned_reply_view}
use Rattle.bac_store.specs.Views.{change_view}
use Rattle.bac_requester.specs.TransactionViews.{ending_view}
use Rattle.bac_world.specs.Once as once
use Rattle.bac_world.specs.World as world
use Rattle.bac_journal.specs.Clocks.{later_by, parts_of, restart_at, restarted_own, steps_of}
use Rattle.bac_network.specs.Clocks.{Instant}
use Rattle.bac_network.specs.declared.event.Event.{Event}
use Rattle.bac_network.specs.declared.event.Event.TheVariants as event
use Rattle.bac_network.specs.declared.fact.Fact.{Fact}
use Rattle.bac_network.specs.declared.fact.Fact.TheVariants as fact

abbrev pub fact_view : Fact → once.Fact
fact_view (fact.Asked number client server request) = once.Fact.Asked number client server (owned_request_view request)
fact_view (fact.Performed number request reply) = once.Fact.Performed number (owned_request_view request) (owned_reply_view reply)
fact_view (fact.Ended number how) = once.Fact.Ended number (ending_view how)
fact_view (fact.Changed node change) = once.Fact.Changed node (change_view change)
fact_view (fact.Restarted node store) = once.Fact.Restarted node store
fact_view (fact.Served peer node invoke_id begin request reply) =
    once.Fact.Served (peer_view peer) node invoke_id begin (owned_request_view request) (owned_reply_view reply)
fact_view (fact.AskedAway number client peer request) = once.Fact.AskedAway number client (peer_view peer) (owned_request_view request)
fact_view (fact.EndedAway number how) = once.Fact.EndedAway number (ending_view how)

-- contracts see the newest fact first
abbrev pub log_view : List Fact → List once.Fact
log_view log = reverse (map fact_view log)

-- what an event is at a moment: each clock goes on as its rate says, and one that begins anew begins where such a clock does
abbrev pub event_view : Instant → Event → world.Event
event_view t (event.Ask client server limits request) = world.Event.Ask client server (limits_view limits) (owned_request_view request)
event_view t (event.Deliver number) = world.Event.Deliver number
event_view t (event.Noise node from octets) = world.Event.Noise node from octets.items
event_view t (event.Stranger node from octets) = world.Event.Stray node from octets.items
event_view t (event.AskStranger node peer limits request) =
    world.Event.AskAway node (peer_view peer) (limits_view limits) (owned_request_view request)
event_view t (event.Tick node) = world.Event.Tick node
event_view t (event.Advance by) = world.Event.Advance (parts_of t.own * by) (steps_of t.own by)
event_view t (event.Change node change) = world.Event.Change node (change_view change)
event_view t (event.Restart node store) = world.Event.Restart node (restart_at t.moment t.own) store
event_view t (event.Begin node) = world.Event.Begin node (restart_at t.moment t.own)
event_view t (event.BeginAgain node first_id store) = world.Event.BeginAgain node (restart_at t.moment t.own) first_id store

-- the moment after it
abbrev pub instant_after : Event → Instant → Instant
instant_after (event.Advance by) t = record { moment = t.moment + parts_of t.own * by; own = later_by by t.own }
instant_after (event.Restart node store) t = record t { own = restarted_own node t.own }
instant_after (event.Begin node) t = record t { own = restarted_own node t.own }
instant_after (event.BeginAgain node first_id store) t = record t { own = restarted_own node t.own }
instant_after e t = t

-- events one after the other, the first of them at that moment
abbrev pub events_view : Instant → List Event → List world.Event
events_view t [] = []
events_view t (e ∷ es) = event_view t e ∷ events_view (instant_after e t) es

-- the moment after them
abbrev pub instant_after_all : List Event → Instant → Instant
instant_after_all [] t = t
instant_after_all (e ∷ es) t = instant_after_all es (instant_after e t)
