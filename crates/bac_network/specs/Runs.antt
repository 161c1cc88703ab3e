-- Steps and runs of a world in code, and what holds after those in which no node changes its own store or restarts.
use Rattle.std.specs.Prelude.{◌≡◌, ◌↔◌, List, [], ◌∷◌, Option, Some, Result, IfErr, IsErrOf, OnOk, slice_get, take}
use Rattle.bac_requester.specs.declared.ask_fault.AskFault.{AskFault}
use Rattle.bac_store.specs.declared.change_fault.ChangeFault.{ChangeFault}
use Rattle.bac_world.specs.ReusingWorlds.{WorldRunSo, WorldStepSo}
use Rattle.bac_world.specs.World.{Event, WorldRun, WorldStep, MakeNoStray, MakeRequestsAlone}
use Rattle.bac_network.specs.AsksAlone.{HasAsksAloneNow, IsOnceOfAsksNow}
use Rattle.bac_network.specs.Histories.{WorldView, as_world, reuses_of, HasRequestsAloneNow, IsOnceByRequestsAloneNow}
use Rattle.bac_network.specs.Laws.{HasStrictLog}
use Rattle.bac_network.specs.Steps.{BeginsTooSoon, IsFault, NamesNoCopy, NamesNoNode, NamesNodeLink, PassesClock, RefusesChange, TakesMemory, Tells}
use Rattle.bac_network.specs.Views.{event_view, events_view}
use Rattle.bac_network.specs.declared.event.Event as code
use Rattle.bac_network.specs.declared.fault.RunFault.{RunFault}
use Rattle.bac_network.specs.declared.fault.WorldFault.{WorldFault}
use Rattle.bac_network.specs.declared.fault.WorldFault.TheVariants as fault

-- what an event is in a world now
abbrev pub event_in : WorldView → code.Event → Event
event_in w e = event_view w.time e

-- events one after the other, the first of them now
abbrev pub events_in : WorldView → List code.Event → List Event
events_in w events = events_view w.time events

-- how many later copies may overtake one, the opening stores and the nodes' rules never change
abbrev pub KeepsSettings : (old new : WorldView) → Type 0
KeepsSettings old new = (new.overtake ≡ old.overtake) × (new.opening ≡ old.opening) × (new.reuses ≡ old.reuses)

-- the event happened
abbrev pub StepsTo : (old : WorldView) → code.Event → (new : WorldView) → Type 0
StepsTo old e new = WorldStepSo old.overtake (reuses_of old) (as_world old) (event_in old e) (as_world new)

-- these events happened
abbrev pub RunsTo : (old : WorldView) → List code.Event → (new : WorldView) → Type 0
RunsTo old events new = WorldRunSo old.overtake (reuses_of old) (as_world old) (events_in old events) (as_world new)

-- the fault of a refused ask is told, and no other event tells one
abbrev pub TellsIn : Option AskFault → (old : WorldView) → code.Event → (new : WorldView) → Type 0
TellsIn told old e new = Tells told (as_world old) (event_in old e) (as_world new)

-- each fault tells exactly why an event does not happen; memory is refused only where the event takes some
pub record TellsWhyNot (r : Result (Option AskFault) WorldFault) (w : WorldView) (e : code.Event) : Type 0 where
  pub node : IsErrOf r fault.NoSuchNode ↔ NamesNoNode (as_world w) (event_in w e)
  pub datagram : IsErrOf r fault.NoSuchDatagram ↔ NamesNoCopy (as_world w) (event_in w e)
  pub link : IsErrOf r fault.NodeLink ↔ NamesNodeLink (as_world w) (event_in w e)
  pub clock : IsErrOf r fault.ClockEnd ↔ PassesClock (as_world w) (event_in w e)
  pub soon : IsErrOf r fault.TooSoon ↔ BeginsTooSoon (as_world w) (event_in w e)
  pub change : (why : ChangeFault) → (IsErrOf r (fault.BadChange why) ↔ RefusesChange (as_world w) (event_in w e) why)
  pub memory : IsErrOf r fault.NoMemory → TakesMemory w.overtake (as_world w) (event_in w e)

-- the events before the fault's place happened, and the one there did not
pub record StopsAtSo (f : RunFault) (old : WorldView) (events : List Event) (new : WorldView) : Type 0 where
  pub done : WorldRunSo old.overtake (reuses_of old) (as_world old) (take f.place events) (as_world new)
  pub event : Event
  pub at : slice_get events f.place ≡ Some event
  pub fault : IsFault f.fault old.overtake (as_world new) event

-- the same where no node lets invoke IDs be used again
pub record StopsAt (f : RunFault) (old : WorldView) (events : List Event) (new : WorldView) : Type 0 where
  pub done : WorldRun old.overtake (as_world old) (take f.place events) (as_world new)
  pub event : Event
  pub at : slice_get events f.place ≡ Some event
  pub fault : IsFault f.fault old.overtake (as_world new) event

-- for every list of asks, deliveries, losses, repeats, reorderings, noise, ticks and clock steps among nodes, every accepted ask takes effect at most once,
-- and exactly once where a service answer reached its client; the request performed and the answer are its own, whole; and each server's store is its
-- opening store after the performed requests in their order. A loss is a copy that no event delivers, and a repeat is one that two events deliver; nor did
-- a node change its own store or restart before these events
abbrev pub RequestsTakeEffectOnce : (old : WorldView) → List Event → (new : WorldView) → Type 0
RequestsTakeEffectOnce old events new = HasRequestsAloneNow old → MakeRequestsAlone events → IsOnceByRequestsAloneNow new

-- and where there is nothing of strangers either, before these events and in them, the log has what nodes asked, what was performed and how it ended, and no
-- other fact; it is right with the stores
abbrev pub AsksTakeEffectOnce : (old : WorldView) → List Event → (new : WorldView) → Type 0
AsksTakeEffectOnce old events new = HasAsksAloneNow old → MakeRequestsAlone events → MakeNoStray events → HasAsksAloneNow new × IsOnceOfAsksNow new

-- where no node lets invoke IDs be used again, the event happened so
pub record StepsStrictly (r : Result (Option AskFault) WorldFault) (old : WorldView) (e : code.Event) (new : WorldView) : Type 0 where
  pub went : OnOk r (WorldStep old.overtake (as_world old) (event_in old e) (as_world new))
  pub log : HasStrictLog new
  pub requests_alone : RequestsTakeEffectOnce old (event_in old e ∷ []) new
  pub asks_alone : AsksTakeEffectOnce old (event_in old e ∷ []) new

-- and these events, or those before the fault's place
pub record RunsStrictly {A : Type 0} (r : Result A RunFault) (old : WorldView) (events : List code.Event) (new : WorldView) : Type 0 where
  pub went : OnOk r (WorldRun old.overtake (as_world old) (events_in old events) (as_world new))
  pub stopped : IfErr r (λ f. StopsAt f old (events_in old events) new)
  pub log : HasStrictLog new
  pub requests_alone : RequestsTakeEffectOnce old (events_in old events) new
  pub asks_alone : AsksTakeEffectOnce old (events_in old events) new
