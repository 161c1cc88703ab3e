-- What contracts see of a world in code, and how it came to be.
use Rattle.std.specs.Prelude.{◌≡◌, ℕ, Bool, List, slice_get}
use Rattle.bac_protocol.specs.Pace.{IsTimely}
use Rattle.bac_protocol.specs.Service.{Octets}
use Rattle.bac_store.specs.Stores.{Store}
use Rattle.bac_world.specs.Claims.{AreChangesPermitted, AreEndedOnce, ArePerformedOnce, AreReplayed, AreServedApart}
use Rattle.bac_world.specs.Node.{Node}
use Rattle.bac_world.specs.Once.{Fact, Stores, HasNoStranger, HasRequestsAlone, IsOnce, IsOnceAmongNodes, IsOnceByRequestsAlone}
use Rattle.bac_world.specs.ReusingLogs.{IsOnceSo, NoneReuses, Reuses}
use Rattle.bac_world.specs.ReusingWorlds.{WorldRunSo}
use Rattle.bac_world.specs.World.{World, Copy, Note, Event, WorldRun, IsFresh, IsBounded, stores_of}
use Rattle.bac_network.specs.Clocks.{Instant, instant, time_at}
use Rattle.bac_journal.specs.declared.lives.Life.{Life}
use Rattle.bac_journal.specs.Lives.{lives_at}
use Rattle.bac_journal.specs.Views.{AreLinks}
use Rattle.bac_network.specs.Rules.{reuses_by}
use Rattle.bac_network.specs.Views.{log_view}
use Rattle.bac_network.specs.declared.network.Network.{Network}

-- how many later copies may overtake one, the stores that the nodes had at first, and the world as it now is
pub record WorldView : Type 0 where
  pub overtake : ℕ
  pub opening : List Store
  pub reuses : List Bool  -- whether a node lets clients use an invoke ID again; one after the list's end does not
  pub nodes : List Node  -- numbered from 0
  pub time : Instant
  pub lives : List Life  -- what each node did so far
  pub copies : List Copy  -- oldest first, numbered from 0
  pub log : List Fact  -- newest first
  pub notes : List Note  -- newest first

abbrev pub view_of : (overtake : ℕ) → List Store → (reuses : List Bool) → Network → WorldView
view_of overtake opening reuses n =
    record {
      overtake = overtake;
      opening = opening;
      reuses = reuses;
      nodes = n.nodes.items;
      time = instant n.journal;
      lives = n.journal.lives;
      copies = n.journal.copies;
      log = log_view n.log.items;
      notes = n.journal.notes;
    }

-- the world of bac_world that it is
abbrev pub as_world : WorldView → World
as_world w = record { nodes = w.nodes; time = time_at w.time; lives = lives_at w.lives; copies = w.copies; log = w.log; notes = w.notes }

-- the stores that the nodes had at first
abbrev pub opening_stores : WorldView → Stores
opening_stores w i = slice_get w.opening i

-- which of its nodes let clients use an invoke ID again
abbrev pub reuses_of : WorldView → Reuses
reuses_of w = reuses_by w.reuses

-- none does
abbrev pub HasNoReuse : WorldView → Type 0
HasNoReuse w = NoneReuses (reuses_of w)

-- the log is right with the stores: every accepted ask was performed at most once, but for a read at a node that lets invoke IDs be used again
abbrev pub IsOnceSoNow : WorldView → Type 0
IsOnceSoNow w = IsOnceSo (reuses_of w) (opening_stores w) w.log (stores_of w.nodes)

-- the log is right with the stores: every accepted ask was performed at most once
abbrev pub IsOnceNow : WorldView → Type 0
IsOnceNow w = IsOnce (opening_stores w) w.log (stores_of w.nodes)

-- what that says of what was performed: each performed request is the one asked, and was not performed before; its reply is that of its server's store as it
-- then was
abbrev pub ArePerformedOnceNow : WorldView → Type 0
ArePerformedOnceNow w = ArePerformedOnce (opening_stores w) w.log

-- of what was asked, and how it ended: each ask has the next number, and ended at most once, answered with the reply with which it was performed
abbrev pub AreEndedOnceNow : WorldView → Type 0
AreEndedOnceNow w = AreEndedOnce w.log

-- of the changes that nodes made in their own stores: none has a fault for its node's store as it then was
abbrev pub AreChangesPermittedNow : WorldView → Type 0
AreChangesPermittedNow w = AreChangesPermitted (opening_stores w) w.log

-- of the stores: they are those of their nodes' last starts, after what was performed and changed since, in the log's order
abbrev pub AreReplayedNow : WorldView → Type 0
AreReplayedNow w = AreReplayed (opening_stores w) w.log (stores_of w.nodes)

-- so far no node changed its own store, and none restarted
abbrev pub HasRequestsAloneNow : WorldView → Type 0
HasRequestsAloneNow w = HasRequestsAlone w.log

-- every accepted ask takes effect at most once, and exactly once where a service answer reached its client; the request performed and the answer are its
-- own, whole; and each server's store is its opening store after the performed requests in their order
abbrev pub IsOnceByRequestsAloneNow : WorldView → Type 0
IsOnceByRequestsAloneNow w = IsOnceByRequestsAlone (opening_stores w) w.log (stores_of w.nodes)

-- what a node performed for one stranger under one invoke ID, between two of its restarts, is of entries that began more than KEEP apart, by its clock
abbrev pub AreServedApartNow : WorldView → Type 0
AreServedApartNow w = AreServedApart (as_world w)

-- so far there is nothing of strangers: none was asked, and none had a request performed
abbrev pub HasNoStrangerNow : WorldView → Type 0
HasNoStrangerNow w = HasNoStranger w.log

-- what is said of nodes alone
abbrev pub IsOnceAmongNodesNow : WorldView → Type 0
IsOnceAmongNodesNow w = IsOnceAmongNodes (opening_stores w) w.log (stores_of w.nodes)

-- a run of a fresh world with those stores, whose windows are at most W, and in which those nodes let invoke IDs be used again, led to it
pub record HasRunSo (W : ℕ) (w : WorldView) : Type 0 where
  pub first : World
  pub events : List Event
  pub fresh : IsFresh first
  pub timely : IsTimely first.time.pace
  pub bounded : IsBounded W w.overtake first
  pub opening : (i : ℕ) → stores_of first.nodes i ≡ opening_stores w i
  pub run : WorldRunSo w.overtake (reuses_of w) first events (as_world w)

-- some such run did
abbrev pub HasHistorySo : WorldView → Type 0
HasHistorySo w = (W : ℕ) × HasRunSo W w

-- a run in which no node does led to it
pub record HasRun (W : ℕ) (w : WorldView) : Type 0 where
  pub first : World
  pub events : List Event
  pub fresh : IsFresh first
  pub timely : IsTimely first.time.pace
  pub bounded : IsBounded W w.overtake first
  pub opening : (i : ℕ) → stores_of first.nodes i ≡ opening_stores w i
  pub run : WorldRun w.overtake first events (as_world w)

-- some such run did
abbrev pub HasHistory : WorldView → Type 0
HasHistory w = (W : ℕ) × HasRun W w

-- what is kept of it: the greatest window, and the nodes' links
pub record IsKept (window : ℕ) (links : List Octets) (w : WorldView) : Type 0 where
  pub history : HasRunSo window w
  pub linked : AreLinks history.first.nodes links
