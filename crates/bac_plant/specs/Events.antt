-- Each step of a plant is some events of its world.
use Rattle.std.specs.Prelude.{ℕ, List, [], ◌∷◌, ◌++◌, Option, Some, None}
use Rattle.bac_world.specs.Node.{Outcome}
use Rattle.bac_world.specs.World.{Event}
use Rattle.bac_plant.specs.Network.{Source}
use Rattle.bac_plant.specs.Network.Source.{Noise, Nowhere, Station, Stranger}
use Rattle.bac_driver.specs.Turns.{Turn}
use Rattle.bac_plant.specs.Steps.{Step}
use Rattle.bac_plant.specs.Steps.Step.{Begins, BeginsAway, Changes, FailsToReceive, Holds, Passes, Restarts, SendsHeld, Starts, StartsAgain, Takes}

-- a node heard what came; if that failed to allocate, the datagram is lost
abbrev pub heard_events : (station : ℕ) → Source → (heard : Option Outcome) → List Event
heard_events i Nowhere heard = []
heard_events i source None = []
heard_events i (Station number) (Some o) = Event.Deliver number ∷ []
heard_events i (Stranger from octets) (Some o) = Event.Stray i from octets ∷ []
heard_events i (Noise from octets) (Some o) = Event.Noise i from octets ∷ []

-- it ticked; if that failed to allocate, it did not
abbrev pub ticked_events : (station : ℕ) → (ticked : Option Outcome) → List Event
ticked_events i None = []
ticked_events i (Some o) = Event.Tick i ∷ []

-- a turn is both, whether what it sends is held or not
abbrev pub turn_events : (station : ℕ) → Source → Turn → List Event
turn_events i source turn = heard_events i source turn.heard ++ ticked_events i turn.ticked

-- what was held is sent by the turns that held it, so sending it is no event of its own
abbrev pub events_in : Step → List Event
events_in (Passes by own) = Event.Advance by own ∷ []
events_in (Takes i source turn) = turn_events i source turn
events_in (FailsToReceive i) = []
events_in (Begins i server limits r) = Event.Ask i server limits r ∷ []
events_in (BeginsAway i peer limits r) = Event.AskAway i peer limits r ∷ []
events_in (Changes i change) = Event.Change i change ∷ []
events_in (Restarts i exact store) = Event.Restart i exact store ∷ []
events_in (Starts i exact) = Event.Begin i exact ∷ []
events_in (StartsAgain i exact first_id store) = Event.BeginAgain i exact first_id store ∷ []
events_in (Holds i source turn) = turn_events i source turn
events_in (SendsHeld i turns) = []

-- the events of a run, oldest first; its newest step comes first
abbrev pub events_of : List Step → List Event
events_of [] = []
events_of (step ∷ before) = events_of before ++ events_in step
