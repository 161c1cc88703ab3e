-- Two clients of a host at one port, how early the second one may start, and what the first one does: computed, whatever the host's key is, and so that port.
use Rattle.std.specs.Prelude.{ℕ, ◌*◌, true, List, [], ◌∷◌, map, Some, None, if◌then◌else◌, nat_eq}
use Rattle.bac_driver.specs.Turns.{Turn}
use Rattle.bac_world.specs.AnsweredRun.{LIMITS, SETTINGS}
use Rattle.bac_world.specs.Examples.{REQUEST}
use Rattle.bac_world.specs.ReusingLogs.{Reuses}
use Rattle.bac_world.specs.World.{passes}
use Rattle.bac_plant.specs.Anew.Anew.{RestartsSo}
use Rattle.bac_plant.specs.Clients.{AreDone, AreQuiet, Client, Deed, Hosts, IsAskedEarly, KeepTime, Port, StartsThere, move_of}
use Rattle.bac_plant.specs.Clients.Deed.{Does, StartsClient}
use Rattle.bac_plant.specs.Example.{OPENING}
use Rattle.bac_plant.specs.Moves.{IsReachedIn, MayStart}
use Rattle.bac_plant.specs.Moves.Move.{Goes, StartsAnew}
use Rattle.bac_plant.specs.Network.Source.{Nowhere}
use Rattle.bac_plant.specs.Plants.{Plant}
use Rattle.bac_plant.specs.Steps.Step.{Begins, Restarts, Takes}

-- one that took its port 80 seconds after midnight, and one that took its own 165.895 seconds later
abbrev pub ONE : Client
ONE = record { host = 0; took = 80000000 }

abbrev pub OTHER : Client
OTHER = record { host = 0; took = 245895000 }

abbrev pub PORT : (port : ℕ) → Port
PORT port = record { host = 0; number = port }

-- station 0 is at the port of the first one; real time is that of the day, in milliseconds
abbrev pub HOSTS : (key : List ℕ) → (port : ℕ) → Hosts
HOSTS key port = record { host = λ h. record { key = key; day = λ moment. moment * 1000 }; port_of = λ station. if nat_eq station 0 then Some (PORT port) else None }

-- the two stations at that moment
abbrev pub AT : (moment : ℕ) → Plant
AT moment = record OPENING { time = record OPENING.time { now = moment } }

pub record TwoClients (key : List ℕ) (port : ℕ) : Type 0 where
  pub keep : KeepTime (HOSTS key port) OPENING.time.pace
  pub quiet : AreQuiet (HOSTS key port) (AT 80000)
  pub starts : StartsThere (HOSTS key port) [] (AT 80000) 0 ONE
  -- it may ask until its clock has gone on by 30,000 ms since a moment of its share, which lasts 6.4 milliseconds
  pub asks : IsAskedEarly (HOSTS key port) (ONE ∷ []) (AT 110006) (PORT port)
  pub asks_no_more : IsAskedEarly (HOSTS key port) (ONE ∷ []) (AT 110007) (PORT port) → ⊥
  -- 135.889 seconds after that ask the other one may start
  pub starts_again : StartsThere (HOSTS key port) (ONE ∷ []) (AT 245895) 0 OTHER
  -- 100 seconds after the first one started no client may, at whatever time of day it took a port
  pub too_early : (took : ℕ) → StartsThere (HOSTS key port) (ONE ∷ []) (AT 180000) 0 (record { host = 0; took = took }) → ⊥

-- 80 seconds pass before anything happens
abbrev pub LATER : Plant
LATER = record OPENING { time = passes OPENING.time 80000 (λ station. 80000) }

-- The first client starts, and asks station 1. That one restarts, and takes a turn in which nothing comes. Then it starts again so that it lets clients use an
-- invoke ID again, and takes such a turn again.
abbrev pub DEEDS : (idle : Turn) → List Deed
DEEDS idle =
    StartsClient 0 0 0 None ONE ∷ Does (Goes (Begins 0 1 LIMITS REQUEST)) ∷ Does (Goes (Restarts 1 0 None)) ∷ Does (Goes (Takes 1 Nowhere idle))
    ∷ Does (StartsAnew (RestartsSo 1 0 None SETTINGS true)) ∷ Does (Goes (Takes 1 Nowhere idle)) ∷ []

-- stations may let them do so
abbrev pub EVER : Reuses
EVER station = true

-- so nothing that the laws of clients suppose is empty
pub record ClientAsks (key : List ℕ) (port : ℕ) : Type 0 where
  pub reached : IsReachedIn 1 253 EVER OPENING LATER
  pub keep : KeepTime (HOSTS key port) LATER.time.pace
  pub quiet : AreQuiet (HOSTS key port) LATER
  pub idle : Turn
  pub may : MayStart 1 EVER (map move_of (DEEDS idle))
  pub done : AreDone (HOSTS key port) 253 [] (DEEDS idle) LATER
