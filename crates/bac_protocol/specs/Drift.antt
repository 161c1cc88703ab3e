-- Where clocks go apart: at the bound on the life of a copy all is right; one part beyond it a request is performed twice, or an ask ends with another's answer.
-- No time of the machines is changed here, nor any world: each run is one of the definitions, for clocks of that pace.
use Rattle.std.specs.Prelude.{◌≡◌, ℕ, ◌+◌, ◌*◌, ◌<◌, ◌≤◌, true, if◌then◌else◌, nat_eq, List, [], ◌∷◌, ◌++◌}
use Rattle.bac_protocol.specs.Times.{DEADLINE, KEEP, REST}
use Rattle.bac_protocol.specs.Pace.{Pace, period, most, least, IsTimely, one_clock}
use Rattle.bac_protocol.specs.Service.Ending.{Expired}
use Rattle.bac_protocol.specs.Log.{Fact, StoreModel}
use Rattle.bac_protocol.specs.Log.Fact.{Ended}
use Rattle.bac_protocol.specs.Transaction.{Rules}
use Rattle.bac_protocol.specs.World.{World, Event, happens, run, start}
use Rattle.bac_protocol.specs.World.Event.{Deliver, Advance, RestartClient, RestartServer, Begin, BeginAgain}
use Rattle.bac_protocol.specs.Examples.{model, rules, position, ask_append}
use Rattle.bac_protocol.specs.Edges.{at_once, client_tick, server_tick, once, twice, counted, mixed, first_done, asks_again, asks_with_late_segment}

-- a clock that counts milliseconds, and is fast or slow by at most a part in a thousand
abbrev pub thousandth : (life : ℕ) → Pace
thousandth life = record { grain = 1; tick = 1; drift = 1000; life = life }

-- the same, which counts microseconds
abbrev pub finer : (drift life : ℕ) → Pace
finer drift life = record { grain = 1000; tick = 1; drift = drift; life = life }

-- one that neither gains nor loses, counts microseconds, and goes on by ticks of 10 milliseconds
abbrev pub by_tens : (life : ℕ) → Pace
by_tens life = record { grain = 1000; tick = 10; drift = 0; life = life }

-- for which lives of a copy the times suffice
pub record Lives : Type 0 where
  pub today : IsTimely one_clock
  pub no_more : most one_clock DEADLINE + 5001 ≤ least one_clock KEEP → ⊥
  pub at_thousandth : IsTimely (thousandth 4876)
  pub thousandth_no_more : most (thousandth 4877) DEADLINE + 4877 ≤ least (thousandth 4877) KEEP → ⊥
  pub at_twenty : IsTimely (finer 20 4996502)
  pub at_hundred : IsTimely (finer 100 4986502)
  pub at_five_hundred : IsTimely (finer 500 4936503)
  pub at_thousand : IsTimely (finer 1000 4874005)
  pub at_tens : IsTimely (by_tens 4990001)
  pub tens_no_more : most (by_tens 4990002) DEADLINE + 4990002 ≤ least (by_tens 4990002) KEEP → ⊥

-- they suffice where a second is so many whole ticks and, in milliseconds, the life, a tick and 0.126 of the drift in millionths come to 5,000 at most
abbrev pub TimesSuffice : Type 0
TimesSuffice = (p : Pace) (ticks : ℕ) → 0 < p.grain → p.tick * ticks ≡ 1000
    → 1000 * p.life + 1000 * period p + 126 * (p.drift * p.grain) ≤ 5000000 * p.grain → IsTimely p

-- so much time passes; the client's clock, node 0, goes on by that much, and the server's, node 1
abbrev pub passes : (by client server : ℕ) → Event
passes by client server = Advance by (λ node. client) (λ node. server)

abbrev pub log_from : (clocks : ℕ → ℕ) → StoreModel ℕ → Pace → List Event → List Fact
log_from clocks s pace events = (run ℕ s (rules 32) events (start ℕ pace clocks (λ node. 0))).net.log

abbrev pub log_of : StoreModel ℕ → Pace → List Event → List Fact
log_of = log_from (λ node. 0)

-- a request is performed at 0, and its answer is lost; the client, whose clock is slow, repeats it in time, and the repeat arrives at the end of its life at a
-- server whose clock is fast
abbrev pub slow_then_fast : (life : ℕ) → List Event
slow_then_fast life = at_once ++ passes 60060 60000 60120 ∷ client_tick ∷ passes life life (life + 4) ∷ Deliver 2 true ∷ []

pub record Twice : Type 0 where
  pub beyond : log_of (model position) (thousandth 4877) (slow_then_fast 4877) ≡ twice
  pub within : log_of (model position) (thousandth 4876) (slow_then_fast 4876) ≡ once

-- the server's clock, of node 1, is all but at its next tick when the client's is at one
abbrev pub ticks_apart : (node : ℕ) → ℕ
ticks_apart node = if nat_eq node 1 then 9999 else 0

-- the same with clocks that go on by ticks: the client's still shows its DEADLINE a part before its next tick, and the server's shows more than KEEP a part
-- after KEEP has passed
abbrev pub late_in_tick : (life : ℕ) → List Event
late_in_tick life = at_once ++ passes 60009999 60009999 60009999 ∷ client_tick ∷ passes life life life ∷ Deliver 2 true ∷ []

pub record TwiceInTick : Type 0 where
  pub beyond : log_from ticks_apart (model position) (by_tens 4990002) (late_in_tick 4990002) ≡ twice
  pub within : log_from ticks_apart (model position) (by_tens 4990001) (late_in_tick 4990001) ≡ once

-- a reply in segments: the request's last repeat arrives at the end of its life; the entry's server, whose clock is slow, sends segment 0 again at the last
-- moment of the entry, and that copy arrives at the end of its life, at a client whose clock is fast and which asks again with that invoke ID
abbrev pub late_again : (life : ℕ) → List Event
late_again life = ask_append ∷ passes 60000 60000 60000 ∷ client_tick ∷ passes life (life + 4) life ∷ Deliver 1 true ∷ passes 65065 65130 65000
    ∷ client_tick ∷ server_tick ∷ passes life (life + 4) life ∷ []

-- the same where the client restarts after its ask
abbrev pub late_after_restart : (life : ℕ) → List Event
late_after_restart life = ask_append ∷ RestartClient 0 777777 ∷ passes life (life + 4) life ∷ Deliver 0 true ∷ passes 65065 65130 65000 ∷ server_tick
    ∷ passes life (life + 4) life ∷ []

-- what bounds the life here is REST; a step is of whole milliseconds, so the first that goes wrong is two beyond
pub record Mixed : Type 0 where
  pub room : 4930 + most (thousandth 4930) KEEP + 4930 ≤ least (thousandth 4930) REST
  pub no_room : 4931 + most (thousandth 4931) KEEP + 4931 ≤ least (thousandth 4931) REST → ⊥
  pub beyond : log_of counted (thousandth 4932) (late_again 4932 ++ asks_with_late_segment) ≡ mixed (Ended 0 Expired ∷ first_done)
  pub within : log_of counted (thousandth 4931) (late_again 4931 ++ asks_with_late_segment) ≡ Ended 0 Expired ∷ first_done
  pub restarted : log_of counted (thousandth 4932) (late_after_restart 4932 ++ asks_again) ≡ mixed first_done
  pub restarted_within : log_of counted (thousandth 4931) (late_after_restart 4931 ++ asks_again) ≡ first_done

-- an end that begins or restarts has a clock that shows real time
abbrev pub KeepsTime : (S : Type 0) → World S → Event → Type 0
KeepsTime S w (RestartClient node exact) = exact ≡ w.net.now
KeepsTime S w (RestartServer node exact store) = exact ≡ w.net.now
KeepsTime S w (Begin node exact) = exact ≡ w.net.now
KeepsTime S w (BeginAgain node exact) = exact ≡ w.net.now
KeepsTime S w _ = Unit {0}

abbrev pub AllKeepTime : (S : Type 0) → StoreModel S → Rules → List Event → World S → Type 0
AllKeepTime S model x [] w = Unit {0}
AllKeepTime S model x (e ∷ es) w = KeepsTime S w e × AllKeepTime S model x es (happens S model x w e)
