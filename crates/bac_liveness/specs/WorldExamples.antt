-- For each law a run that meets its premises, computed, with what the log says after it: node 0 asks node 1, whose store has no objects, at 0.
use Rattle.std.specs.Prelude.{◌≡◌, ◌+◌, ◌-◌, ◌<◌, true, [], ◌∷◌, Some, slice_get}
use Rattle.bac_apdu.specs.Apdu.{Apdu}
use Rattle.bac_protocol.specs.declared.times.TheConstants.{DEADLINE}
use Rattle.bac_protocol.specs.Pace.{IsTimely}
use Rattle.bac_protocol.specs.Drift.{thousandth}
use Rattle.bac_protocol.specs.Wire.{is_from_server}
use Rattle.bac_protocol.specs.Client.{ClientTransaction}
use Rattle.bac_transaction.specs.Meanings.Ending.{Expired}
use Rattle.bac_transaction.specs.Ends.{key_of}
use Rattle.bac_world.specs.Node.{Node, Outcome}
use Rattle.bac_world.specs.Laws.{Gets}
use Rattle.bac_world.specs.Once.Fact.{Ended}
use Rattle.bac_world.specs.World.{World, Copy, WorldStep, WorldRun, IsFresh, IsBounded, IsAsked, told, peer_at}
use Rattle.bac_world.specs.World.Event.{Deliver, Tick, Advance}
use Rattle.bac_world.specs.Examples.{REQUEST, ASKED}
use Rattle.bac_world.specs.AnsweredRun.{LIMITS, TIME, OPENING, LOG}
use Rattle.bac_liveness.specs.Repeats.{PATIENCE}
use Rattle.bac_liveness.specs.WorldRuns.{Throughout, endings_of}
use Rattle.bac_liveness.specs.WorldRoundTrip.{MayArrive, IsFromServer, IsWhole, IsRequest, CanPerform}
use Rattle.bac_liveness.specs.WorldEnds.{IsOpen, expired}
use Rattle.bac_liveness.specs.WorldRepeats.{FindsServer}

-- nothing arrives, and the client's first tick comes at 60,001
pub record LateTick : Type 0 where
  pub second : World
  pub asks : IsAsked OPENING 0 1 LIMITS REQUEST second
  pub late : World
  pub waits : WorldRun 253 second (Advance 60001 (λ i. 60001) ∷ []) late
  pub passed : DEADLINE < told late 0 - told OPENING 0
  pub before : endings_of 0 late.log ≡ 0
  pub ticked : World
  pub ticks : WorldStep 253 late (Tick 0) ticked
  pub after : ticked.log ≡ Ended 0 Expired ∷ ASKED

-- the same nodes, whose clocks are fast or slow by at most a part in a thousand
abbrev pub DRIFTS : World
DRIFTS = record (OPENING) { time = record (TIME) { pace = thousandth 4876 } }

-- the client's clock is slow: 60,060 ms after its ask it shows that 60,000 have passed, and no longer than that it waits; its first tick comes a little later
pub record SlowTick : Type 0 where
  pub fresh : IsFresh DRIFTS
  pub timely : IsTimely DRIFTS.time.pace
  pub bounded : IsBounded 1 253 DRIFTS
  pub second : World
  pub asks : IsAsked DRIFTS 0 1 LIMITS REQUEST second
  pub early : World
  pub waits : WorldRun 253 second (Advance 60060 (λ i. 60000) ∷ []) early
  pub last : told early 0 - told DRIFTS 0 ≡ DEADLINE
  pub late : World
  pub goes_on : WorldRun 253 early (Advance 1 (λ i. 1) ∷ []) late
  pub real : late.time.now ≡ 60061
  pub passed : DEADLINE < told late 0 - told DRIFTS 0
  pub before : endings_of 0 late.log ≡ 0
  pub ticked : World
  pub ticks : WorldStep 253 late (Tick 0) ticked
  pub after : ticked.log ≡ Ended 0 Expired ∷ ASKED

-- the request is delivered, and then its answer
pub record OneRoundTrip : Type 0 where
  pub second : World
  pub asks : IsAsked OPENING 0 1 LIMITS REQUEST second
  pub whole : IsWhole OPENING 0 1 LIMITS REQUEST second asks
  pub unended : endings_of 0 second.log ≡ 0
  pub copy : Copy
  pub request : MayArrive 253 second 0 copy
  pub is_one : IsRequest asks.sent copy
  pub server : Node
  pub at : slice_get second.nodes 1 ≡ Some server
  pub performs : CanPerform (told second 1) asks.before server asks.accepted.invoke_id REQUEST
  pub third : World
  pub performed : WorldStep 253 second (Deliver 0) third
  pub still : endings_of 0 third.log ≡ 0
  pub answer : Copy
  pub comes : MayArrive 253 third 1 answer
  pub last : World
  pub answered : WorldStep 253 third (Deliver 1) last
  pub log : last.log ≡ LOG

-- the first copy is lost; the client's tick at 3,000 sends the request again, the second copy finds its server, and its answer is delivered
pub record SecondSending : Type 0 where
  pub second : World
  pub asks : IsAsked OPENING 0 1 LIMITS REQUEST second
  pub whole : IsWhole OPENING 0 1 LIMITS REQUEST second asks
  pub again : World
  pub run : WorldRun 253 second (Advance 3000 (λ i. 3000) ∷ Tick 0 ∷ []) again
  pub finds : Throughout 253 (FindsServer 253 1 asks.before asks.accepted.invoke_id REQUEST asks.sent) second (Advance 3000 (λ i. 3000) ∷ Tick 0 ∷ []) again run
  pub young : told again 0 < told OPENING 0 + PATIENCE
  pub copy : Copy
  pub request : MayArrive 253 again 1 copy
  pub is_one : IsRequest asks.sent copy
  pub server : Node
  pub at : slice_get again.nodes 1 ≡ Some server
  pub performs : CanPerform (told again 1) asks.before server asks.accepted.invoke_id REQUEST
  pub served : World
  pub performed : WorldStep 253 again (Deliver 1) served
  pub answer : Copy
  pub comes : MayArrive 253 served 2 answer
  pub from : IsFromServer 0 1 asks.accepted.invoke_id answer
  pub last : World
  pub answered : WorldStep 253 served (Deliver 2) last
  pub log : last.log ≡ LOG

-- an answer that comes to the client's node at 60,001
pub record LateAnswer : Type 0 where
  pub second : World
  pub asks : IsAsked OPENING 0 1 LIMITS REQUEST second
  pub old : Node
  pub at : slice_get second.nodes 0 ≡ Some old
  pub apdu : Apdu
  pub server : is_from_server apdu ≡ true
  pub new : Node
  pub outcome : Outcome
  pub gets : Gets 60001 (peer_at asks.link) apdu old new outcome
  pub ticket : ClientTransaction
  pub is_open : IsOpen old (key_of (peer_at asks.link) apdu) 0 ticket
  pub late : DEADLINE < 60001 - ticket.ask.first
  pub ends : outcome.ended ≡ expired 0 ∷ []
