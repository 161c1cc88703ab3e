-- The same of runs: each answer that ends an ask is the reply of the store that its server's node had at a moment of the run, after the ask and before its end.
use Rattle.std.specs.Prelude.{◌≡◌, ℕ, List, ◌++◌, Some, slice_get}
use Rattle.bac_protocol.specs.Pace.{IsTimely}
use Rattle.bac_service.specs.Values.{Request}
use Rattle.bac_service.specs.Replies.{Reply}
use Rattle.bac_store.specs.Replies.{reply_to}
use Rattle.bac_transaction.specs.Meanings.Ending.{Answered}
use Rattle.bac_world.specs.Claims.{AreReplayed}
use Rattle.bac_world.specs.LongApdus.{AllAskLong, RepliesFit, TakeLongApdus}
use Rattle.bac_world.specs.Node.{Node}
use Rattle.bac_world.specs.Once.{Has, IsUnended}
use Rattle.bac_world.specs.Once.Fact.{Asked, Ended}
use Rattle.bac_world.specs.ReusingLogs.{Reuses}
use Rattle.bac_world.specs.ReusingWorlds.{WorldRunSo}
use Rattle.bac_world.specs.World.{Event, IsBounded, IsFresh, World, stores_of}
use Rattle.bac_plant.specs.Answers.{AnswersAreReplies}

-- Of one answer.
pub record WasReplyAtMoment (overtake : ℕ) (u : Reuses) (first : World) (events : List Event) (last : World) (n : ℕ) (p : Reply) : Type 0 where
  -- the run has come to this world
  pub earlier : List Event
  pub later : List Event
  pub are : events ≡ earlier ++ later
  pub moment : World
  pub led : WorldRunSo overtake u first earlier moment
  pub leads : WorldRunSo overtake u moment later last
  -- the ask, the only one with its number, was made, and has not ended
  pub client : ℕ
  pub server : ℕ
  pub request : Request
  pub asked : Has (Asked n client server request) moment.log
  pub only : (c s : ℕ) (r : Request) → Has (Asked n c s r) last.log → (c ≡ client) × (s ≡ server) × (r ≡ request)
  pub unended : IsUnended n moment.log
  -- the reply is that of the server's store
  pub node : Node
  pub at : slice_get moment.nodes server ≡ Some node
  pub reply : p ≡ reply_to node.store request

-- so it is of every answer that ends an ask
abbrev pub AnswersAreOfMoments : (overtake : ℕ) → Reuses → World → List Event → World → Type 0
AnswersAreOfMoments overtake u first events last =
    (n : ℕ) (p : Reply) → Has (Ended n (Answered p)) last.log → WasReplyAtMoment overtake u first events last n p

-- in its log each answer is a reply
abbrev pub AnswersInLog : (overtake : ℕ) → Reuses → World → List Event → World → Type 0
AnswersInLog overtake u first events last = AnswersAreReplies (stores_of first.nodes) last.log

-- the stores are those that the log makes
abbrev pub StoresAreReplayed : (overtake : ℕ) → Reuses → World → List Event → World → Type 0
StoresAreReplayed overtake u first events last = AreReplayed (stores_of first.nodes) last.log (stores_of last.nodes)

-- that is so of each run of a fresh world
abbrev pub OfWorldRuns : (Says : (overtake : ℕ) → Reuses → World → List Event → World → Type 0) → Type 0
OfWorldRuns Says =
    (W overtake : ℕ) (u : Reuses) (w w' : World) → IsFresh w → IsTimely w.time.pace → IsBounded W overtake w → (events : List Event)
    → WorldRunSo overtake u w events w' → Says overtake u w events w'

-- of each whose nodes all take APDUs of 480 octets or more, whatever overtakes what
abbrev pub OfLongWorldRuns : (Says : (overtake : ℕ) → Reuses → World → List Event → World → Type 0) → Type 0
OfLongWorldRuns Says =
    (W overtake : ℕ) (u : Reuses) (w w' : World) → IsFresh w → IsTimely w.time.pace → TakeLongApdus W w → (events : List Event) → AllAskLong events
    → WorldRunSo overtake u w events w' → RepliesFit w'.log → Says overtake u w events w'
