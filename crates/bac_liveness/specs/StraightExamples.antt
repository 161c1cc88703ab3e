-- Straight runs of two nodes, one with a request of one APDU and one with a request in segments: what the law of straight runs supposes is not empty.
use Rattle.std.specs.Prelude.{◌≡◌, ℕ, zero, suc, pos, [], ◌∷◌, Some}
use Rattle.bac_service.specs.Values.{Request}
use Rattle.bac_service.specs.Values.WriteAccess.{WriteStream}
use Rattle.bac_store.specs.Replies.{reply_to}
use Rattle.bac_protocol.specs.Pace.{IsTimely}
use Rattle.bac_protocol.specs.Service.{Octets}
use Rattle.bac_protocol.specs.Sizes.{request_way_of}
use Rattle.bac_transaction.specs.Meanings.Ending.{Answered}
use Rattle.bac_world.specs.World.{World, IsFresh, IsBounded}
use Rattle.bac_world.specs.Examples as world
use Rattle.bac_world.specs.Examples.{STORE}
use Rattle.bac_world.specs.AnsweredRun.{LIMITS, SETTINGS, node, OPENING}
use Rattle.bac_liveness.specs.StraightRuns.{IsStraight}
use Rattle.bac_liveness.specs.StraightAnswers.{datagrams, CanAnswer}

abbrev pub zeros : ℕ → Octets
zeros zero = []
zeros (suc n) = 0 ∷ zeros n

-- 40 octets for file 1: with it 51 octets of service data, of which 44 go into a segment at the least APDU size
abbrev pub WRITE : Request
WRITE = Request.WriteFile (record { kind = 10; instance = 1 }) (WriteStream (pos 0) (zeros 40))

-- node 0 asks node 1, with windows of 1, and 253 later copies that may overtake one; the request has so many datagrams, and so many copies are delivered
pub record IsAnsweredRun (r : Request) (n count : ℕ) : Type 0 where
  pub fresh : IsFresh OPENING
  pub timely : IsTimely OPENING.time.pace
  pub bounded : IsBounded 1 253 OPENING
  pub can : CanAnswer 253 0 (node 0) (node 1) r
  pub last : World
  pub run : IsStraight 253 OPENING 0 1 LIMITS r (Some (Answered (reply_to STORE r))) count last
  pub sent : datagrams (request_way_of SETTINGS LIMITS run.asks.asks.octets) ≡ n

-- the request and the answer
abbrev pub OfOneApdu : Type 0
OfOneApdu = IsAnsweredRun world.REQUEST 1 2

-- two segments, two SegmentACKs and the answer
abbrev pub InSegments : Type 0
InSegments = IsAnsweredRun WRITE 2 5
