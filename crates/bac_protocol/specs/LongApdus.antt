-- Ends that take APDUs of 480 octets or more: a transfer between them has far fewer pieces than there are sequence numbers.
use Rattle.std.specs.Prelude.{◌≡◌, ℕ, ◌-◌, ◌≤◌, List, ◌∷◌, length}
use Rattle.std.specs.Int.{div_ceil}
use Rattle.bac_apdu.specs.Apdu.{Limits}
use Rattle.bac_segment.specs.Limits.{DATA}
use Rattle.bac_protocol.specs.Context.{Settings}
use Rattle.bac_protocol.specs.Moves.{Move, moved}
use Rattle.bac_protocol.specs.Moves.Move.{Asks, Arrives}
use Rattle.bac_protocol.specs.Server.{Service}
use Rattle.bac_protocol.specs.Service.{Octets, Reply}
use Rattle.bac_protocol.specs.Service.Outcome.{Replies}
use Rattle.bac_protocol.specs.Service.Reply.{Simple, Complex, Error}
use Rattle.bac_protocol.specs.Sizes.{apdu_size, request_way_of, reply_way_of, transfer_size}
use Rattle.bac_protocol.specs.Sizes.Way.{InSegments}
use Rattle.bac_protocol.specs.Transaction.{Rules}
use Rattle.bac_protocol.specs.World.{Net}

-- an end takes so much: 480 octets in an APDU (code 3 of clause 20.1.2.5)
abbrev pub TakesLong : Limits → Type 0
TakesLong limits = 480 ≤ apdu_size limits.max_apdu

-- and the most: 1,476 octets (code 5)
abbrev pub TakesLongest : Limits → Type 0
TakesLongest limits = 1476 ≤ apdu_size limits.max_apdu

-- the service data of a reply are no longer than any transfer
abbrev pub ReplyFits : Reply → Type 0
ReplyFits Simple = Unit {0}
ReplyFits (Complex service) = length service ≤ DATA
ReplyFits (Error class code) = Unit {0}

-- a request that goes in segments, as its client's settings and its server's limits say
pub record RequestsAreCut : Type 0 where
  pub count : (s : Settings) (peer : Limits) (service : Octets) (pieces : List Octets) → request_way_of s peer service ≡ InSegments pieces
      → length pieces ≡ div_ceil (length service) (transfer_size s.limits.max_apdu peer.max_apdu - 6)
  pub long : (s : Settings) (peer : Limits) (service : Octets) (pieces : List Octets) → request_way_of s peer service ≡ InSegments pieces
      → TakesLong s.limits → TakesLong peer → length pieces ≤ 139
  pub longest : (s : Settings) (peer : Limits) (service : Octets) (pieces : List Octets) → request_way_of s peer service ≡ InSegments pieces
      → TakesLongest s.limits → TakesLongest peer → length pieces ≤ 45

-- the same of a reply, as its server's settings and its client's limits say
pub record RepliesAreCut : Type 0 where
  pub count : (s : Settings) (peer : Limits) (service : Octets) (pieces : List Octets) → reply_way_of s peer (Complex service) ≡ InSegments pieces
      → length pieces ≡ div_ceil (length service) (transfer_size s.limits.max_apdu peer.max_apdu - 5)
  pub long : (s : Settings) (peer : Limits) (service : Octets) (pieces : List Octets) → reply_way_of s peer (Complex service) ≡ InSegments pieces
      → length service ≤ DATA → TakesLong s.limits → TakesLong peer → length pieces ≤ 138
  pub longest : (s : Settings) (peer : Limits) (service : Octets) (pieces : List Octets) → reply_way_of s peer (Complex service) ≡ InSegments pieces
      → length service ≤ DATA → TakesLongest s.limits → TakesLongest peer → length pieces ≤ 45

-- Moves of nets.

-- all nodes take so much
abbrev pub AllTakeLong : Rules → Type 0
AllTakeLong x = (node : ℕ) → TakesLong (x.settings node).limits

-- a service gives replies that can be sent
abbrev pub ServiceFits : Service → Type 0
ServiceFits service = (choice : ℕ) (octets : Octets) (p : Reply) → service choice octets ≡ Replies p → ReplyFits p

-- an ask has so few pieces, and a service gives replies that can be sent
abbrev pub IsFew : Move → Type 0
IsFew (Asks key choice whole front rest) = length (front ∷ rest) ≤ 139
IsFew (Arrives number free service) = ServiceFits service
IsFew _ = Unit {0}

-- a net to which such moves lead
pub data IsReachedByFew (x : Rules) (from : Net) : Net → Type 0 where
  Still : IsReachedByFew x from from
  Moved : (n : Net) (m : Move) → IsFew m → IsReachedByFew x from n → IsReachedByFew x from (moved x n m)
