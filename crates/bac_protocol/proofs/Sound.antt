-- What holds of one transaction at each moment. Whole numbers of pieces are kept beside the two machines, which see numbers modulo 256 alone.
use Rattle.std.proofs.Common.{◌≡◌, ℕ, ◌+◌, ◌-◌, ◌*◌, ◌<◌, ◌≤◌, ◌≢◌, ◌⊎◌, true, false, List, [], ◌∷◌, length, take, Option, Some, None}
use Rattle.bac_apdu.specs.Apdu.{Apdu, Segment}
use Rattle.bac_apdu.specs.Apdu.Apdu.{ConfirmedRequest, UnconfirmedRequest, SimpleAck, ComplexAck, SegmentAck, Error, Reject, Abort}
use Rattle.bac_segment.specs.Limits.{N_RETRY}
use Rattle.bac_segment.specs.Pieces.{join}
use Rattle.bac_segment.specs.Window.{Outgoing, Incoming}
use Rattle.bac_protocol.specs.Times.{DEADLINE, KEEP}
use Rattle.bac_protocol.specs.Pace.{IsTimely, IsShown, Since, most}
use Rattle.bac_protocol.specs.Service.{Octets, Reply as reply}
use Rattle.bac_protocol.specs.Client.{Ask, request_of, Phase, ClientTransaction, is_idle}
use Rattle.bac_protocol.specs.Client.Phase.{AwaitConfirmation, SegmentedConf, Idle}
use Rattle.bac_protocol.specs.Server.{State, ServerTransaction, first_of}
use Rattle.bac_protocol.specs.Server.State.{Done, SegmentedResponse, Dropped}
use Rattle.bac_protocol.specs.Log.{Fact, Has, asks_in, IsUnperformed, IsUnended, IsOrderly}
use Rattle.bac_protocol.specs.Log.Fact.{Asked, Performed, Ended, Changed, Restarted, Served, AskedAway, EndedAway}
use Rattle.bac_protocol.specs.Transaction.{Key, Copy}
use Rattle.bac_protocol.proofs.Alone.{Transaction}
use Rattle.bac_protocol.specs.Claims.{Moments, client_until, server_until, IsBegunSince, HasRestartedSince, EachCopy, IsPieceOf, WasPerformed, IsPiece, IsAck}

-- The log.

-- what is said of the ask of a fact, among nodes; a change and a restart are of no ask
abbrev pub OfAsk : (ℕ → Type 0) → Fact → Type 0
OfAsk P (Asked n c s r) = P n
OfAsk P (Performed n r p) = P n
OfAsk P (Ended n how) = P n
OfAsk P (Changed s c) = Unit {0}
OfAsk P (Restarted s o) = Unit {0}
OfAsk P (Served q s i b r p) = Unit {0}
OfAsk P (AskedAway n c q r) = Unit {0}
OfAsk P (EndedAway n how) = Unit {0}

-- a fact is not of ask n
abbrev pub IsOfOther : ℕ → Fact → Type 0
IsOfOther n = OfAsk (λ m. m ≢ n)

-- the asks of the log have numbers below that
abbrev pub IsBelow : ℕ → List Fact → Type 0
IsBelow asks [] = Unit {0}
IsBelow asks (f ∷ log) = OfAsk (λ m. m < asks) f × IsBelow asks log

-- A transfer in pieces, in whole numbers.

-- how far a pass over so many pieces has come: those below taken were taken in order, and those sent were all below sent
pub record IsUnderway (W taken sent total : ℕ) : Type 0 where
  pub behind : taken ≤ sent
  pub near : sent ≤ taken + W
  pub within : sent ≤ total
  pub some : 0 < total

-- where its sender stands
pub record IsSender (W : ℕ) (out : Outgoing) (taken sent : ℕ) : Type 0 where
  pub behind : out.first ≤ taken
  pub near : sent ≤ out.first + W

-- what was taken are the first pieces of these, at least one and not all
pub record IsFront (pieces : List Octets) (inc : Incoming) (taken : ℕ) : Type 0 where
  pub taken_is : length inc.parts ≡ taken
  pub some : 0 < taken
  pub left : taken < length pieces
  pub parts_are : inc.parts ≡ take taken pieces

-- the pieces of the request: how far the first pass has come, or a later one was begun
pub data Up : Type 0 where
  Reading : (taken sent : ℕ) → Up
  Repeated : Up

-- the pieces of the reply: there are none, or how far their pass has come
pub data Down : Type 0 where
  Unsent : Down
  Sent : (pieces : List Octets) (taken sent : ℕ) → Down

abbrev pub IsPieceUp : ℕ → Ask → Up → ℕ → Segment → Octets → Type 0
IsPieceUp W ask (Reading taken sent) k segment octets = IsPiece W ask.pieces sent k segment octets
IsPieceUp W ask Repeated k segment octets = IsPieceOf ask.pieces segment octets

abbrev pub IsAckUp : ℕ → Up → ℕ → ℕ → Type 0
IsAckUp W (Reading taken sent) k number = IsAck W taken sent k number
IsAckUp W Repeated k number = Unit {0}

abbrev pub IsPieceDown : ℕ → Down → ℕ → Segment → Octets → Type 0
IsPieceDown W Unsent k segment octets = ⊥
IsPieceDown W (Sent pieces taken sent) k segment octets = IsPiece W pieces sent k segment octets

abbrev pub IsAckDown : ℕ → Down → ℕ → ℕ → Type 0
IsAckDown W Unsent k number = ⊥
IsAckDown W (Sent pieces taken sent) k number = IsAck W taken sent k number

-- a copy with k later ones is of this ask, and was sent in time
abbrev pub Says : ℕ → Moments → ℕ → Ask → List Fact → Up → Down → ℕ → ℕ → Apdu → Type 0
Says W times number ask log up down moment k (ConfirmedRequest limits id None choice octets) = (moment ≤ client_until times) × (ask.whole ≡ true)
    × (choice ≡ ask.choice) × (octets ≡ join ask.pieces)
Says W times number ask log up down moment k (ConfirmedRequest limits id (Some segment) choice octets) = (moment ≤ client_until times) × (ask.whole ≡ false)
    × (choice ≡ ask.choice) × IsPieceUp W ask up k segment octets
Says W times number ask log up down moment k (UnconfirmedRequest choice octets) = ⊥
Says W times number ask log up down moment k (SimpleAck id choice) = (moment ≤ server_until times) × WasPerformed number ask reply.Simple log
    × (choice ≡ ask.choice)
Says W times number ask log up down moment k (ComplexAck id None choice octets) = (moment ≤ server_until times)
    × WasPerformed number ask (reply.Complex octets) log × (choice ≡ ask.choice)
Says W times number ask log up down moment k (ComplexAck id (Some segment) choice octets) = (moment ≤ server_until times)
    × IsPieceDown W down k segment octets × (choice ≡ ask.choice)
Says W times number ask log up down moment k (SegmentAck true id ack) = (moment ≤ server_until times) × IsAckUp W up k ack.number
Says W times number ask log up down moment k (SegmentAck false id ack) = (moment ≤ client_until times) × IsAckDown W down k ack.number
Says W times number ask log up down moment k (Error id choice class code) = (moment ≤ server_until times)
    × WasPerformed number ask (reply.Error class code) log × (choice ≡ ask.choice)
Says W times number ask log up down moment k (Reject id reason) = moment ≤ server_until times
Says W times number ask log up down moment k (Abort true id reason) = moment ≤ server_until times
Says W times number ask log up down moment k (Abort false id reason) = moment ≤ client_until times

-- a copy that is young enough to arrive was sent since the ask was made, and is of it
abbrev pub Fits : ℕ → Moments → ℕ → Ask → List Fact → Up → Down → ℕ → Copy → Type 0
Fits W times number ask log up down k c = times.now - c.moment ≤ times.pace.life → (times.made ≤ c.moment) × Says W times number ask log up down c.moment k c.apdu

-- the numbers of a transfer in so many pieces are clear to the receiver of a copy with k later ones
abbrev pub IsClear : (W total k : ℕ) → Type 0
IsClear W total k = (k + 2 * W ≤ 255) ⊎ (total ≤ 256)

-- The client.

abbrev pub SendsUp : ℕ → Outgoing → Up → Type 0
SendsUp W out (Reading taken sent) = IsSender W out taken sent
SendsUp W out Repeated = Unit {0}

-- no piece of a reply was taken
abbrev pub IsUntaken : Down → Type 0
IsUntaken Unsent = Unit {0}
IsUntaken (Sent pieces taken sent) = taken ≡ 0

pub record IsSendingFor (W : ℕ) (ask : Ask) (out : Outgoing) (up : Up) (down : Down) : Type 0 where
  pub in_pieces : ask.whole ≡ false
  pub pieces : out.pieces ≡ ask.pieces
  pub window : out.window ≤ W
  pub sends : SendsUp W out up
  pub untaken : IsUntaken down

-- all pieces of the first pass were taken, where the request goes in pieces
abbrev pub IsRead : Ask → Up → Type 0
IsRead ask (Reading taken sent) = (ask.whole ≡ true) ⊎ (taken ≡ length ask.pieces)
IsRead ask Repeated = Unit {0}

-- a request in pieces is in its first pass until a repeat is made
abbrev pub PassFits : Ask → (repeats : ℕ) → Up → Type 0
PassFits ask repeats (Reading taken sent) = (ask.whole ≡ true) ⊎ (repeats ≡ N_RETRY)
PassFits ask repeats Repeated = repeats < N_RETRY

abbrev pub CollectsDown : Incoming → Down → Type 0
CollectsDown inc Unsent = ⊥
CollectsDown inc (Sent pieces taken sent) = IsFront pieces inc taken

-- a request in pieces is waited for only when its first pass was read
abbrev pub ClientFits : ℕ → Ask → Phase → Up → Down → Type 0
ClientFits W ask (Phase.SegmentedRequest out all_sent) up down = IsSendingFor W ask out up down
ClientFits W ask AwaitConfirmation up down = IsRead ask up × IsUntaken down
ClientFits W ask (SegmentedConf inc) up down = CollectsDown inc down
ClientFits W ask Idle up down = Unit {0}

-- The server.

-- what a server keeps for an ask fits the log
abbrev pub IsKeptFor : ℕ → Ask → Apdu → List Fact → Type 0
IsKeptFor number ask (SimpleAck id choice) log = WasPerformed number ask reply.Simple log × (choice ≡ ask.choice)
IsKeptFor number ask (ComplexAck id None choice octets) log = WasPerformed number ask (reply.Complex octets) log × (choice ≡ ask.choice)
IsKeptFor number ask (Error id choice class code) log = WasPerformed number ask (reply.Error class code) log × (choice ≡ ask.choice)
IsKeptFor number ask (Reject id reason) log = IsUnperformed number log
IsKeptFor number ask (Abort true id reason) log = IsUnperformed number log
IsKeptFor number ask _ log = ⊥

abbrev pub IsUnbegun : ℕ → Up → Down → List Fact → Type 0
IsUnbegun number (Reading taken sent) Unsent log = (taken ≡ 0) × IsUnperformed number log
IsUnbegun number _ _ log = ⊥

pub record IsSegmentedRequestFor (number : ℕ) (ask : Ask) (inc : Incoming) (taken : ℕ) (log : List Fact) : Type 0 where
  pub in_pieces : ask.whole ≡ false
  pub front : IsFront ask.pieces inc taken
  pub unperformed : IsUnperformed number log

abbrev pub SendsDown : ℕ → Outgoing → Down → Type 0
SendsDown W out Unsent = ⊥
SendsDown W out (Sent pieces taken sent) = (out.pieces ≡ pieces) × IsSender W out taken sent

pub record IsGivingFor (W number : ℕ) (ask : Ask) (out : Outgoing) (up : Up) (down : Down) (log : List Fact) : Type 0 where
  pub read : IsRead ask up
  pub window : out.window ≤ W
  pub performed : WasPerformed number ask (reply.Complex (join out.pieces)) log
  pub sends : SendsDown W out down

abbrev pub StateFits : ℕ → ℕ → Ask → State → Up → Down → List Fact → Type 0
StateFits W number ask (State.SegmentedRequest inc since) (Reading taken sent) Unsent log = IsSegmentedRequestFor number ask inc taken log
StateFits W number ask (Done kept) up Unsent log = IsRead ask up × IsKeptFor number ask kept log
StateFits W number ask (SegmentedResponse out transfer since) up down log = IsGivingFor W number ask out up down log
StateFits W number ask Dropped (Reading taken sent) Unsent log = (taken < length ask.pieces) × IsUnperformed number log
StateFits W number ask _ _ _ log = ⊥

-- an entry for the ask keeps no piece, or the first one of its request
abbrev pub FirstFits : Ask → Option Octets → Type 0
FirstFits ask first = (first ≡ None) ⊎ (first ≡ first_of ask.pieces)

-- the entry was begun for the ask
pub record IsBegunFor (W : ℕ) (times : Moments) (number : ℕ) (ask : Ask) (e : ServerTransaction) (up : Up) (down : Down) (log : List Fact) : Type 0 where
  pub begun : IsBegunSince times e.begin
  pub choice : e.choice ≡ ask.choice
  pub first : FirstFits ask e.first
  pub state : StateFits W number ask e.state up down log

-- the entry was dead before the ask was made, and is
pub record IsPastFor (times : Moments) (number : ℕ) (ask : Ask) (e : ServerTransaction) (up : Up) (down : Down) (log : List Fact) : Type 0 where
  pub dead : e.begin + KEEP < times.server.shows
  pub unbegun : IsUnbegun number up down log

-- pieces of a reply were sent for the request, which was read and performed
abbrev pub WasGiven : ℕ → Ask → Up → Down → List Fact → Type 0
WasGiven number ask up Unsent log = Unit {0}
WasGiven number ask up (Sent pieces taken sent) log = IsRead ask up × WasPerformed number ask (reply.Complex (join pieces)) log

-- the server restarted since the ask, and lost what it had begun for it
pub record IsLostFor (times : Moments) (number : ℕ) (ask : Ask) (up : Up) (down : Down) (log : List Fact) : Type 0 where
  pub before : HasRestartedSince times
  pub given : WasGiven number ask up down log

abbrev pub ServerFits : ℕ → Moments → ℕ → Ask → Option ServerTransaction → Up → Down → List Fact → Type 0
ServerFits W times number ask None up down log = IsUnbegun number up down log ⊎ IsLostFor times number ask up down log
ServerFits W times number ask (Some e) up down log = IsPastFor times number ask e up down log ⊎ IsBegunFor W times number ask e up down log

-- All of it.

abbrev pub UpFits : ℕ → Ask → Up → Type 0
UpFits W ask (Reading taken sent) = IsUnderway W taken sent (length ask.pieces)
UpFits W ask Repeated = Unit {0}

abbrev pub DownFits : ℕ → Down → Type 0
DownFits W Unsent = Unit {0}
DownFits W (Sent pieces taken sent) = IsUnderway W taken sent (length pieces)

abbrev pub IsOpenIn : Phase → ℕ → List Fact → Type 0
IsOpenIn (Phase.SegmentedRequest out all_sent) n log = IsUnended n log
IsOpenIn AwaitConfirmation n log = IsUnended n log
IsOpenIn (SegmentedConf inc) n log = IsUnended n log
IsOpenIn Idle n log = Unit {0}

-- the ask was made when its client's clock showed so much, and its client was last in time when it showed no more than DEADLINE more
pub record IsCounted (times : Moments) (first : ℕ) : Type 0 where
  pub since : Since times.pace times.made first times.now times.client
  pub sends : times.client.shows ≤ first + DEADLINE → times.now ≤ times.until
  pub last : ℕ
  pub last_early : last ≤ first + DEADLINE
  pub last_since : Since times.pace times.until last times.now times.client

-- the clocks show their milliseconds, and the times of the machines fit their pace; so it is where the client has not restarted since the ask
pub record IsTimed (times : Moments) (first : ℕ) : Type 0 where
  pub timely : IsTimely times.pace
  pub client : IsShown times.pace times.client
  pub server : IsShown times.pace times.server
  pub on : times.made ≤ times.now
  pub until_on : times.until ≤ times.now
  pub early : times.until ≤ times.made + most times.pace DEADLINE
  pub counts : times.restarted ≤ times.made → IsCounted times first

-- the reply has no more pieces than these
abbrev pub IsDownWithin : (most : ℕ) → Down → Type 0
IsDownWithin most Unsent = Unit {0}
IsDownWithin most (Sent pieces taken sent) = length pieces ≤ most

pub record Sound (W most : ℕ) (key : Key) (times : Moments) (asks number : ℕ) (t : ClientTransaction) (entry : Option ServerTransaction) (copies : List Copy) (log : List Fact) (up : Up)
    (down : Down) : Type 0 where
  pub clock : IsTimed times t.ask.first
  pub numbers : IsBelow asks log
  pub counted : asks ≡ asks_in log
  pub orderly : IsOrderly log
  pub asked : Has (Asked number key.client key.server (request_of t.ask)) log
  pub unended : IsOpenIn t.phase number log
  pub lives : is_idle t.phase ≡ false → times.restarted ≤ times.made
  pub client : ClientFits W t.ask t.phase up down
  pub passes : PassFits t.ask t.repeats up
  pub server : ServerFits W times number t.ask entry up down log
  pub upload : UpFits W t.ask up
  pub download : DownFits W down
  pub asked_within : length t.ask.pieces ≤ most
  pub given_within : IsDownWithin most down
  pub arriving : EachCopy (λ k c. Fits W times number t.ask log up down k c) copies

-- nothing was asked yet of this transaction
pub record IsFresh (asks : ℕ) (entry : Option ServerTransaction) (copies : List Copy) (log : List Fact) : Type 0 where
  pub no_entry : entry ≡ None
  pub no_copies : copies ≡ []
  pub numbers : IsBelow asks log
  pub counted : asks ≡ asks_in log
  pub orderly : IsOrderly log

abbrev pub IsSoundAt : ℕ → Key → Option ClientTransaction → Transaction → Type 0
IsSoundAt W key None w = IsFresh w.asks w.entry w.copies w.log
IsSoundAt W key (Some t) w = (up : Up) × (down : Down) × Sound W w.pieces key w.times w.asks w.number t w.entry w.copies w.log up down

abbrev pub IsSound : ℕ → Key → Transaction → Type 0
IsSound W key w = IsSoundAt W key w.ticket w
