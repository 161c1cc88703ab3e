-- What is said of each moment of a run beside the log: whose copies may arrive, and that no number among them is misread.
use Rattle.std.specs.Prelude.{◌≡◌, ℕ, ◌+◌, ◌-◌, ◌*◌, ◌%◌, ◌<◌, ◌≤◌, ◌≢◌, ◌⊎◌, Bool, true, false, List, [], ◌∷◌, length, take, Option, Some, None, slice_get}
use Rattle.std.specs.Prelude.{if◌then◌else◌, nat_lt, ◌&&◌}
use Rattle.bac_apdu.specs.Apdu.{Apdu, Segment}
use Rattle.bac_apdu.specs.Apdu.Apdu.{ConfirmedRequest, UnconfirmedRequest, SimpleAck, ComplexAck, SegmentAck, Error}
use Rattle.bac_segment.specs.Limits.{N_RETRY}
use Rattle.bac_segment.specs.Numbers.{ahead}
use Rattle.bac_segment.specs.Pieces.{join, piece_at}
use Rattle.bac_segment.specs.Window.{Outgoing, in_window, Incoming}
use Rattle.bac_protocol.specs.Times.{DEADLINE, KEEP}
use Rattle.bac_protocol.specs.Pace.{Pace, Clock, most, Since}
use Rattle.bac_protocol.specs.Service.{Octets, Request, Reply as reply}
use Rattle.bac_protocol.specs.Wire.{is_from_client}
use Rattle.bac_protocol.specs.Client.{Ask, request_of, Phase, ClientTransaction}
use Rattle.bac_protocol.specs.Client.Phase.{AwaitConfirmation, SegmentedConf, Idle}
use Rattle.bac_protocol.specs.Server.{State, ServerTransaction, is_live, is_none_live}
use Rattle.bac_protocol.specs.Server.State.{Done, SegmentedResponse, Dropped}
use Rattle.bac_protocol.specs.Log.{Fact, Has, StoreModel}
use Rattle.bac_protocol.specs.Log.Fact.{Asked, Performed, Restarted, Served}
use Rattle.bac_protocol.specs.Transaction.{Key, Rules, Copy}
use Rattle.bac_protocol.specs.World.{Net, Post, World, later, is_deliverable, copies_of, server_now, happens}
use Rattle.bac_protocol.specs.World.Event.{Stray}

-- the windows of all nodes are at most W, and few enough later copies may overtake one
pub record IsBounded (W : ℕ) (x : Rules) : Type 0 where
  pub some : 0 < W
  pub windows : (node : ℕ) → (x.settings node).window ≤ W
  pub room : x.overtake + 2 * W ≤ 255

-- each copy, at its place among the newest first: that many later ones there are
abbrev pub EachCopy : (ℕ → Copy → Type 0) → List Copy → Type 0
EachCopy P copies = (k : ℕ) (c : Copy) → slice_get copies k ≡ Some c → P k c

-- copy c of that transaction, with k later ones, may arrive
abbrev pub MayArrive : Rules → Net → Key → ℕ → Copy → Type 0
MayArrive x n key k c = (n.now - c.moment ≤ n.pace.life) × ((k ≤ x.overtake) ⊎ (n.pieces key ≤ 256))

-- The times of one transaction: real ones, and what the clocks of its ends show.
pub record Moments : Type 0 where
  pub pace : Pace
  pub made : ℕ  -- the real moment at which its newest ask was made
  pub until : ℕ  -- the last one, so far, at which its client was in time to send for it
  pub now : ℕ
  pub client : Clock
  pub server : Clock
  pub restarted : ℕ  -- what its client asked before this real moment is lost
  pub opens : ℕ  -- the first moment, by its server's clock, at which the server begins entries

abbrev pub moments_of : Net → Key → Moments
moments_of n key = record {
  pace = n.pace;
  made = n.made key;
  until = n.until key;
  now = n.now;
  client = n.client_clocks key.client;
  server = n.server_clocks key.server;
  restarted = n.restarted key.client;
  opens = n.serves_from key.server;
}

-- the last real moment at which the client sends for the ask, and the server
abbrev pub client_until : Moments → ℕ
client_until m = m.until

abbrev pub server_until : Moments → ℕ
server_until m = m.until + m.pace.life + most m.pace KEEP

-- what the server's clock showed then, it showed since the ask was made, and while a request of it could arrive
pub record IsBegunSince (m : Moments) (begin : ℕ) : Type 0 where
  pub began : ℕ
  pub after : m.made ≤ began
  pub before : began ≤ m.until + m.pace.life
  pub since : Since m.pace began begin m.now m.server

-- the server restarted since the ask was made
pub record HasRestartedSince (m : Moments) : Type 0 where
  pub restarted : ℕ
  pub shown : ℕ
  pub after : m.made ≤ restarted
  pub since : Since m.pace restarted shown m.now m.server
  pub opens_is : m.opens ≡ shown + KEEP + 1

-- the world's copy of that number stands among those of its transaction at the number of later ones, and is deliverable exactly where it may arrive
pub record IsInPlace (x : Rules) (n : Net) (number : ℕ) (p : Post) : Type 0 where
  pub place : slice_get (copies_of p.key n.posts) (later p.key number n.posts) ≡ Some p.copy
  pub arrives : is_deliverable x n number p ≡ true → MayArrive x n p.key (later p.key number n.posts) p.copy
  pub only : MayArrive x n p.key (later p.key number n.posts) p.copy → is_deliverable x n number p ≡ true

-- piece p of these, as a segment carries it
pub record IsPieceAt (pieces : List Octets) (p : ℕ) (segment : Segment) (octets : Octets) : Type 0 where
  pub within : p < length pieces
  pub number_is : segment.number ≡ p % 256
  pub more_is : segment.more ≡ nat_lt (p + 1) (length pieces)
  pub octets_is : octets ≡ piece_at pieces p

-- a segment is one of the pieces
abbrev pub IsPieceOf : List Octets → Segment → Octets → Type 0
IsPieceOf pieces segment octets = (p : ℕ) × IsPieceAt pieces p segment octets

-- Whose copies may arrive.

-- the ask of that number was performed with that reply
abbrev pub WasPerformed : ℕ → Ask → reply → List Fact → Type 0
WasPerformed number ask p log = Has (Performed number (request_of ask) p) log

-- an APDU is of the ask: its request, or a piece of it; the reply with which it was performed, or a piece of it, for its service choice; or a
-- SegmentACK, Reject or Abort
abbrev pub IsOfAsk : ℕ → Ask → List Fact → Apdu → Type 0
IsOfAsk number ask log (ConfirmedRequest limits invoke_id None choice service) =
    (ask.whole ≡ true) × (choice ≡ ask.choice) × (service ≡ join ask.pieces)
IsOfAsk number ask log (ConfirmedRequest limits invoke_id (Some segment) choice service) =
    (ask.whole ≡ false) × (choice ≡ ask.choice) × IsPieceOf ask.pieces segment service
IsOfAsk number ask log (UnconfirmedRequest choice service) = ⊥
IsOfAsk number ask log (SimpleAck invoke_id choice) = (choice ≡ ask.choice) × WasPerformed number ask reply.Simple log
IsOfAsk number ask log (ComplexAck invoke_id None choice service) = (choice ≡ ask.choice) × WasPerformed number ask (reply.Complex service) log
IsOfAsk number ask log (ComplexAck invoke_id (Some segment) choice service) =
    (choice ≡ ask.choice) × ((pieces : List Octets) × WasPerformed number ask (reply.Complex (join pieces)) log × IsPieceOf pieces segment service)
IsOfAsk number ask log (Error invoke_id choice class code) = (choice ≡ ask.choice) × WasPerformed number ask (reply.Error class code) log
IsOfAsk number ask log _ = Unit {0}

-- the last moment at which an APDU of the ask is sent: its client sends for DEADLINE; a copy that it sent then may arrive a life of copies later, and
-- begin an entry, for which its server sends while it is live
abbrev pub sent_until : Moments → Apdu → ℕ
sent_until m apdu = if is_from_client apdu then client_until m else server_until m

-- a copy is of that ask, and was sent since it was made and while its ends send for it
pub record IsCopyOf (m : Moments) (number : ℕ) (ask : Ask) (log : List Fact) (c : Copy) : Type 0 where
  pub after : m.made ≤ c.moment
  pub before : c.moment ≤ sent_until m c.apdu
  pub is_of : IsOfAsk number ask log c.apdu

-- an entry was begun for the ask
pub record IsEntryOf (m : Moments) (ask : Ask) (e : ServerTransaction) : Type 0 where
  pub begun : IsBegunSince m e.begin
  pub choice : e.choice ≡ ask.choice

-- an entry that is live was begun for that ask
abbrev pub LiveIsOf : Moments → Ask → Option ServerTransaction → Type 0
LiveIsOf m ask None = Unit {0}
LiveIsOf m ask (Some e) = is_live m.server.shows e ≡ true → IsEntryOf m ask e

-- each copy of the transaction that may arrive is of its newest ask, and so is its entry, where it is live
pub record IsOfNewest (x : Rules) (n : Net) (key : Key) (t : ClientTransaction) : Type 0 where
  pub asked : Has (Asked (n.numbers key) key.client key.server (request_of t.ask)) n.log
  pub copies : EachCopy (λ k c. MayArrive x n key k c → IsCopyOf (moments_of n key) (n.numbers key) t.ask n.log c) (copies_of key n.posts)
  pub entry : LiveIsOf (moments_of n key) t.ask (n.entries key)

-- where there was no ask, there is nothing
pub record IsUnasked (n : Net) (key : Key) : Type 0 where
  pub copies : copies_of key n.posts ≡ []
  pub entry : n.entries key ≡ None

-- what is known of a transaction, with a ticket or without one
abbrev pub IsOfTicket : Rules → Net → Key → Option ClientTransaction → Type 0
IsOfTicket x n key None = IsUnasked n key
IsOfTicket x n key (Some t) = IsOfNewest x n key t

-- a ticket is that of the newest ask of its transaction
abbrev pub AreOfNewest : Rules → Net → Type 0
AreOfNewest x n = (key : Key) → IsOfTicket x n key (n.tickets key)

-- copies that are too old to arrive
abbrev pub are_too_old : Net → List Copy → Bool
are_too_old n [] = true
are_too_old n (c ∷ copies) = nat_lt n.pace.life (n.now - c.moment) && are_too_old n copies

-- nothing is left of a transaction: no copy of it can arrive any more, and its server has no live entry of it
abbrev pub is_nothing_left : Net → Key → Bool
is_nothing_left n key = are_too_old n (copies_of key n.posts) && is_none_live (server_now n key) (n.entries key)

-- When nothing is left of a transaction: where nothing was asked; once the last copy that its client could send for the newest ask is so old, and once that ask
-- is so old
pub record NothingIsLeft (n : Net) : Type 0 where
  pub unasked : (key : Key) → n.tickets key ≡ None → is_nothing_left n key ≡ true
  pub unsent : (key : Key) → n.until key + n.pace.life + most n.pace KEEP + n.pace.life < n.now → is_nothing_left n key ≡ true
  pub old : (key : Key) → n.made key + most n.pace DEADLINE + n.pace.life + most n.pace KEEP + n.pace.life < n.now → is_nothing_left n key ≡ true

-- Windows. Pieces have whole numbers from 0 on: all that were sent are below `sent`, the receiver has taken those below `taken`, in order, and those
-- below `acknowledged` were acknowledged to the sender.

-- a segment, with k later copies, is a piece of these that was sent, whose whole number is little less than those that were sent
pub record IsPiece (W : ℕ) (pieces : List Octets) (sent k : ℕ) (segment : Segment) (octets : Octets) : Type 0 where
  pub piece : ℕ
  pub is : IsPieceAt pieces piece segment octets
  pub below : piece < sent
  pub near : sent ≤ piece + 1 + W + k

-- a SegmentACK, with k later copies, is of a piece that was taken, whose whole number is little less than those that were sent
pub record IsAck (W taken sent k number : ℕ) : Type 0 where
  pub piece : ℕ
  pub number_is : number ≡ piece % 256
  pub below : piece < taken
  pub near : sent ≤ piece + 1 + W + k

-- where the sender of a pass stands: acknowledged ≤ taken, sent ≤ acknowledged + W, and its window is at most W
pub record IsInWindow (W : ℕ) (out : Outgoing) (taken sent : ℕ) : Type 0 where
  pub window : out.window ≤ W
  pub acknowledged_taken : out.first ≤ taken
  pub sent_window : sent ≤ out.first + W

-- No number is misread.

-- a segment that has the number of the next piece, while there is one, is the next piece
abbrev pub IsReadAsNext : List Octets → (taken : ℕ) → Segment → Octets → Type 0
IsReadAsNext pieces taken segment octets = taken < length pieces → segment.number ≡ taken % 256 → IsPieceAt pieces taken segment octets

-- what a SegmentACK acknowledges to the sender of these pieces was taken
abbrev pub IsReadAsTaken : (W : ℕ) → List Octets → (taken sent number : ℕ) → Type 0
IsReadAsTaken W pieces taken sent number = (out : Outgoing) → out.pieces ≡ pieces → IsInWindow W out taken sent → ahead number out.first < in_window out
    → out.first + ahead number out.first < taken

-- all this of the APDUs of a request's transfer
abbrev pub IsNearUp : (W : ℕ) → List Octets → (taken sent : ℕ) → ℕ → Apdu → Type 0
IsNearUp W pieces taken sent k (ConfirmedRequest limits invoke_id (Some segment) choice service) =
    IsPiece W pieces sent k segment service × IsReadAsNext pieces taken segment service
IsNearUp W pieces taken sent k (SegmentAck true invoke_id ack) = IsAck W taken sent k ack.number × IsReadAsTaken W pieces taken sent ack.number
IsNearUp W pieces taken sent k _ = Unit {0}

-- and of a reply's
abbrev pub IsNearDown : (W : ℕ) → List Octets → (taken sent : ℕ) → ℕ → Apdu → Type 0
IsNearDown W pieces taken sent k (ComplexAck invoke_id (Some segment) choice service) =
    IsPiece W pieces sent k segment service × IsReadAsNext pieces taken segment service
IsNearDown W pieces taken sent k (SegmentAck false invoke_id ack) = IsAck W taken sent k ack.number × IsReadAsTaken W pieces taken sent ack.number
IsNearDown W pieces taken sent k _ = Unit {0}

-- in a pass over so many pieces, taken ≤ sent ≤ taken + W; the whole number p of each copy that may arrive has p < sent ≤ p + 1 + W + k, and it is
-- read as it was meant
pub record IsNearPass (W : ℕ) (x : Rules) (n : Net) (key : Key) (total taken sent : ℕ) (near : ℕ → Apdu → Type 0) (copies : List Copy) : Type 0 where
  pub taken_sent : taken ≤ sent
  pub sent_taken : sent ≤ taken + W
  pub sent_total : sent ≤ total
  pub copies_near : EachCopy (λ k c. MayArrive x n key k c → near k c.apdu) copies

-- so many pieces were taken: the first of them
pub record HasFront (pieces : List Octets) (inc : Incoming) (taken : ℕ) : Type 0 where
  pub taken_is : length inc.parts ≡ taken
  pub parts_are : inc.parts ≡ take taken pieces

-- how many pieces an entry that was begun for the ask has taken of its request: those that it holds, or all, or, where it was dropped, not all
abbrev pub StateHasTaken : List Octets → State → ℕ → Type 0
StateHasTaken pieces (State.SegmentedRequest inc since) taken = HasFront pieces inc taken
StateHasTaken pieces (Done kept) taken = taken ≡ length pieces
StateHasTaken pieces (SegmentedResponse out transfer since) taken = taken ≡ length pieces
StateHasTaken pieces Dropped taken = taken < length pieces

-- the client has not restarted since the newest ask was made
abbrev pub ClientStays : Net → Key → Type 0
ClientStays n key = n.restarted key.client ≤ n.made key

-- and it has taken none, where no entry was begun for the ask; where it restarted since, it may have taken any
abbrev pub ServerHasTaken : Moments → Ask → Option ServerTransaction → ℕ → Type 0
ServerHasTaken m ask None taken = (taken ≡ 0) ⊎ HasRestartedSince m
ServerHasTaken m ask (Some e) taken = ((is_live m.server.shows e ≡ false) × (taken ≡ 0)) ⊎ (IsBegunSince m e.begin × StateHasTaken ask.pieces e.state taken)

-- where the request's sender stands: it sends; all was acknowledged; a segment of its reply came; or its ticket is over, and it sends no more
abbrev pub ClientIsInWindow : ℕ → Ask → Phase → (taken sent : ℕ) → Type 0
ClientIsInWindow W ask (Phase.SegmentedRequest out all_sent) taken sent = IsInWindow W out taken sent
ClientIsInWindow W ask AwaitConfirmation taken sent = taken ≡ length ask.pieces
ClientIsInWindow W ask (SegmentedConf inc) taken sent = taken ≡ length ask.pieces
ClientIsInWindow W ask Idle taken sent = Unit {0}

-- the first pass of a request in segments
pub record IsRequestPass (W : ℕ) (x : Rules) (n : Net) (key : Key) (t : ClientTransaction) : Type 0 where
  pub taken : ℕ
  pub sent : ℕ
  pub server : ServerHasTaken (moments_of n key) t.ask (n.entries key) taken
  pub client : ClientIsInWindow W t.ask t.phase taken sent
  pub pass : IsNearPass W x n key (length t.ask.pieces) taken sent (IsNearUp W t.ask.pieces taken sent) (copies_of key n.posts)

-- a request in segments is in its first pass until a repeat is made
abbrev pub RequestsAreInWindow : ℕ → Rules → Net → Type 0
RequestsAreInWindow W x n =
    (key : Key) (t : ClientTransaction) → n.tickets key ≡ Some t → t.ask.whole ≡ false → t.repeats ≡ N_RETRY → IsRequestPass W x n key t

-- how many pieces of its reply a ticket has taken: none yet; those that it holds; where it is over, that is not known any more
abbrev pub ClientHasTaken : List Octets → Phase → ℕ → Type 0
ClientHasTaken pieces (Phase.SegmentedRequest out all_sent) taken = taken ≡ 0
ClientHasTaken pieces AwaitConfirmation taken = taken ≡ 0
ClientHasTaken pieces (SegmentedConf inc) taken = HasFront pieces inc taken
ClientHasTaken pieces Idle taken = taken ≤ length pieces

-- the one pass of a reply in segments
pub record IsReplyPass (W : ℕ) (x : Rules) (n : Net) (key : Key) (t : ClientTransaction) (out : Outgoing) : Type 0 where
  pub taken : ℕ
  pub sent : ℕ
  pub performed : WasPerformed (n.numbers key) t.ask (reply.Complex (join out.pieces)) n.log
  pub client : ClientHasTaken out.pieces t.phase taken
  pub server : IsInWindow W out taken sent
  pub pass : IsNearPass W x n key (length out.pieces) taken sent (IsNearDown W out.pieces taken sent) (copies_of key n.posts)

-- where no reply was begun in segments, no segment of one may arrive, and no SegmentACK of its client
abbrev pub IsOfNoPass : Apdu → Type 0
IsOfNoPass (ComplexAck invoke_id (Some segment) choice service) = ⊥
IsOfNoPass (SegmentAck false invoke_id ack) = ⊥
IsOfNoPass _ = Unit {0}

-- no segment of a reply may arrive
abbrev pub IsUnsent : Rules → Net → Key → Type 0
IsUnsent x n key = EachCopy (λ k c. MayArrive x n key k c → IsOfNoPass c.apdu) (copies_of key n.posts)

-- the pass of a reply whose server restarted in it, and gives no more of it
pub record IsLostPass (W : ℕ) (x : Rules) (n : Net) (key : Key) (t : ClientTransaction) : Type 0 where
  pub pieces : List Octets
  pub taken : ℕ
  pub sent : ℕ
  pub performed : WasPerformed (n.numbers key) t.ask (reply.Complex (join pieces)) n.log
  pub client : ClientHasTaken pieces t.phase taken
  pub pass : IsNearPass W x n key (length pieces) taken sent (IsNearDown W pieces taken sent) (copies_of key n.posts)

-- in SEGMENTED_RESPONSE the one pass of the reply goes on; otherwise it has not begun
abbrev pub StateHasReplyPass : (W : ℕ) → Rules → Net → Key → ClientTransaction → State → Type 0
StateHasReplyPass W x n key t (SegmentedResponse out transfer since) = IsReplyPass W x n key t out
StateHasReplyPass W x n key t _ = IsUnsent x n key

-- the same of an entry, which may be of an earlier ask
abbrev pub ServerHasReplyPass : (W : ℕ) → Rules → Net → Key → ClientTransaction → Option ServerTransaction → Type 0
ServerHasReplyPass W x n key t None = IsUnsent x n key ⊎ (HasRestartedSince (moments_of n key) × IsLostPass W x n key t)
ServerHasReplyPass W x n key t (Some e) =
    ((is_live (moments_of n key).server.shows e ≡ false) × IsUnsent x n key)
    ⊎ (IsBegunSince (moments_of n key) e.begin × StateHasReplyPass W x n key t e.state)

-- a reply in segments is given in one pass by the entry that was begun for the ask, also after the ticket's end
abbrev pub RepliesAreInWindow : ℕ → Rules → Net → Type 0
RepliesAreInWindow W x n = (key : Key) (t : ClientTransaction) → n.tickets key ≡ Some t → ServerHasReplyPass W x n key t (n.entries key)

-- Later passes.

-- a later pass of a request was begun, or its first was acknowledged, or a segment of its reply came
abbrev pub IsPastFirstPass : Phase → (repeats : ℕ) → Type 0
IsPastFirstPass (Phase.SegmentedRequest out all_sent) repeats = repeats < N_RETRY
IsPastFirstPass AwaitConfirmation repeats = Unit {0}
IsPastFirstPass (SegmentedConf inc) repeats = Unit {0}
IsPastFirstPass Idle repeats = repeats < N_RETRY

-- the entry keeps a reply
abbrev pub HasReply : State → Type 0
HasReply (State.SegmentedRequest inc since) = ⊥
HasReply (Done kept) = Unit {0}
HasReply (SegmentedResponse out transfer since) = Unit {0}
HasReply Dropped = ⊥

-- the entry was begun for this ask, is live and keeps a reply
abbrev pub IsLiveWithReply : Moments → Option ServerTransaction → Type 0
IsLiveWithReply m None = ⊥
IsLiveWithReply m (Some e) = IsBegunSince m e.begin × (is_live m.server.shows e ≡ true) × HasReply e.state

-- a segment of a request
abbrev pub IsSegmentOfRequest : Apdu → Type 0
IsSegmentOfRequest (ConfirmedRequest limits invoke_id (Some segment) choice service) = Unit {0}
IsSegmentOfRequest _ = ⊥

-- from then on, while a segment of the request may arrive, the entry that was begun for this ask is live and keeps a reply, or its server restarted
abbrev pub LaterPassesFindReply : Rules → Net → Type 0
LaterPassesFindReply x n =
    (key : Key) (t : ClientTransaction) → n.tickets key ≡ Some t → t.ask.whole ≡ false → IsPastFirstPass t.phase t.repeats
    → EachCopy (λ k c. MayArrive x n key k c → IsSegmentOfRequest c.apdu
    → HasRestartedSince (moments_of n key) ⊎ IsLiveWithReply (moments_of n key) (n.entries key)) (copies_of key n.posts)

-- Strangers.

-- the log has that fact since that server restarted last
abbrev pub HasSinceRestart : (server : ℕ) → Fact → List Fact → Type 0
HasSinceRestart server f [] = ⊥
HasSinceRestart server f (Restarted s o ∷ log) = (s ≢ server) × HasSinceRestart server f log
HasSinceRestart server f (g ∷ log) = (g ≡ f) ⊎ HasSinceRestart server f log

-- the requests of one stranger with one invoke ID that one server performed since it restarted last are of entries that began more than KEEP apart, by its
-- clock
abbrev pub AreSpaced : List Fact → Type 0
AreSpaced [] = Unit {0}
AreSpaced (Served q s i b r p ∷ log) = ((a : ℕ) (r' : Request) (p' : reply) → HasSinceRestart s (Served q s i a r' p') log → a + KEEP < b) × AreSpaced log
AreSpaced (f ∷ log) = AreSpaced log

-- what was performed for strangers; and a server begins no entry for them while it waits after a restart
pub record AreServedApart (n : Net) : Type 0 where
  pub spaced : AreSpaced n.log
  pub waited : (q s i b : ℕ) (r : Request) (p : reply) → HasSinceRestart s (Served q s i b r p) n.log → n.serves_from s ≤ b

-- all but the tables for strangers, the log and which servers served is as it was: the asks of nodes, their entries, their copies and time
abbrev pub LeavesNodes : (old new : Net) → Type 0
LeavesNodes old new = new ≡ record old { served = new.served; far = new.far; log = new.log }

-- a stranger's APDU changes nothing of that, and no store but that of the node at which it is heard
pub record StraysLeaveNodes (S : Type 0) (model : StoreModel S) (x : Rules) : Type 0 where
  pub nodes : (w : World S) (key : Key) (free : Bool) (a : Apdu) → LeavesNodes w.net (happens S model x w (Stray key free a)).net
  pub stores : (w : World S) (key : Key) (free : Bool) (a : Apdu) (node : ℕ) → (node ≡ key.server → ⊥)
      → (happens S model x w (Stray key free a)).stores node ≡ w.stores node
