-- After any past, for requests and replies in segments too: where all that was sent before is lost, one timer that is due, and then each copy that is sent
-- from then on, delivered once, in order of sending, answer the ask.
use Rattle.std.specs.Prelude.{◌≡◌, ℕ, ◌+◌, ◌-◌, ◌*◌, ◌<◌, ◌≤◌, ◌⊎◌, true, false, List, [], ◌∷◌, length, Option, Some, None}
use Rattle.bac_segment.specs.Pieces.{join}
use Rattle.bac_protocol.specs.declared.times.TheConstants.{DEADLINE, T_OUT, T_SEG, T_WAIT_FOR_SEG}
use Rattle.bac_protocol.specs.Service.{Reply}
use Rattle.bac_protocol.specs.Service.Reply.{Complex}
use Rattle.bac_protocol.specs.Service.Outcome.{Replies}
use Rattle.bac_protocol.specs.Service.Ending.{Answered}
use Rattle.bac_protocol.specs.Client.{Phase, ClientTransaction, is_idle, request_of}
use Rattle.bac_protocol.specs.Client.Phase.{SegmentedRequest, AwaitConfirmation, SegmentedConf, Idle}
use Rattle.bac_protocol.specs.Server.{State, ServerTransaction, live_entry, reply_apdu}
use Rattle.bac_protocol.specs.Server.State.{Done, SegmentedResponse, Dropped}
use Rattle.bac_protocol.specs.Server.Transfer.{Running, Stopped, Finished}
use Rattle.bac_protocol.specs.Log.{Has, StoreModel}
use Rattle.bac_protocol.specs.Log.Fact.{Performed, Ended}
use Rattle.bac_protocol.specs.Transaction.{Key, Rules, server_context}
use Rattle.bac_protocol.specs.World.{World, happens, Net, client_now, server_now}
use Rattle.bac_protocol.specs.World.Event.{Tick}
use Rattle.bac_protocol.specs.Straight.{AreStraight, Straight, Stops, RequestFits, WayFits, KindFits, way_to, way_count, request_count, is_ended}
use Rattle.bac_protocol.specs.Claims.{HasRestartedSince, moments_of}
use Rattle.bac_liveness.specs.Runs.{HasWindows}
use Rattle.bac_liveness.specs.InStep.{AreInStep}

-- its server has not restarted since the ask
abbrev pub ServerStays : Net → Key → Type 0
ServerStays n key = HasRestartedSince (moments_of n key) → ⊥

-- Whose timer is due.

-- the client's, with a retry or a repeat left
abbrev pub ClientIsDue : (now : ℕ) → ClientTransaction → Phase → Type 0
ClientIsDue now t (SegmentedRequest out all_sent) = (T_SEG ≤ now - t.since) × (0 < out.retries)
ClientIsDue now t AwaitConfirmation = (T_OUT ≤ now - t.since) × (0 < t.repeats)
ClientIsDue now t (SegmentedConf inc) = (T_WAIT_FOR_SEG ≤ now - t.since) × (0 < t.repeats) × (t.ask.whole ≡ true)
ClientIsDue now t Idle = ⊥

-- and its server then does something with a copy of the request: a reassembly is not too old, a reply of one APDU is kept, or the transfer of one in
-- segments has stopped
abbrev pub HearsRequest : (now : ℕ) → State → Type 0
HearsRequest now (State.SegmentedRequest inc since) = now - since < T_WAIT_FOR_SEG
HearsRequest now (Done kept) = Unit {0}
HearsRequest now (SegmentedResponse out Running since) = ⊥
HearsRequest now (SegmentedResponse out Stopped since) = Unit {0}
HearsRequest now (SegmentedResponse out Finished since) = ⊥
HearsRequest now Dropped = ⊥

abbrev pub TakesRequest : (now : ℕ) → Option ServerTransaction → Type 0
TakesRequest now None = Unit {0}
TakesRequest now (Some e) = HearsRequest now e.state

-- its server's, with a retry left
abbrev pub TransferIsDue : (now : ℕ) → State → Type 0
TransferIsDue now (SegmentedResponse out Running since) = (T_SEG ≤ now - since) × (0 < out.retries)
TransferIsDue now _ = ⊥

abbrev pub ServerIsDue : (now : ℕ) → Option ServerTransaction → Type 0
ServerIsDue now None = ⊥
ServerIsDue now (Some e) = TransferIsDue now e.state

-- With which reply: that of the server's store, or the one that is kept.
abbrev pub Keeps : Rules → Key → (now : ℕ) → ClientTransaction → Reply → State → (fresh : Type 0) → Type 0
Keeps x key now t p (State.SegmentedRequest inc since) fresh = fresh
Keeps x key now t p (Done kept) fresh = kept ≡ reply_apdu (server_context x key now) t.ask.choice p
Keeps x key now t p (SegmentedResponse out transfer since) fresh = p ≡ Complex (join out.pieces)
Keeps x key now t p Dropped fresh = ⊥

abbrev pub Gives : (S : Type 0) → StoreModel S → Rules → World S → Key → ClientTransaction → Reply → Option ServerTransaction → Type 0
Gives S model x w key t p None = model.outcome (w.stores key.server) t.ask.choice (join t.ask.pieces) ≡ Replies p
Gives S model x w key t p (Some e) =
    Keeps x key (server_now w.net key) t p e.state (model.outcome (w.stores key.server) t.ask.choice (join t.ask.pieces) ≡ Replies p)

-- an open ticket, in time, whose request can go and whose reply can reach it; its server does not wait after a restart
pub record CanStill (S : Type 0) (model : StoreModel S) (x : Rules) (w : World S) (key : Key) (t : ClientTransaction) (p : Reply) : Type 0 where
  pub going : is_idle t.phase ≡ false
  pub in_time : client_now w.net key - t.ask.first ≤ DEADLINE
  pub serving : w.net.serves_from key.server ≤ server_now w.net key
  pub request : RequestFits t.ask.whole t.ask.pieces
  pub way : WayFits (way_to x key p)
  pub kind : KindFits x.readable t.ask.choice p
  pub gives : Gives S model x w key t p (live_entry (server_now w.net key) (w.net.entries key))

-- one of the two ends has its turn: its tick alone
abbrev pub IsTurn : (S : Type 0) → World S → Key → ClientTransaction → (as_client as_server : List Key) → Type 0
IsTurn S w key t as_client as_server =
    let o = live_entry (server_now w.net key) (w.net.entries key) in
    (ClientIsDue (client_now w.net key) t t.phase × TakesRequest (server_now w.net key) o × (as_client ≡ key ∷ []) × (as_server ≡ []))
    ⊎ (ServerIsDue (server_now w.net key) o × (as_client ≡ []) × (as_server ≡ key ∷ []))

-- the ask has ended with the reply with which it was performed, after at most so many deliveries
pub record IsAnsweredIn (S : Type 0) (x : Rules) (key : Key) (t : ClientTransaction) (number : ℕ) (p : Reply) (count : ℕ) (new : World S) : Type 0 where
  pub ended : Has (Ended number (Answered p)) new.net.log
  pub performed : Has (Performed number (request_of t.ask) p) new.net.log
  pub cheap : count ≤ 3 * request_count t.ask.whole t.ask.pieces + 3 * way_count (way_to x key p)

abbrev pub TurnAnswers : (S : Type 0) → StoreModel S → Rules → World S → Key → ClientTransaction → Type 0
TurnAnswers S model x w key t =
    AreStraight x key → (p : Reply) → CanStill S model x w key t p
    → (as_client as_server : List Key) → IsTurn S w key t as_client as_server
    → (count : ℕ) (v : World S)
    → Straight S (λ u e y. y ≡ happens S model x u e) key true count (length w.net.posts) (happens S model x w (Tick as_client as_server)) v
    → Stops S key (length w.net.posts + count) v
    → IsAnsweredIn S x key t (w.net.numbers key) p count v

-- there is such a run, and its last delivery ends the ticket
pub record RunsOut (S : Type 0) (model : StoreModel S) (x : Rules) (key : Key) (t : ClientTransaction) (number : ℕ) (p : Reply) (first : ℕ)
    (ticked : World S) : Type 0 where
  pub count : ℕ
  pub last : World S
  pub run : Straight S (λ u e y. y ≡ happens S model x u e) key true count first ticked last
  pub over : is_ended (last.net.tickets key) ≡ true
  pub answered : IsAnsweredIn S x key t number p count last

abbrev pub TurnRunsOut : (S : Type 0) → StoreModel S → Rules → World S → Key → ClientTransaction → Type 0
TurnRunsOut S model x w key t =
    AreStraight x key → (p : Reply) → CanStill S model x w key t p
    → (as_client as_server : List Key) → IsTurn S w key t as_client as_server
    → RunsOut S model x key t (w.net.numbers key) p (length w.net.posts) (happens S model x w (Tick as_client as_server))

-- so it is wherever the two ends are in step
abbrev pub InStepIsAnswered : (S : Type 0) → StoreModel S → Rules → World S → Type 0
InStepIsAnswered S model x w =
    (key : Key) (t : ClientTransaction) → w.net.tickets key ≡ Some t → AreInStep x key t.ask t.phase (live_entry (server_now w.net key) (w.net.entries key))
    → TurnAnswers S model x w key t

-- after any past in which its server has not restarted since the ask
abbrev pub AfterAnyPast : (S : Type 0) → StoreModel S → Rules → World S → Type 0
AfterAnyPast S model x w = (key : Key) (t : ClientTransaction) → w.net.tickets key ≡ Some t → ServerStays w.net key → TurnAnswers S model x w key t

-- and such a run exists
abbrev pub AnsweringRunExists : (S : Type 0) → StoreModel S → Rules → World S → Type 0
AnsweringRunExists S model x w = (key : Key) (t : ClientTransaction) → w.net.tickets key ≡ Some t → ServerStays w.net key → TurnRunsOut S model x w key t

-- the two ends of each transaction are in step whose ask is in time, and whose server has not restarted since
abbrev pub EndsAreInStep : (S : Type 0) → Rules → World S → Type 0
EndsAreInStep S x w =
    (key : Key) → HasWindows x key → (t : ClientTransaction) → w.net.tickets key ≡ Some t → ServerStays w.net key
    → client_now w.net key - t.ask.first ≤ DEADLINE
    → AreInStep x key t.ask t.phase (live_entry (server_now w.net key) (w.net.entries key))
