-- What a run keeps of the two ends of a transaction: that they stay in step. The first piece that a sender has not sent is known from where it stands.
use Rattle.std.proofs.Common.{◌≡◌, ℕ, ◌+◌, ◌-◌, ◌<◌, ◌≤◌, ◌⊎◌, Bool, true, List, length, Option, Some, None, if◌then◌else◌, subst, arith}
use Rattle.std.proofs.lemmas.Bool.Decides.{nat_tests}
use Rattle.bac_apdu.specs.Apdu.{Apdu, Limits, Segment}
use Rattle.bac_apdu.specs.Apdu.Apdu.{ConfirmedRequest, UnconfirmedRequest, SimpleAck, ComplexAck, SegmentAck, Error, Reject, Abort}
use Rattle.bac_segment.specs.Limits.{N_RETRY}
use Rattle.bac_segment.specs.Pieces.{join, piece_at}
use Rattle.bac_segment.specs.Window.{Outgoing, in_window, Incoming}
use Rattle.bac_protocol.specs.Context.{Context}
use Rattle.bac_protocol.specs.Service.{Octets}
use Rattle.bac_protocol.specs.Wire.{is_from_client, is_from_server, segment_of, Each}
use Rattle.bac_protocol.specs.Client as client
use Rattle.bac_protocol.specs.Client.{Ask, Phase}
use Rattle.bac_protocol.specs.Client.Phase.{SegmentedRequest, AwaitConfirmation, SegmentedConf, Idle}
use Rattle.bac_protocol.specs.Server as server
use Rattle.bac_protocol.specs.Server.{State, ServerTransaction, is_live}
use Rattle.bac_protocol.specs.Server.State.{Done, SegmentedResponse, Dropped}
use Rattle.bac_protocol.specs.Own.{lesser_window}
use Rattle.bac_protocol.specs.Transaction.{Key, Rules, Copy}
use Rattle.bac_protocol.specs.Claims.{EachCopy, IsPiece}
use Rattle.bac_protocol.proofs.Alone.{sent}
use Rattle.bac_protocol.proofs.Facts.{each_sent, all_map, pieces_all}
use Rattle.bac_protocol.proofs.Transfer.{piece_at_is}
use Rattle.bac_liveness.specs.InStep.{IsAtStart, IsUnderway, IsSending, IsCutFor}

-- what the clocks show: real time, how long a copy lives, and the clocks of the two ends
pub record Hands : Type 0 where
  pub now : ℕ
  pub life : ℕ
  pub client : ℕ
  pub server : ℕ

-- the first piece that was not sent
abbrev pub reach : Outgoing → ℕ
reach out = out.first + in_window out

-- a segment of the request, or of the reply, with k later copies, is of a piece that was sent, and of little less than those
abbrev pub NearUp : (W : ℕ) → List Octets → (s k : ℕ) → Apdu → Type 0
NearUp W ps s k (ConfirmedRequest limits id (Some g) choice o) = IsPiece W ps s k g o
NearUp W ps s k _ = Unit {0}

abbrev pub NearDown : (W : ℕ) → List Octets → (s k : ℕ) → Apdu → Type 0
NearDown W ps s k (ComplexAck id (Some g) choice o) = IsPiece W ps s k g o
NearDown W ps s k _ = Unit {0}

abbrev pub SaysLimits : Limits → Apdu → Type 0
SaysLimits l (ConfirmedRequest limits id g choice o) = limits ≡ l
SaysLimits l _ = Unit {0}

-- How that goes on while others are sent.

piece_on : (W d s r k : ℕ) (ps : List Octets) (g : Segment) (o : Octets) → s ≤ r → r ≤ s + d → IsPiece W ps s k g o → IsPiece W ps r (d + k) g o
piece_on W d s r k ps g o le far h = record { piece = h.piece; is = h.is; below = omega (arith, h.below); near = omega (arith, h.near) }

up_on : (W d s r k : ℕ) (ps : List Octets) (a : Apdu) → s ≤ r → r ≤ s + d → NearUp W ps s k a → NearUp W ps r (d + k) a
up_on W d s r k ps (ConfirmedRequest l id (Some g) choice o) le far h = piece_on W d s r k ps g o le far h
up_on W d s r k ps (ConfirmedRequest l id None choice o) le far h = tt
up_on W d s r k ps _ le far h = tt

down_on : (W d s r k : ℕ) (ps : List Octets) (a : Apdu) → s ≤ r → r ≤ s + d → NearDown W ps s k a → NearDown W ps r (d + k) a
down_on W d s r k ps (ComplexAck id (Some g) choice o) le far h = piece_on W d s r k ps g o le far h
down_on W d s r k ps (ComplexAck id None choice o) le far h = tt
down_on W d s r k ps _ le far h = tt

abbrev pub AllUp : (W : ℕ) → Hands → List Octets → ℕ → List Copy → Type 0
AllUp W now ps s copies = EachCopy (λ k c. now.now - c.moment ≤ now.life → NearUp W ps s k c.apdu) copies

abbrev pub AllDown : (W : ℕ) → Hands → List Octets → ℕ → List Copy → Type 0
AllDown W now ps s copies = EachCopy (λ k c. now.now - c.moment ≤ now.life → NearDown W ps s k c.apdu) copies

pub all_up : (W : ℕ) (now : Hands) (s r : ℕ) (ps : List Octets) (sends : List Apdu) (copies : List Copy) → s ≤ r → r ≤ s + length sends
    → Each (λ a. (k : ℕ) → NearUp W ps r k a) sends → AllUp W now ps s copies → AllUp W now ps r (sent now.now sends copies)
all_up W now s r ps sends copies le far new old =
    each_sent (λ k c. now.now - c.moment ≤ now.life → NearUp W ps r k c.apdu) now.now sends copies
    (all_map (λ a. (k : ℕ) → NearUp W ps r k a) (λ a. (k : ℕ) → now.now - now.now ≤ now.life → NearUp W ps r k a) (λ a h k young. h k) sends new)
    (λ k c e young. up_on W (length sends) s r k ps c.apdu le far (old k c e young))

pub all_down : (W : ℕ) (now : Hands) (s r : ℕ) (ps : List Octets) (sends : List Apdu) (copies : List Copy) → s ≤ r → r ≤ s + length sends
    → Each (λ a. (k : ℕ) → NearDown W ps r k a) sends → AllDown W now ps s copies → AllDown W now ps r (sent now.now sends copies)
all_down W now s r ps sends copies le far new old =
    each_sent (λ k c. now.now - c.moment ≤ now.life → NearDown W ps r k c.apdu) now.now sends copies
    (all_map (λ a. (k : ℕ) → NearDown W ps r k a) (λ a. (k : ℕ) → now.now - now.now ≤ now.life → NearDown W ps r k a) (λ a h k young. h k) sends new)
    (λ k c e young. down_on W (length sends) s r k ps c.apdu le far (old k c e young))

pub all_limits : (l : Limits) (now : ℕ) (sends : List Apdu) (copies : List Copy) → Each (SaysLimits l) sends
    → EachCopy (λ k c. SaysLimits l c.apdu) copies → EachCopy (λ k c. SaysLimits l c.apdu) (sent now sends copies)
all_limits l now sends copies new old =
    each_sent (λ k c. SaysLimits l c.apdu) now sends copies (all_map (SaysLimits l) (λ a. (k : ℕ) → SaysLimits l a) (λ a h k. h) sends new)
    (λ k c e. old k c e)

-- What one end sends is no segment of the other.

pub server_up : (W : ℕ) (ps : List Octets) (s k : ℕ) (a : Apdu) → is_from_server a ≡ true → NearUp W ps s k a
server_up W ps s k (ConfirmedRequest l id g choice o) e = absurd cc
server_up W ps s k (UnconfirmedRequest choice o) e = absurd cc
server_up W ps s k (SimpleAck id choice) e = tt
server_up W ps s k (ComplexAck id g choice o) e = tt
server_up W ps s k (SegmentAck b id ack) e = tt
server_up W ps s k (Error id choice class code) e = tt
server_up W ps s k (Reject id r) e = tt
server_up W ps s k (Abort b id r) e = tt

pub server_limits : (l : Limits) (a : Apdu) → is_from_server a ≡ true → SaysLimits l a
server_limits l (ConfirmedRequest l' id g choice o) e = absurd cc
server_limits l (UnconfirmedRequest choice o) e = tt
server_limits l (SimpleAck id choice) e = tt
server_limits l (ComplexAck id g choice o) e = tt
server_limits l (SegmentAck b id ack) e = tt
server_limits l (Error id choice class code) e = tt
server_limits l (Reject id r) e = tt
server_limits l (Abort b id r) e = tt

pub client_down : (W : ℕ) (ps : List Octets) (s k : ℕ) (a : Apdu) → is_from_client a ≡ true → NearDown W ps s k a
client_down W ps s k (ConfirmedRequest l id g choice o) e = tt
client_down W ps s k (UnconfirmedRequest choice o) e = absurd cc
client_down W ps s k (SimpleAck id choice) e = absurd cc
client_down W ps s k (ComplexAck id g choice o) e = absurd cc
client_down W ps s k (SegmentAck b id ack) e = tt
client_down W ps s k (Error id choice class code) e = absurd cc
client_down W ps s k (Reject id r) e = absurd cc
client_down W ps s k (Abort b id r) e = tt

-- A window that is sent.

window_piece : (W own : ℕ) (out : Outgoing) (p k : ℕ) → out.window ≤ W → out.first ≤ p → p < reach out
    → IsPiece W out.pieces (reach out) k (segment_of own out.pieces p) (piece_at out.pieces p)
window_piece W own out p k small lo hi =
    record { piece = p; is = piece_at_is own out.pieces p (omega arith); below = omega arith; near = omega arith }

pub request_window_near : (W : ℕ) (c : Context) (choice : ℕ) (out : Outgoing) → out.window ≤ W
    → Each (λ a. (k : ℕ) → NearUp W out.pieces (reach out) k a) (client.request_window c choice out)
request_window_near W c choice out small =
    pieces_all (λ a. (k : ℕ) → NearUp W out.pieces (reach out) k a) (client.request_piece c choice out.pieces) out.first (in_window out)
    (λ p lo hi k. window_piece W c.settings.window out p k small lo hi)

pub reply_window_near : (W : ℕ) (c : Context) (choice : ℕ) (out : Outgoing) → out.window ≤ W
    → Each (λ a. (k : ℕ) → NearDown W out.pieces (reach out) k a) (server.reply_window c choice out)
reply_window_near W c choice out small =
    pieces_all (λ a. (k : ℕ) → NearDown W out.pieces (reach out) k a) (server.reply_piece c choice out.pieces) out.first (in_window out)
    (λ p lo hi k. window_piece W c.settings.window out p k small lo hi)

-- The two ends.

-- a ticket in SEGMENTED_REQUEST has sent all segments, or is in its first pass
abbrev pub PhaseFlows : (actual : ℕ) → Ask → (repeats : ℕ) → Phase → Type 0
PhaseFlows actual ask repeats (SegmentedRequest out all_sent) =
    IsSending actual ask.pieces out × ((all_sent ≡ true) ⊎ ((repeats ≡ N_RETRY) × (reach out < length ask.pieces)))
PhaseFlows actual ask repeats _ = Unit {0}

-- in the first pass a server has taken nothing that was not sent
abbrev pub TakenUp : (total s : ℕ) → State → Type 0
TakenUp total s (State.SegmentedRequest inc since) = length inc.parts ≤ s
TakenUp total s (Done kept) = total ≤ s
TakenUp total s (SegmentedResponse out transfer since) = total ≤ s
TakenUp total s Dropped = Unit {0}

pub taken_on : (total s r : ℕ) (st : State) → s ≤ r → TakenUp total s st → TakenUp total r st
taken_on total s r (State.SegmentedRequest inc since) le h = omega arith
taken_on total s r (Done kept) le h = omega arith
taken_on total s r (SegmentedResponse out transfer since) le h = omega arith
taken_on total s r Dropped le h = tt

-- a reply's sender
pub record IsReplySender (actual : ℕ) (out : Outgoing) : Type 0 where
  pub within : out.first ≤ length out.pieces
  pub window : IsAtStart out ⊎ IsUnderway actual out

abbrev pub StateMade : Rules → Key → State → Type 0
StateMade x key (SegmentedResponse out transfer since) =
    IsReplySender (lesser_window x key) out × IsCutFor x key (SegmentedResponse out transfer since)
StateMade x key _ = Unit {0}

-- an entry that was begun for the ask
pub record IsMade (x : Rules) (key : Key) (ask : Ask) (e : ServerTransaction) : Type 0 where
  pub limits : e.limits ≡ (x.settings key.client).limits
  pub request : e.request ≡ (if ask.whole then Some (join ask.pieces) else None)
  pub state : StateMade x key e.state

pub record Flow (W : ℕ) (x : Rules) (key : Key) (now : Hands) (ask : Ask) (repeats : ℕ) (phase : Phase) (o : Option ServerTransaction)
    (copies : List Copy) : Type 0 where
  pub some : 0 < length ask.pieces
  pub few : repeats ≤ N_RETRY
  pub limits : EachCopy (λ k c. SaysLimits (x.settings key.client).limits c.apdu) copies
  pub client : PhaseFlows (lesser_window x key) ask repeats phase
  pub sent_up : (out : Outgoing) (all : Bool) → phase ≡ SegmentedRequest out all → repeats ≡ N_RETRY → AllUp W now ask.pieces (reach out) copies
  pub taken_up : (out : Outgoing) (all : Bool) → phase ≡ SegmentedRequest out all → repeats ≡ N_RETRY → (e : ServerTransaction) → o ≡ Some e
      → is_live now.server e ≡ true
      → TakenUp (length ask.pieces) (reach out) e.state
  pub made : (e : ServerTransaction) → o ≡ Some e → is_live now.server e ≡ true → IsMade x key ask e
  pub sent_down : (e : ServerTransaction) → o ≡ Some e → is_live now.server e ≡ true → (out : Outgoing) (transfer : server.Transfer) (since : ℕ)
      → e.state ≡ SegmentedResponse out transfer since → AllDown W now out.pieces (reach out) copies
  pub taken_down : (inc : Incoming) → phase ≡ SegmentedConf inc → (e : ServerTransaction) → o ≡ Some e → is_live now.server e ≡ true
      → (out : Outgoing) (transfer : server.Transfer) (since : ℕ) → e.state ≡ SegmentedResponse out transfer since → length inc.parts ≤ reach out

-- time passes
pub flow_later : (W : ℕ) (x : Rules) (key : Key) (now after : Hands) (ask : Ask) (repeats : ℕ) (phase : Phase) (o : Option ServerTransaction)
    (copies : List Copy)
    → now.now ≤ after.now → after.life ≡ now.life → now.server ≤ after.server
    → Flow W x key now ask repeats phase o copies → Flow W x key after ask repeats phase o copies
flow_later W x key now after ask repeats phase o copies le same on h = record {
  some = h.some;
  few = h.few;
  limits = h.limits;
  client = h.client;
  sent_up = λ out all is r k c e young. h.sent_up out all is r k c e (omega arith);
  taken_up = λ out all is r e at live. h.taken_up out all is r e at (before e live);
  made = λ e at live. h.made e at (before e live);
  sent_down = λ e at live out transfer since is k c f young. h.sent_down e at (before e live) out transfer since is k c f (omega arith);
  taken_down = λ inc is e at live. h.taken_down inc is e at (before e live);
}
  where
    before : (e : ServerTransaction) → is_live after.server e ≡ true → is_live now.server e ≡ true
    before e live = let le = on in grind (arith, nat_tests)

-- What a client does.

module _ (W : ℕ) (x : Rules) (key : Key) (now : Hands) (ask : Ask) (phase : Phase) (o : Option ServerTransaction) (copies : List Copy) where
  -- what was taken of a reply was sent
  abbrev pub Collects : Incoming → Type 0
  Collects inc = (e : ServerTransaction) → o ≡ Some e → is_live now.server e ≡ true → (out : Outgoing) (transfer : server.Transfer) (since : ℕ)
      → e.state ≡ SegmentedResponse out transfer since → length inc.parts ≤ reach out

  -- it sends a window, in a pass that goes on
  pub record SendsOn (out : Outgoing) (sends : List Apdu) : Type 0 where
    pub old : Outgoing
    pub all : Bool
    pub was : phase ≡ SegmentedRequest old all
    pub onward : reach old ≤ reach out
    pub few : reach out ≤ reach old + length sends
    pub near : Each (λ a. (k : ℕ) → NearUp W ask.pieces (reach out) k a) sends

  abbrev pub After : (repeats : ℕ) → Phase → List Apdu → Type 0
  After r (SegmentedRequest out all) sends = PhaseFlows (lesser_window x key) ask r (SegmentedRequest out all) × (r ≡ N_RETRY → SendsOn out sends)
  After r AwaitConfirmation sends = Unit {0}
  After r (SegmentedConf inc) sends = Collects inc
  After r Idle sends = Unit {0}

  phase_flows : (r : ℕ) (next : Phase) (sends : List Apdu) → After r next sends → PhaseFlows (lesser_window x key) ask r next
  phase_flows r (SegmentedRequest out all) sends h = h.0
  phase_flows r AwaitConfirmation sends h = tt
  phase_flows r (SegmentedConf inc) sends h = tt
  phase_flows r Idle sends h = tt

  pub client_flows : (repeats r : ℕ) (next : Phase) (sends : List Apdu) → (r ≡ N_RETRY → repeats ≡ N_RETRY) → r ≤ N_RETRY
      → Flow W x key now ask repeats phase o copies
      → After r next sends → Each (SaysLimits (x.settings key.client).limits) sends → Each (λ a. is_from_client a ≡ true) sends
      → Flow W x key now ask r next o (sent now.now sends copies)
  client_flows repeats r next sends first few h after limits own = record {
    some = h.some;
    few = few;
    limits = all_limits (x.settings key.client).limits now.now sends copies limits h.limits;
    client = phase_flows r next sends after;
    sent_up = λ out all is full. sent_on out all (subst (λ (ph : Phase). After r ph sends) is after) full;
    taken_up = λ out all is full e at begun. taken_more out all (subst (λ (ph : Phase). After r ph sends) is after) full e at begun;
    made = h.made;
    sent_down = λ e at begun out transfer since is.
        all_down W now (reach out) (reach out) out.pieces sends copies (omega arith) (omega arith)
        (all_map (λ a. is_from_client a ≡ true) (λ a. (k : ℕ) → NearDown W out.pieces (reach out) k a)
        (λ a f k. client_down W out.pieces (reach out) k a f) sends own) (h.sent_down e at begun out transfer since is);
    taken_down = λ inc is. subst (λ (ph : Phase). After r ph sends) is after;
  }
    where
      sent_on : (out : Outgoing) (all : Bool) → After r (SegmentedRequest out all) sends → r ≡ N_RETRY
          → AllUp W now ask.pieces (reach out) (sent now.now sends copies)
      sent_on out all a full =
          let z = a.1 full in
          all_up W now (reach z.old) (reach out) ask.pieces sends copies z.onward z.few z.near (h.sent_up z.old z.all z.was (first full))

      taken_more : (out : Outgoing) (all : Bool) → After r (SegmentedRequest out all) sends → r ≡ N_RETRY → (e : ServerTransaction) → o ≡ Some e
          → is_live now.server e ≡ true
          → TakenUp (length ask.pieces) (reach out) e.state
      taken_more out all a full e at begun =
          let z = a.1 full in
          taken_on (length ask.pieces) (reach z.old) (reach out) e.state z.onward (h.taken_up z.old z.all z.was (first full) e at begun)

-- What a server does.

-- its entry after it
pub record EntryFlows (W : ℕ) (x : Rules) (key : Key) (now : Hands) (ask : Ask) (repeats : ℕ) (phase : Phase) (e : ServerTransaction)
    (copies : List Copy) : Type 0 where
  pub made : IsMade x key ask e
  pub taken_up : (out : Outgoing) (all : Bool) → phase ≡ SegmentedRequest out all → repeats ≡ N_RETRY → TakenUp (length ask.pieces) (reach out) e.state
  pub sent_down : (out : Outgoing) (transfer : server.Transfer) (since : ℕ) → e.state ≡ SegmentedResponse out transfer since
      → AllDown W now out.pieces (reach out) copies
  pub taken_down : (inc : Incoming) → phase ≡ SegmentedConf inc → (out : Outgoing) (transfer : server.Transfer) (since : ℕ)
      → e.state ≡ SegmentedResponse out transfer since → length inc.parts ≤ reach out

pub server_flows : (W : ℕ) (x : Rules) (key : Key) (now : Hands) (ask : Ask) (repeats : ℕ) (phase : Phase) (o : Option ServerTransaction) (copies : List Copy)
    (v : server.Reaction) → Flow W x key now ask repeats phase o copies → Each (λ a. is_from_server a ≡ true) v.sends
    → ((e : ServerTransaction) → v.entry ≡ Some e → is_live now.server e ≡ true → EntryFlows W x key now ask repeats phase e (sent now.now v.sends copies))
    → Flow W x key now ask repeats phase v.entry (sent now.now v.sends copies)
server_flows W x key now ask repeats phase o copies v h own fine = record {
  some = h.some;
  few = h.few;
  limits = all_limits (x.settings key.client).limits now.now v.sends copies
      (all_map (λ a. is_from_server a ≡ true) (SaysLimits (x.settings key.client).limits) (λ a f. server_limits (x.settings key.client).limits a f) v.sends own)
      h.limits;
  client = h.client;
  sent_up = λ out all is full.
      all_up W now (reach out) (reach out) ask.pieces v.sends copies (omega arith) (omega arith)
      (all_map (λ a. is_from_server a ≡ true) (λ a. (k : ℕ) → NearUp W ask.pieces (reach out) k a)
      (λ a f k. server_up W ask.pieces (reach out) k a f) v.sends own) (h.sent_up out all is full);
  taken_up = λ out all is full e at begun. (fine e at begun).taken_up out all is full;
  made = λ e at begun. (fine e at begun).made;
  sent_down = λ e at begun out transfer since is. (fine e at begun).sent_down out transfer since is;
  taken_down = λ inc is e at begun out transfer since st. (fine e at begun).taken_down inc is out transfer since st;
}
