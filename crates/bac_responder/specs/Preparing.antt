-- A performance in two steps: what is prepared, and what is committed.
use Rattle.std.specs.Prelude.{◌≡◌, ℕ, Bool, true, false, List, [], ◌∷◌, ◌++◌, if◌then◌else◌, Option, Some, None, Result, Ok, Err}
use Rattle.bac_apdu.specs.Apdu.{Apdu, Limits}
use Rattle.bac_npdu.specs.Peers.{PeerView}
use Rattle.bac_service.specs.Replies as plain
use Rattle.bac_service.specs.Values.{Request, choice_of, complex_choice_of}
use Rattle.bac_service.specs.Replies.{SpellsComplex}
use Rattle.bac_service.specs.Spellings.{complex_spelling}
use Rattle.bac_service.specs.Views.{owned_request_view}
use Rattle.bac_store.specs.Stores.{Store}
use Rattle.bac_store.specs.Replies.{reply_to}
use Rattle.bac_store.specs.Plans.{IsPlanFor}
use Rattle.bac_segment.specs.Window.{outgoing}
use Rattle.bac_protocol.specs.Context.{Context}
use Rattle.bac_protocol.specs.Sizes.{Way, reply_way_of}
use Rattle.bac_protocol.specs.Sizes.Way.{InOne, InSegments, Refused}
use Rattle.bac_protocol.specs.Service.{Reply}
use Rattle.bac_protocol.specs.Service.Outcome.{Replies}
use Rattle.bac_protocol.specs.Server.{State, Transfer, reply_apdu, reply_piece, server_abort}
use Rattle.bac_transaction.specs.Meanings.{MeansReply}
use Rattle.bac_transaction.specs.Sends.{IsSent, Pairwise, to_all}
use Rattle.bac_transaction.specs.Services.{Performed, outcome_of}
use Rattle.bac_responder.specs.TransactionViews.{state_view, IsSendable}
use Rattle.bac_responder.specs.declared.replying.Commit.{Commit}
use Rattle.bac_responder.specs.declared.replying.PreparedReply.{PreparedReply}

-- what is sent, which state follows, and whether the request is performed, by the way of its reply
abbrev pub sent_by : Context → (choice : ℕ) → Reply → Way ℕ → Apdu
sent_by c choice reply InOne = reply_apdu c choice reply
sent_by c choice reply (InSegments pieces) = reply_piece c choice pieces 0
sent_by c choice reply (Refused reason) = server_abort c reason

abbrev pub state_by : Context → (choice : ℕ) → Reply → Way ℕ → State
state_by c choice reply InOne = State.Done (reply_apdu c choice reply)
state_by c choice reply (InSegments pieces) = State.SegmentedResponse (outgoing pieces) Transfer.Running c.now
state_by c choice reply (Refused reason) = State.Done (server_abort c reason)

abbrev pub is_performed : Way ℕ → Bool
is_performed InOne = true
is_performed (InSegments pieces) = true
is_performed (Refused reason) = false

-- a state as the machine has it, which keeps only what can be sent, and the datagrams of these APDUs
pub record IsReplyPrepared (peer : PeerView) (choice : ℕ) (apdus : List Apdu) (z : State) (x : PreparedReply) : Type 0 where
  pub viewed : state_view choice x.state ≡ z
  pub sendable : IsSendable choice x.state
  pub sent : Pairwise IsSent (to_all peer apdus) x.sends.items

-- a reply by its way; where it can't be sent, nothing is performed
pub record IsSentByWay (c : Context) (peer : PeerView) (choice : ℕ) (reply : Reply) (way : Way ℕ) (p : Commit) (x : PreparedReply) : Type 0 where
  pub prepared : IsReplyPrepared peer choice (sent_by c choice reply way ∷ []) (state_by c choice reply way) x
  pub commit : x.commit ≡ (if is_performed way then Some p else None)

-- an APDU that is kept
pub record IsKeptApdu (peer : PeerView) (choice : ℕ) (a : Apdu) (p : Option Commit) (x : PreparedReply) : Type 0 where
  pub prepared : IsReplyPrepared peer choice (a ∷ []) (State.Done a) x
  pub commit : x.commit ≡ p

-- what waits for its commit is the plan for that request on this store
pub record IsPending (s : Store) (r : Request) (reply : Reply) (p : Commit) : Type 0 where
  pub request : owned_request_view p.request ≡ r
  pub plan : IsPlanFor s r p.plan
  pub means : MeansReply (choice_of r) reply (reply_to s r)

abbrev pub Waits : Bool → Store → Request → Reply → Option Commit → Type 0
Waits true s r reply (Some p) = IsPending s r reply p
Waits true s r reply None = ⊥
Waits false s r reply (Some p) = ⊥
Waits false s r reply None = Unit {0}

-- a request that was read: after these APDUs its reply goes by its way
pub record IsReady (c : Context) (peer : PeerView) (choice : ℕ) (limits : Limits) (s : Store) (r : Request) (before : List Apdu) (x : PreparedReply) : Type 0 where
  pub reply : Reply
  pub outcome : outcome_of (reply_to s r) ≡ Replies reply
  pub prepared : IsReplyPrepared peer choice (before ++ sent_by c choice reply (reply_way_of c.settings limits reply) ∷ [])
      (state_by c choice reply (reply_way_of c.settings limits reply)) x
  pub pending : Waits (is_performed (reply_way_of c.settings limits reply)) s r reply x.commit

pub record IsRejected (c : Context) (peer : PeerView) (choice reason : ℕ) (before : List Apdu) (x : PreparedReply) : Type 0 where
  pub prepared : IsReplyPrepared peer choice (before ++ Apdu.Reject c.invoke_id reason ∷ []) (State.Done (Apdu.Reject c.invoke_id reason)) x
  pub pending : x.commit ≡ None

abbrev pub IsPrepared : Context → PeerView → (choice : ℕ) → Limits → Store → Result Request ℕ → (before : List Apdu) → PreparedReply → Type 0
IsPrepared c peer choice limits s (Ok r) before x = IsReady c peer choice limits s r before x
IsPrepared c peer choice limits s (Err reason) before x = IsRejected c peer choice reason before x

abbrev pub IsNoReject : plain.Reply → Type 0
IsNoReject plain.Reply.Simple = Unit {0}
IsNoReject (plain.Reply.Complex c) = Unit {0}
IsNoReject (plain.Reply.Error class code) = Unit {0}
IsNoReject (plain.Reply.Reject reason) = ⊥

-- the octets of a reply are a spelling of it
abbrev pub IsSpelledReply : plain.Reply → Type 0
IsSpelledReply plain.Reply.Simple = Unit {0}
IsSpelledReply (plain.Reply.Complex c) = SpellsComplex (complex_choice_of c) c (complex_spelling c)
IsSpelledReply (plain.Reply.Error class code) = Unit {0}
IsSpelledReply (plain.Reply.Reject reason) = Unit {0}

-- the plan was made on this store
abbrev pub CanCommit : Store → Option Commit → Type 0
CanCommit s None = Unit {0}
CanCommit s (Some p) = IsPlanFor s (owned_request_view p.request) p.plan

abbrev pub IsCommitted : Store → Option Commit → Option Performed → Type 0
IsCommitted s None p = p ≡ None
IsCommitted s (Some x) p = p ≡ Some (record { request = owned_request_view x.request; reply = reply_to s (owned_request_view x.request) })
