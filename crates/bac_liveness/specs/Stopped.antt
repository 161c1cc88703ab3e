-- A reply in segments whose transfer has stopped goes on where it was, as soon as a copy of its request comes (own rule of this profile).
use Rattle.std.specs.Prelude.{◌≡◌, ℕ, Bool, true, ◌++◌, map, Option, Some, None}
use Rattle.bac_segment.specs.Pieces.{join}
use Rattle.bac_segment.specs.Window.{Outgoing, resume}
use Rattle.bac_protocol.specs.Service.{Octets}
use Rattle.bac_protocol.specs.Client.{ClientTransaction}
use Rattle.bac_protocol.specs.Server.{ServerTransaction, is_live, reply_window}
use Rattle.bac_protocol.specs.Server.State.{SegmentedResponse}
use Rattle.bac_protocol.specs.Server.Transfer.{Running, Stopped}
use Rattle.bac_protocol.specs.Log.{StoreModel}
use Rattle.bac_protocol.specs.Transaction.{Key, Rules, server_context}
use Rattle.bac_protocol.specs.World.{Net, World, server_now, happens, post_of}
use Rattle.bac_protocol.specs.World.Event.{Deliver}
use Rattle.bac_liveness.specs.Runs.{IsOnItsWay}
use Rattle.bac_liveness.specs.RoundTrip.{request_to, segment_to}

-- a live entry gives its reply in segments, and its retries are used up; beside it, the service data of a request that came without SEG
pub record HasStopped (n : Net) (key : Key) (request : Option Octets) (out : Outgoing) : Type 0 where
  pub entry : ServerTransaction
  pub at : n.entries key ≡ Some entry
  pub live : is_live (server_now n key) entry ≡ true
  pub request_is : entry.request ≡ request
  pub since : ℕ
  pub state : entry.state ≡ SegmentedResponse out Stopped since

-- the window is sent again from its first unacknowledged segment on, with full retries; nothing is performed
pub record GoesOnWith (x : Rules) (key : Key) (choice : ℕ) (entry : ServerTransaction) (out : Outgoing) (old new : Net) : Type 0 where
  pub sent : new.posts ≡ old.posts ++ map (post_of key old.now) (reply_window (server_context x key (server_now old key)) choice (resume out))
  pub entry_is : new.entries key ≡ Some (record entry { state = SegmentedResponse (resume out) Running (server_now old key) })
  pub log : new.log ≡ old.log

-- each copy of a request of one APDU that is delivered does that, and each segment of one in segments
pub record StoppedGoesOn (S : Type 0) (model : StoreModel S) (x : Rules) (w : World S) : Type 0 where
  pub whole : (key : Key) (t : ClientTransaction) → w.net.tickets key ≡ Some t → (out : Outgoing) (h : HasStopped w.net key (Some (join t.ask.pieces)) out)
      → (number : ℕ) (free : Bool) → IsOnItsWay x w.net key (request_to x key t.ask) number
      → GoesOnWith x key t.ask.choice h.entry out w.net (happens S model x w (Deliver number free)).net
  pub segment : (key : Key) (t : ClientTransaction) → w.net.tickets key ≡ Some t → (out : Outgoing) (h : HasStopped w.net key None out)
      → (number piece : ℕ) (free : Bool) → IsOnItsWay x w.net key (segment_to x key t.ask piece) number
      → GoesOnWith x key t.ask.choice h.entry out w.net (happens S model x w (Deliver number free)).net
