-- One turn suffices, for a request and a reply of one APDU: whatever happened before, a tick that is due and the delivery of the two copies that follow.
use Rattle.std.specs.Prelude.{◌≡◌, ℕ, ◌+◌, ◌-◌, ◌<◌, ◌≤◌, ◌⊎◌, Bool, true, [], ◌∷◌, length, Some}
use Rattle.bac_segment.specs.Pieces.{join}
use Rattle.bac_protocol.specs.declared.times.TheConstants.{T_OUT, DEADLINE}
use Rattle.bac_protocol.specs.Service.{Reply}
use Rattle.bac_protocol.specs.Client.{ClientTransaction, request_of}
use Rattle.bac_protocol.specs.Client.Phase.{AwaitConfirmation}
use Rattle.bac_protocol.specs.Log.{Has, StoreModel}
use Rattle.bac_protocol.specs.Log.Fact.{Performed}
use Rattle.bac_protocol.specs.Transaction.{Key, Rules}
use Rattle.bac_protocol.specs.World.{World, client_now, happens}
use Rattle.bac_protocol.specs.World.Event.{Tick, Deliver}
use Rattle.bac_liveness.specs.RoundTrip.{FitsInOne, CanPerform, HasPerformed, IsAnsweredNow}

-- a ticket waits for the answer, in time, with a repeat left and its timer due
pub record IsDue (now : ℕ) (t : ClientTransaction) : Type 0 where
  pub waits : t.phase ≡ AwaitConfirmation
  pub left : 0 < t.repeats
  pub due : T_OUT ≤ now - t.since
  pub in_time : now - t.ask.first ≤ DEADLINE

-- where the server can perform its request then or has performed it, its tick sends the request, whose delivery sends the answer, whose delivery ends
-- the ask with the reply with which it was performed
abbrev pub OneTurnSuffices : (S : Type 0) → StoreModel S → Rules → World S → Type 0
OneTurnSuffices S model x w =
    (key : Key) (t : ClientTransaction) → w.net.tickets key ≡ Some t → t.ask.whole ≡ true → IsDue (client_now w.net key) t → (p : Reply)
    → FitsInOne x key t.ask p
    → (free other : Bool) → CanPerform S model w key t.ask free p ⊎ HasPerformed x w.net key t.ask (Some (join t.ask.pieces)) p
    → (let u = happens S model x (happens S model x w (Tick (key ∷ []) [])) (Deliver (length w.net.posts) free) in
    Has (Performed (w.net.numbers key) (request_of t.ask) p) u.net.log
    × IsAnsweredNow S key (w.net.numbers key) p u (happens S model x u (Deliver (length w.net.posts + 1) other)))
