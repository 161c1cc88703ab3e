-- An entry that gathers no segments keeps its first piece, whatever comes.
use Rattle.std.proofs.Common.{◌≡◌, ℕ, ◌-◌, Bool, true, false, [], ◌∷◌, Option, Some, None, if◌then◌else◌, nat_le, refl}
use Rattle.std.specs.Prelude.{is_some}
use Rattle.bac_apdu.specs.Apdu.{Apdu}
use Rattle.bac_apdu.specs.Apdu.Apdu.{ConfirmedRequest, SegmentAck, Abort}
use Rattle.bac_segment.specs.Window.{Outgoing, acknowledged, again, is_finished}
use Rattle.bac_protocol.specs.declared.times.TheConstants.{T_SEG, T_WAIT_FOR_SEG}
use Rattle.bac_protocol.specs.Context.{Context}
use Rattle.bac_protocol.specs.Server as server
use Rattle.bac_protocol.specs.Server.{ServerTransaction, Service, State, Transfer, is_live}
use Rattle.bac_protocol.specs.Server.State.{Done, Dropped, SegmentedResponse}
use Rattle.bac_protocol.specs.Server.Transfer.{Running, Stopped, Finished}
use Rattle.bac_protocol.specs.Service.{OTHER}
use Rattle.bac_protocol.specs.Steps.{IsSegmentedRequest}

-- the entry, if any, keeps the same first piece
abbrev pub FirstIn : ServerTransaction → Option ServerTransaction → Type 0
FirstIn e None = Unit {0}
FirstIn e (Some d) = d.first ≡ e.first

module _ (c : Context) (e : ServerTransaction) where
  moves_first : (o : Option Outgoing) → FirstIn e (server.moves_reply_window c e o).entry
  moves_first None = refl
  moves_first (Some out) = go (is_finished out)
    where
      go : (b : Bool) → FirstIn e (if b then server.becomes e (SegmentedResponse out Finished c.now) [] else server.sends_reply_window c e out).entry
      go true = refl
      go false = refl

  ack_first : (out : Outgoing) (transfer : Transfer) (number window : ℕ) → FirstIn e (server.segmented_response_on_ack c e out transfer number window).entry
  ack_first out Running number window = moves_first (acknowledged c.settings.window out number window)
  ack_first out Stopped number window = refl
  ack_first out Finished number window = refl

  resumes_first : (out : Outgoing) (transfer : Transfer) → FirstIn e (server.resumes c e out transfer).entry
  resumes_first out Running = refl
  resumes_first out Stopped = refl
  resumes_first out Finished = refl

  response_first : (out : Outgoing) (transfer : Transfer) (since : ℕ) (a : Apdu) → FirstIn e (server.segmented_response_on_apdu c e out transfer since a).entry
  response_first out transfer since (ConfirmedRequest limits id None choice octets) = go (server.is_kept e e.request choice octets)
    where
      go : (b : Bool) → FirstIn e (if b then server.resumes c e out transfer else server.rests (Some e) (server.server_abort c OTHER ∷ [])).entry
      go true = resumes_first out transfer
      go false = refl
  response_first out transfer since (ConfirmedRequest limits id (Some g) choice octets) = go (is_some e.request)
    where
      go : (b : Bool) → FirstIn e (if b then server.rests (Some e) (server.server_abort c OTHER ∷ []) else server.resumes c e out transfer).entry
      go true = refl
      go false = resumes_first out transfer
  response_first out transfer since (SegmentAck false id ack) = ack_first out transfer ack.number ack.window
  response_first out transfer since (Abort false id reason) = refl
  response_first out transfer since _ = refl

  done_first : (kept a : Apdu) → FirstIn e (server.done_on_apdu c e kept a).entry
  done_first kept (ConfirmedRequest limits id None choice octets) = refl
  done_first kept (ConfirmedRequest limits id (Some g) choice octets) = refl
  done_first kept _ = refl

  dropped_first : (a : Apdu) → FirstIn e (server.dropped_on_apdu c e a).entry
  dropped_first (ConfirmedRequest limits id g choice octets) = refl
  dropped_first _ = refl

  live_first : (service : Service) (st : State) → (IsSegmentedRequest st → ⊥) → (a : Apdu) → FirstIn e (server.live_on_apdu c service e st a).entry
  live_first service (State.SegmentedRequest inc since) none a = absurd (none tt)
  live_first service (Done kept) none a = done_first kept a
  live_first service (SegmentedResponse out transfer since) none a = response_first out transfer since a
  live_first service Dropped none a = dropped_first a

  again_first : (out : Outgoing) (since : ℕ) (o : Option Outgoing) → FirstIn e (server.sends_reply_again c e out since o).entry
  again_first out since None = refl
  again_first out since (Some next) = refl

  ticks_in : (st : State) → FirstIn e (server.live_ticks c e st).entry
  ticks_in (State.SegmentedRequest inc since) = go (nat_le T_WAIT_FOR_SEG (c.now - since))
    where
      go : (b : Bool) → FirstIn e (if b then server.becomes e Dropped [] else server.rests (Some e) []).entry
      go true = refl
      go false = refl
  ticks_in (Done kept) = refl
  ticks_in (SegmentedResponse out Running since) = go (nat_le T_SEG (c.now - since))
    where
      go : (b : Bool) → FirstIn e (if b then server.sends_reply_again c e out since (again out) else server.rests (Some e) []).entry
      go true = again_first out since (again out)
      go false = refl
  ticks_in (SegmentedResponse out Stopped since) = refl
  ticks_in (SegmentedResponse out Finished since) = refl
  ticks_in Dropped = refl

  pub ticks_first : FirstIn e (server.server_ticks c (Some e)).entry
  ticks_first = go (is_live c.now e)
    where
      go : (b : Bool) → FirstIn e (if b then server.live_ticks c e e.state else server.rests (Some e) []).entry
      go true = ticks_in e.state
      go false = refl

pub gets_first : (c : Context) (service : Service) (e : ServerTransaction) (free : Bool) (a : Apdu) → is_live c.now e ≡ true → (IsSegmentedRequest e.state → ⊥)
    → FirstIn e (server.server_on_apdu c service (Some e) free a).entry
gets_first c service e free a live none = go (is_live c.now e) live
  where
    go : (b : Bool) → b ≡ true → FirstIn e (if b then server.live_on_apdu c service e e.state a else server.idle_on_apdu c service (Some e) free a).entry
    go true is = live_first c e service e.state none a
    go false is = absurd cc
