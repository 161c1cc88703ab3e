-- What is sent again: a window, with other retries, and what a tick sends.
use Rattle.std.proofs.Common.{◌≡◌, ℕ, ◌-◌, ◌<◌, ◌≤◌, ◌⊎◌, Bool, true, false, List, [], ◌∷◌, length, Option, Some, None, if◌then◌else◌, nat_le, nat_eq, refl, ap}
use Rattle.std.proofs.Common.{inl, inr, ◌∙◌, arith}
use Rattle.std.proofs.lemmas.Bool.Decides.{nat_tests}
use Rattle.bac_segment.specs.Window.{Outgoing, outgoing, again, Incoming}
use Rattle.bac_protocol.specs.declared.times.TheConstants.{T_OUT, T_SEG, T_WAIT_FOR_SEG}
use Rattle.bac_protocol.specs.Context.{Context}
use Rattle.bac_protocol.specs.Service.{Octets}
use Rattle.bac_protocol.specs.Service.Ending.{TimedOut, Expired}
use Rattle.bac_protocol.specs.Client as client
use Rattle.bac_protocol.specs.Client.{Phase, ClientTransaction, is_idle, is_expired}
use Rattle.bac_protocol.specs.Client.Phase.{SegmentedRequest, AwaitConfirmation, SegmentedConf}
use Rattle.bac_protocol.specs.Client.Reaction.{Stays, Repeats, Ends}
use Rattle.bac_protocol.specs.Server.{ServerTransaction, live_entry, is_live, is_none_live}
use Rattle.bac_protocol.specs.Log.{StoreModel}
use Rattle.bac_protocol.specs.Transaction.{Key, Rules}
use Rattle.bac_protocol.specs.Straight.{FitsData, RequestFits}
use Rattle.bac_protocol.proofs.Queue.{Nows}
use Rattle.bac_protocol.proofs.Carries.{Sender, Fitting}
use Rattle.bac_liveness.specs.InStep.{IsAtStart, IsUnderway, IsSending, AreTogether}
use Rattle.bac_liveness.proofs.Windows.{Channel}
use Rattle.bac_liveness.proofs.Rounds.{IsRound}

-- Transfers whose window is sent again.

pub window_most : (actual : ℕ) (out : Outgoing) → 0 < actual → (IsAtStart out ⊎ IsUnderway actual out) → out.window ≤ actual
window_most actual out some (inl h) = let w = h.1 in omega arith
window_most actual out some (inr h) = let w = h.1 in omega arith

pub window_some : (actual : ℕ) (out : Outgoing) → 0 < actual → (IsAtStart out ⊎ IsUnderway actual out) → 0 < out.window
window_some actual out some (inl h) = let w = h.1 in omega arith
window_some actual out some (inr h) = let w = h.1 in omega arith

pub window_shape : (actual : ℕ) (out : Outgoing) → (IsAtStart out ⊎ IsUnderway actual out) → ((out.window ≡ actual) ⊎ ((out.first ≡ 0) × (out.window ≡ 1)))
window_shape actual out (inl h) = inr h
window_shape actual out (inr h) = inl h.1

-- with other retries
pub sending_again : (actual r : ℕ) (ps : List Octets) (out : Outgoing) → IsSending actual ps out → IsSending actual ps (record out { retries = r })
sending_again actual r ps out h = record { pieces_are = h.pieces_are; left = h.left; window = h.window }

pub together_again : (actual r : ℕ) (ps : List Octets) (out : Outgoing) (inc : Incoming) → AreTogether actual ps out inc
    → AreTogether actual ps (record out { retries = r }) inc
together_again actual r ps out inc h = record {
  sender = sending_again actual r ps out h.sender;
  window = h.window;
  parts = h.parts;
  acknowledged = h.acknowledged;
  sent = h.sent;
  left = h.left;
}

module _ (S : Type 0) (model : StoreModel S) (x : Rules) (now : Nows) (number : ℕ) (key : Key) (actual own : ℕ) (ps : List Octets)
    (sizes : Fitting x.overtake actual own ps) (near : actual < 256) (c : Channel S model x now number key actual own ps) where
  pub round_of : (s : Sender) (inc : Incoming) → AreTogether actual ps s.out inc
      → IsRound S model x now number key actual own ps sizes near c s inc (length inc.parts)
  round_of s inc h = record {
    pieces = (h.sender).pieces_are;
    shape = window_shape actual s.out (h.sender).window;
    most = window_most actual s.out sizes.some (h.sender).window;
    some = window_some actual s.out sizes.some (h.sender).window;
    actual_is = h.window;
    taken = refl;
    parts = h.parts;
    behind = h.acknowledged;
    within = h.sent;
    left = h.left;
  }

pub none_live : (now : ℕ) (o : Option ServerTransaction) → live_entry now o ≡ None → is_none_live now o ≡ true
none_live now None e = refl
none_live now (Some d) e = go (is_live now d) e
  where
    go : (b : Bool) → (if b then Some d else None) ≡ None → (if b then false else true) ≡ true
    go true h = absurd cc
    go false h = refl

pub fits_data : (b : Bool) (ps : List Octets) → b ≡ false → RequestFits b ps → FitsData ps
fits_data true ps e h = absurd cc
fits_data false ps e h = h

-- The ticks of a client that are due, in time.

module _ (c : Context) (t : ClientTransaction) (young : is_expired c.now t.ask ≡ false) where
  opens : (phase : Phase) → t.phase ≡ phase → is_idle phase ≡ false → client.client_ticks c t ≡ client.open_ticks c t phase
  opens phase is going =
      ap (λ (ph : Phase). if is_idle ph then Stays else if is_expired c.now t.ask then Ends [] Expired else client.open_ticks c t ph) is
      ∙ ap (λ b. if b then Stays else if is_expired c.now t.ask then Ends [] Expired else client.open_ticks c t phase) going
      ∙ ap (λ b. if b then Ends [] Expired else client.open_ticks c t phase) young

  pub sending_ticks : (out : Outgoing) (all_sent : Bool) → t.phase ≡ SegmentedRequest out all_sent → T_SEG ≤ c.now - t.since → 0 < out.retries
      → client.client_ticks c t ≡ client.sends_request_window c t.ask.choice (record out { retries = out.retries - 1 }) all_sent
  sending_ticks out all_sent is due left =
      let late : nat_le T_SEG (c.now - t.since) ≡ true = grind (arith, nat_tests) in
      let some : nat_eq out.retries 0 ≡ false = grind (arith, nat_tests) in
      opens (SegmentedRequest out all_sent) is refl
      ∙ ap (λ b. if b then client.sends_request_again c t.ask.choice all_sent (again out) else Stays) late
      ∙ ap (λ b. client.sends_request_again c t.ask.choice all_sent (if b then None else Some (record out { retries = out.retries - 1 }))) some

  pub awaiting_ticks : t.phase ≡ AwaitConfirmation → T_OUT ≤ c.now - t.since → 0 < t.repeats → (b : Bool) → t.ask.whole ≡ b
      → client.client_ticks c t ≡ (if b then Repeats t.phase (client.request_apdu c t.ask ∷ [])
      else Repeats (SegmentedRequest (outgoing t.ask.pieces) true) (client.request_window c t.ask.choice (outgoing t.ask.pieces)))
  awaiting_ticks is due left b whole =
      let late : nat_le T_OUT (c.now - t.since) ≡ true = grind (arith, nat_tests) in
      let some : nat_eq t.repeats 0 ≡ false = grind (arith, nat_tests) in
      opens AwaitConfirmation is refl
      ∙ ap (λ e. if e then client.repeats c t else Stays) late
      ∙ ap (λ e. if e then client.repeats_whole c t else client.repeats_pieces c t) whole
      ∙ ap (λ e. if b then (if e then Ends [] TimedOut else Repeats t.phase (client.request_apdu c t.ask ∷ []))
      else (if e then Ends [] TimedOut
      else Repeats (SegmentedRequest (outgoing t.ask.pieces) true) (client.request_window c t.ask.choice (outgoing t.ask.pieces)))) some

  pub collecting_ticks : (inc : Incoming) → t.phase ≡ SegmentedConf inc → T_WAIT_FOR_SEG ≤ c.now - t.since → 0 < t.repeats → t.ask.whole ≡ true
      → client.client_ticks c t ≡ Repeats t.phase (client.request_apdu c t.ask ∷ [])
  collecting_ticks inc is due left whole =
      let late : nat_le T_WAIT_FOR_SEG (c.now - t.since) ≡ true = grind (arith, nat_tests) in
      let some : nat_eq t.repeats 0 ≡ false = grind (arith, nat_tests) in
      opens (SegmentedConf inc) is refl
      ∙ ap (λ e. if e then (if t.ask.whole then client.repeats_whole c t else Ends [] TimedOut) else Stays) late
      ∙ ap (λ e. if e then client.repeats_whole c t else Ends [] TimedOut) whole
      ∙ ap (λ e. if e then Ends [] TimedOut else Repeats t.phase (client.request_apdu c t.ask ∷ [])) some
