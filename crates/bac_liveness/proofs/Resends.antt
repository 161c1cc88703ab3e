-- A request that comes again where it was performed: its reply is sent again, or goes on where it had stopped.
use Rattle.std.proofs.Common.{◌≡◌, ℕ, zero, suc, ◌+◌, ◌-◌, ◌<◌, ◌≤◌, min, true, false, List, [], ◌∷◌, ◌++◌, Some, None, nat_le, append-nil, refl, ap}
use Rattle.std.proofs.Common.{subst, ◌∙◌, arith, length-append}
use Rattle.bac_apdu.specs.Apdu.{Apdu}
use Rattle.bac_segment.specs.Pieces.{join}
use Rattle.bac_segment.specs.Window.{Outgoing, resume}
use Rattle.bac_protocol.specs.declared.times.TheConstants.{KEEP}
use Rattle.bac_protocol.specs.Context.{Context}
use Rattle.bac_protocol.specs.Service.{Reply}
use Rattle.bac_protocol.specs.Wire.{pieces_from}
use Rattle.bac_protocol.specs.Client as client
use Rattle.bac_protocol.specs.Client.{Ask, Phase, ClientTransaction, is_idle}
use Rattle.bac_protocol.specs.Server as server
use Rattle.bac_protocol.specs.Server.{State, ServerTransaction, Service}
use Rattle.bac_protocol.specs.Server.Transfer.{Stopped}
use Rattle.bac_protocol.specs.Server.State.{Done, SegmentedResponse}
use Rattle.bac_protocol.specs.Log.{Fact, StoreModel}
use Rattle.bac_protocol.specs.Straight.{KindFits}
use Rattle.bac_protocol.specs.Transaction.{Key, Rules, client_context, server_context}
use Rattle.bac_protocol.proofs.Facts.{pieces_length}
use Rattle.bac_protocol.proofs.Queue.{Nows, TransactionPair, served}
use Rattle.bac_liveness.proofs.Deliveries.{Within, within_then, one_step, no_step}
use Rattle.bac_liveness.proofs.Windows.{repeated, one_more, length_repeated}
use Rattle.bac_liveness.proofs.Serving.{serves_again, serves_segment, serves_stopped, serves_stopped_segment}
use Rattle.bac_liveness.proofs.Gets.{lives}
use Rattle.bac_liveness.proofs.Remembered.{Remembered}
use Rattle.bac_liveness.proofs.Downloads.{Waits, sending_waits}
use Rattle.bac_liveness.proofs.Downloads as down

module _ (S : Type 0) (model : StoreModel S) (x : Rules) (now : Nows) (number : ℕ) (key : Key) (ask : Ask) (young : client.is_expired now.here ask ≡ false)
    (repeats begin : ℕ) (alive : nat_le (now.there - begin) KEEP ≡ true) (kept : Remembered) (stores : ℕ → S) (log : List Fact) where
  abbrev c : Context
  c = client_context x key now.here

  abbrev d : Context
  d = server_context x key now.there

  abbrev service : Service
  service = model.outcome (stores key.server)

  abbrev actual : ℕ
  actual = min d.settings.window c.settings.window

  abbrev in_phase : Phase → ℕ → ClientTransaction
  in_phase phase since = record { ask = ask; phase = phase; repeats = repeats; since = since }

  abbrev in_state : State → ServerTransaction
  in_state state = record { begin = begin; choice = ask.choice; limits = c.settings.limits; request = kept.request; first = kept.first; state = state }

  abbrev Goes : ℕ → TransactionPair S → TransactionPair S → Type 0
  Goes most p q = Within S model x now number key most p q

  abbrev EndsIn : ℕ → TransactionPair S → Reply → Type 0
  EndsIn most from p = down.EndsWith S model x now number key ask young repeats begin alive kept stores log most from p

  -- a live entry in that state, and these copies
  abbrev pub with_state : ClientTransaction → State → List Apdu → TransactionPair S
  with_state t state pending = record { ticket = t; entry = Some (in_state state); pending = pending; stores = stores; log = log }

  abbrev request : Apdu
  request = client.request_apdu c ask

  abbrev segments : ℕ → ℕ → List Apdu
  segments first extra = pieces_from (client.request_piece c ask.choice ask.pieces) first extra

  -- A kept reply of one APDU.

  abbrev answer : Reply → Apdu
  answer p = server.reply_apdu d ask.choice p

  -- each segment brings it again
  answers_on : (a : Apdu) (w i first : ℕ) (t : ClientTransaction) → kept.request ≡ None → is_idle t.phase ≡ false → w + i ≤ x.overtake
      → Goes w (with_state t (Done a) (segments first w ++ repeated i a)) (with_state t (Done a) (repeated (i + w) a))
  answers_on a zero i first t none going few =
      let e : i ≡ i + 0 = omega arith in
      no_step S model x now number key (with_state t (Done a) (repeated i a)) (with_state t (Done a) (repeated (i + 0) a))
      (ap (λ (j : ℕ). with_state t (Done a) (repeated j a)) e)
  answers_on a (suc w) i first t none going few =
      let seg = client.request_piece c ask.choice ask.pieces first in
      let rest = segments (first + 1) w in
      let xs = rest ++ repeated i a in
      let len = length-append rest (repeated i a) in
      let len' = pieces_length (client.request_piece c ask.choice ask.pieces) (first + 1) w in
      let len'' = length_repeated i a in
      let from = with_state t (Done a) (seg ∷ xs) in
      let mid = with_state t (Done a) (rest ++ repeated (suc i) a) in
      let e : suc i + w ≡ i + suc w = omega arith in
      let one = one_step S model x now number key from mid xs seg refl (omega arith) going (lives now.there (in_state (Done a)) alive)
      (ap (λ (v : server.Reaction). served S model x now number key from xs v) (serves_segment d c service (in_state (Done a)) true ask a alive refl none first)
      ∙ ap (λ (ys : List Apdu). with_state t (Done a) ys) (one_more rest i a)) in
      within_then S model x now number key 1 w (suc w) from mid (with_state t (Done a) (repeated (i + suc w) a)) (omega arith) one
      (subst (λ (j : ℕ). Goes w mid (with_state t (Done a) (repeated j a))) e (answers_on a w (suc i) (first + 1) t none going (omega arith)))

  -- a window of the request is sent again
  pub segments_answered : (p : Reply) (w first m : ℕ) (out : Outgoing) → kept.request ≡ None → 0 < w → w ≤ x.overtake → KindFits x.readable ask.choice p
      → EndsIn (w + 1) (with_state (in_phase (Phase.SegmentedRequest out true) m) (Done (answer p)) (segments first w)) p
  segments_answered p zero first m out none some few kind = absurd (omega arith)
  segments_answered p (suc w) first m out none some few kind =
      let t = in_phase (Phase.SegmentedRequest out true) m in
      let a = answer p in
      let len = length_repeated w a in
      let from = with_state t (Done a) (segments first (suc w)) in
      let one : Goes (suc w) from (with_state t (Done a) (repeated (0 + suc w) a)) = subst (λ (ys : List Apdu). Goes (suc w) (with_state t (Done a) ys)
      (with_state t (Done a) (repeated (0 + suc w) a))) (append-nil (segments first (suc w))) (answers_on a (suc w) 0 first t none refl (omega arith)) in
      let e : 0 + suc w ≡ suc w = omega arith in
      down.ends_then S model x now number key ask young repeats begin alive kept stores log (suc w) 1 (suc w + 1) from
      (with_state t (Done a) (a ∷ repeated w a)) p (omega arith)
      (subst (λ (j : ℕ). Goes (suc w) from (with_state t (Done a) (repeated j a))) e one)
      (down.at_once S model x now number key ask young repeats begin alive kept stores log (Phase.SegmentedRequest out true) m (sending_waits out) refl p
      (in_state (Done a)) (repeated w a) kind (lives now.there (in_state (Done a)) alive) (omega arith))

  -- the whole request is sent again
  pub request_answered : (p : Reply) (phase : Phase) (m : ℕ) → Waits phase → is_idle phase ≡ false → kept.request ≡ Some (join ask.pieces)
      → KindFits x.readable ask.choice p → EndsIn 2 (with_state (in_phase phase m) (Done (answer p)) (request ∷ [])) p
  request_answered p phase m waits going same kind =
      let t = in_phase phase m in
      let a = answer p in
      let from = with_state t (Done a) (request ∷ []) in
      let mid = with_state t (Done a) (a ∷ []) in
      down.ends_then S model x now number key ask young repeats begin alive kept stores log 1 1 2 from mid p (omega arith)
      (one_step S model x now number key from mid [] request refl (omega arith) going (lives now.there (in_state (Done a)) alive)
      (ap (λ (v : server.Reaction). served S model x now number key from [] v)
      (serves_again d c service (in_state (Done a)) true ask a alive refl refl same)))
      (down.at_once S model x now number key ask young repeats begin alive kept stores log phase m waits going p (in_state (Done a)) [] kind
      (lives now.there (in_state (Done a)) alive) (omega arith))

  -- A reply in segments whose transfer has stopped.

  abbrev stopped : Outgoing → ℕ → State
  stopped out since = SegmentedResponse out Stopped since

  abbrev running : Outgoing → State
  running out = SegmentedResponse (resume out) server.Transfer.Running now.there

  abbrev window : Outgoing → List Apdu
  window out = server.reply_window d ask.choice (resume out)

  -- the whole request is sent again
  pub request_resumes : (t : ClientTransaction) (out : Outgoing) (since : ℕ) → is_idle t.phase ≡ false → kept.request ≡ Some (join ask.pieces)
      → Goes 1 (with_state t (stopped out since) (request ∷ [])) (with_state t (running out) (window out))
  request_resumes t out since going same =
      let from = with_state t (stopped out since) (request ∷ []) in
      one_step S model x now number key from (with_state t (running out) (window out)) [] request refl (omega arith) going
      (lives now.there (in_state (stopped out since)) alive)
      (ap (λ (v : server.Reaction). served S model x now number key from [] v)
      (serves_stopped d c service (in_state (stopped out since)) true ask out since alive refl refl same))

  -- a window of the request is sent again: its first segment sets the transfer going, and the others change nothing
  pub segments_resume : (t : ClientTransaction) (out : Outgoing) (since w first : ℕ) → is_idle t.phase ≡ false → kept.request ≡ None → suc w ≤ x.overtake
      → Goes (suc w) (with_state t (stopped out since) (segments first (suc w))) (with_state t (running out) (window out))
  segments_resume t out since w first going none few =
      let seg = client.request_piece c ask.choice ask.pieces first in
      let rest = segments (first + 1) w in
      let len = pieces_length (client.request_piece c ask.choice ask.pieces) (first + 1) w in
      let from = with_state t (stopped out since) (seg ∷ rest) in
      let mid = with_state t (running out) (rest ++ window out) in
      within_then S model x now number key 1 w (suc w) from mid (with_state t (running out) (window out)) (omega arith)
      (one_step S model x now number key from mid rest seg refl (omega arith) going (lives now.there (in_state (stopped out since)) alive)
      (ap (λ (v : server.Reaction). served S model x now number key from rest v)
      (serves_stopped_segment d c service (in_state (stopped out since)) true ask out since alive refl refl none first)))
      (down.skips S model x now number key ask young repeats begin alive kept stores log w (first + 1) t (resume out) (window out) (λ h. none) going)
