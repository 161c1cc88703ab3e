-- A request that its server has not heard of reaches it whole, and is performed.
use Rattle.std.proofs.Common.{◌≡◌, ℕ, ◌+◌, ◌-◌, ◌*◌, ◌%◌, ◌<◌, ◌≤◌, min, Bool, true, false, List, [], ◌∷◌, length, get_or, Option, Some, None, nat_lt, refl, ap}
use Rattle.std.proofs.Common.{inl, ◌∙◌, arith}
use Rattle.std.proofs.lemmas.Bool.Decides.{nat_tests}
use Rattle.bac_apdu.specs.Apdu.{Apdu}
use Rattle.bac_segment.specs.Pieces.{join}
use Rattle.bac_segment.specs.Window.{Outgoing, in_window, Incoming, incoming, Taking, takes}
use Rattle.bac_segment.specs.Window.Taking.{Taken, Whole}
use Rattle.bac_protocol.specs.Context.{Context}
use Rattle.bac_protocol.specs.Sizes.{reply_way_of}
use Rattle.bac_protocol.specs.Service.{Reply}
use Rattle.bac_protocol.specs.Service.Outcome.{Replies}
use Rattle.bac_protocol.specs.Wire.{pieces_from}
use Rattle.bac_protocol.specs.Client as client
use Rattle.bac_protocol.specs.Client.{Ask, Phase, ClientTransaction}
use Rattle.bac_protocol.specs.Client.Phase.{AwaitConfirmation, SegmentedRequest}
use Rattle.bac_protocol.specs.Server as server
use Rattle.bac_protocol.specs.Server.{ServerTransaction, Service, is_none_live}
use Rattle.bac_protocol.specs.Server.State.{Dropped}
use Rattle.bac_protocol.specs.Log.{Fact, StoreModel}
use Rattle.bac_protocol.specs.Transaction.{Key, Rules, client_context, server_context}
use Rattle.bac_protocol.specs.Straight.{WayFits}
use Rattle.bac_protocol.proofs.Queue.{Nows, TransactionPair, served}
use Rattle.bac_protocol.proofs.Windows.{takes_one, takes_last, after_piece, taken_next, parts_next, next_window}
use Rattle.bac_protocol.proofs.Carries.{Sender, moved, Fitting}
use Rattle.bac_protocol.proofs.Requested.{server_new}
use Rattle.bac_liveness.proofs.Deliveries.{Within, Starts, starts_then, first_step}
use Rattle.bac_liveness.proofs.Acks.{acks_read, moving}
use Rattle.bac_liveness.proofs.Gets.{lives, alive_now}
use Rattle.bac_liveness.proofs.Remembered.{Remembered, of_pieces, of_whole}
use Rattle.bac_liveness.proofs.Uploads as up

module _ (S : Type 0) (model : StoreModel S) (x : Rules) (now : Nows) (number : ℕ) (key : Key) (ask : Ask) (young : client.is_expired now.here ask ≡ false)
    (repeats : ℕ) (stores : ℕ → S) (log : List Fact) (p : Reply)
    (outcome_is : model.outcome (stores key.server) ask.choice (join ask.pieces) ≡ Replies p)
    (fits : WayFits (reply_way_of (server_context x key now.there).settings (client_context x key now.here).settings.limits p)) where
  abbrev c : Context
  c = client_context x key now.here

  abbrev d : Context
  d = server_context x key now.there

  abbrev service : Service
  service = model.outcome (stores key.server)

  abbrev n : ℕ
  n = length ask.pieces

  abbrev actual : ℕ
  actual = min c.settings.window d.settings.window

  abbrev piece : ℕ → Apdu
  piece = client.request_piece c ask.choice ask.pieces

  abbrev in_phase : Phase → ClientTransaction
  in_phase phase = record { ask = ask; phase = phase; repeats = repeats; since = now.here }

  abbrev pub asking : Phase → Option ServerTransaction → List Apdu → TransactionPair S
  asking phase o pending = record { ticket = in_phase phase; entry = o; pending = pending; stores = stores; log = log }

  abbrev performed : ClientTransaction → Remembered → List Apdu → TransactionPair S
  performed = up.performed S model x now number key ask young repeats now.there (alive_now now.there) None stores log p outcome_is fits

  abbrev sent_first : Apdu
  sent_first = up.sent_first S model x now number key ask young repeats now.there (alive_now now.there) None stores log p outcome_is fits

  abbrev ack : Bool → ℕ → Apdu
  ack nak i = server.server_ack d nak i actual

  -- a request of one APDU
  pub whole_read : (o : Option ServerTransaction) → is_none_live now.there o ≡ true
      → Starts S model x now number key 1 (asking AwaitConfirmation o (client.request_apdu c ask ∷ []))
      (performed (in_phase AwaitConfirmation) (of_whole ask) (sent_first ∷ []))
  whole_read o dead =
      let a = client.request_apdu c ask in
      first_step S model x now number key (asking AwaitConfirmation o (a ∷ [])) (performed (in_phase AwaitConfirmation) (of_whole ask)
      (sent_first ∷ [])) [] a refl (omega arith) refl
      (up.performs_now S model x now number key ask young repeats now.there (alive_now now.there) None stores log p outcome_is fits (in_phase AwaitConfirmation) o
      (of_whole ask) Dropped a [] [] refl (server_new d service o a dead))

  -- the client waits for the reply, whose first APDU is the oldest copy; after it come some segments of the request that nobody waits for
  pub record StartsRead (from : TransactionPair S) (most : ℕ) : Type 0 where
    pub spent : ℕ
    pub first : ℕ
    pub extra : ℕ
    pub cheap : spent + extra ≤ most
    pub few : extra ≤ x.overtake
    pub reaches : Starts S model x now number key spent from (performed (in_phase AwaitConfirmation) (of_pieces ask) (sent_first ∷ pieces_from piece first extra))

  abbrev empty : Incoming
  empty = incoming d.settings.window c.settings.window

  first_taken : (o : Option ServerTransaction) (y : Taking) → is_none_live now.there o ≡ true
      → takes empty (0 % 256) (nat_lt (0 + 1) n) (get_or ask.pieces 0 []) ≡ y
      → server.server_on_apdu d service o true (piece 0) ≡ server.request_segment_taken d service (server.begins d ask.choice c.settings.limits None) 0 actual y
  first_taken o y dead e = server_new d service o (piece 0) dead
      ∙ ap (λ (z : Taking). server.request_segment_taken d service (server.begins d ask.choice c.settings.limits None) 0 actual z) e

  module _ (o : Option ServerTransaction) (dead : is_none_live now.there o ≡ true) (sizes : Fitting x.overtake actual c.settings.window ask.pieces)
      (near : actual < 256)
      (out : Outgoing) (same : out.pieces ≡ ask.pieces) (at_start : out.first ≡ 0) (one_piece : out.window ≡ 1) (all_sent : Bool) where
    abbrev from : TransactionPair S
    from = asking (SegmentedRequest out all_sent) o (piece 0 ∷ [])

    abbrev s : Sender
    s = record { out = out; all_sent = all_sent }

    -- a request of one piece
    of_one : 0 + 1 ≡ n → StartsRead from (3 * n)
    of_one one =
        let some = sizes.some in
        let room = sizes.room in
        let within = sizes.within in
        let len : length out.pieces ≡ n = ap length same in
        let e = takes_last ask.pieces empty 0 one sizes.few sizes.short refl refl in
        let mid = performed (in_phase (SegmentedRequest out all_sent)) (of_pieces ask) (ack false 0 ∷ sent_first ∷ []) in
        let entry = up.performed_entry S model x now number key ask young repeats now.there (alive_now now.there) None stores log p outcome_is fits (of_pieces ask) in
        let end = performed (in_phase AwaitConfirmation) (of_pieces ask) (sent_first ∷ []) in
        record {
          spent = 2;
          first = 0;
          extra = 0;
          cheap = omega arith;
          few = omega arith;
          reaches = starts_then S model x now number key 1 1 2 from mid end (omega arith)
              (first_step S model x now number key from mid [] (piece 0) refl (omega arith) refl
              (up.performs_now S model x now number key ask young repeats now.there (alive_now now.there) None stores log p outcome_is fits
              (in_phase (SegmentedRequest out all_sent)) o (of_pieces ask) Dropped (piece 0) (ack false 0 ∷ []) [] refl (first_taken o (Whole ask.pieces) dead e)))
              (up.last_acked S model x now number key ask young repeats now.there (alive_now now.there) None stores log (Some entry)
              (lives now.there entry (alive_now now.there))
              mid.stores mid.log s 0 (sent_first ∷ []) (omega arith) (omega arith) same (omega arith) (omega arith) one);
        }

    -- a request of more
    of_more : 0 + 1 < n → StartsRead from (3 * n)
    unfolding up.carries
    of_more more =
        let some = sizes.some in
        let room = sizes.room in
        let within = sizes.within in
        let carries = up.carries S model x now number key ask young repeats now.there (alive_now now.there) None stores log in
        let requesting = up.requesting S model x now number key ask young repeats now.there (alive_now now.there) None stores log in
        let inc = after_piece ask.pieces empty 0 0 in
        let s' = moved s (next_window actual c.settings.window out 0) in
        let len : length out.pieces ≡ n = ap length same in
        let e = takes_one ask.pieces empty 0 more sizes.few sizes.short refl refl true refl in
        let acked = requesting s inc now.there (ack false 0 ∷ []) in
        let one = first_step S model x now number key from acked [] (piece 0) refl (omega arith) refl
        (ap (λ (v : server.Reaction). served S model x now number key from [] v) (first_taken o (Taken true inc) dead e)) in
        let sent = requesting s' inc now.there (pieces_from piece 1 (in_window s'.out)) in
        let two : Within S model x now number key 1 acked sent = acks_read S model x now number key actual c.settings.window ask.pieces sizes near
        (moving S model x now number key actual c.settings.window ask.pieces carries inc now.there) 0 s false 0 [] same (omega arith) (omega arith)
        (omega arith)
        (omega arith) (omega arith) in
        let z = up.upload S model x now number key ask young repeats now.there (alive_now now.there) None stores log p outcome_is fits sizes near s' inc now.there 1
        (3 * n - 3)
        (record {
          pieces = same;
          shape = inl (omega arith);
          most = omega arith;
          some = omega arith;
          actual_is = refl;
          taken = taken_next ask.pieces empty 0 0 refl;
          parts = parts_next ask.pieces empty 0 0 (omega arith) refl;
          behind = omega arith;
          within = omega arith;
          left = omega arith;
        }) (up.not_late S model x now number key ask young repeats now.there (alive_now now.there) None stores log) (omega arith) in
        let cheap = z.cheap in
        record {
          spent = z.spent + 2;
          first = z.first;
          extra = z.extra;
          cheap = omega arith;
          few = z.few;
          reaches = starts_then S model x now number key 2 z.spent (z.spent + 2) from sent
              (performed (in_phase AwaitConfirmation) (of_pieces ask) (sent_first ∷ pieces_from piece z.first z.extra)) (omega arith)
              (starts_then S model x now number key 1 1 2 from acked sent (omega arith) one two) z.reaches;
        }

    pub pieces_read : 0 < n → StartsRead from (3 * n)
    pieces_read any = go (nat_lt 1 n) refl
      where
        go : (b : Bool) → nat_lt 1 n ≡ b → StartsRead from (3 * n)
        go false is = of_one (grind (arith, nat_tests))
        go true is = of_more (grind (arith, nat_tests))
