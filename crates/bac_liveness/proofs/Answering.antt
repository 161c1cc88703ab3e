-- Wherever the two ends of a transaction are in step, one turn answers its ask.
use Rattle.std.proofs.Common.{◌≡◌, ℕ, zero, suc, ◌+◌, ◌-◌, ◌*◌, ◌<◌, ◌≤◌, min, Bool, true, false, ◌||◌, List, [], ◌∷◌, length, Option, Some, None}
use Rattle.std.proofs.Common.{if◌then◌else◌, nat_le, refl, sym, ap, subst, inl, ◌∙◌, arith}
use Rattle.std.proofs.lemmas.Bool.Decides.{nat_tests}
use Rattle.bac_apdu.specs.Apdu.{Apdu}
use Rattle.bac_segment.specs.Limits.{N_RETRY}
use Rattle.bac_segment.specs.Pieces.{join}
use Rattle.bac_segment.specs.Window.{Outgoing, outgoing, in_window, resume, Incoming}
use Rattle.bac_protocol.specs.declared.times.TheConstants.{KEEP, T_OUT, T_SEG, T_WAIT_FOR_SEG}
use Rattle.bac_protocol.specs.Context.{Context}
use Rattle.bac_protocol.specs.Sizes.{Way, reply_way_of}
use Rattle.bac_protocol.specs.Sizes.Way.{InSegments}
use Rattle.bac_protocol.specs.Service.{Octets, Reply as reply}
use Rattle.bac_protocol.specs.Service.Reply.{Complex}
use Rattle.bac_protocol.specs.Service.Outcome.{Replies}
use Rattle.bac_protocol.specs.Wire.{pieces_from}
use Rattle.bac_protocol.specs.Client as client
use Rattle.bac_protocol.specs.Client.{Ask, Phase, ClientTransaction, is_idle, is_expired, request_of}
use Rattle.bac_protocol.specs.Client.Phase.{SegmentedRequest, AwaitConfirmation, SegmentedConf, Idle}
use Rattle.bac_protocol.specs.Client.Reaction.{Repeats}
use Rattle.bac_protocol.specs.Server as server
use Rattle.bac_protocol.specs.Server.{State, ServerTransaction, live_entry}
use Rattle.bac_protocol.specs.Server.State.{Done, SegmentedResponse, Dropped}
use Rattle.bac_protocol.specs.Server.Transfer.{Running, Stopped, Finished}
use Rattle.bac_protocol.specs.Log.{Fact, Has, StoreModel}
use Rattle.bac_protocol.specs.Log.Fact.{Performed}
use Rattle.bac_protocol.specs.Transaction.{Key, Rules, client_context, server_context}
use Rattle.bac_protocol.specs.World.{World, happens, start, client_now, server_now}
use Rattle.bac_protocol.specs.World.Event.{Tick}
use Rattle.bac_protocol.specs.Claims.{IsBounded}
use Rattle.bac_protocol.specs.Straight.{AreStraight, FitsData, WayFits, KindFits, way_count, way_to, request_count}
use Rattle.bac_protocol.proofs.Headline.{Kept}
use Rattle.bac_protocol.proofs.Ways.{way_cut}
use Rattle.bac_protocol.proofs.Replied.{way_taken}
use Rattle.bac_protocol.proofs.Queue.{Nows, TransactionPair}
use Rattle.bac_protocol.proofs.Follow.{Shows}
use Rattle.bac_protocol.proofs.Carries.{Sender, Fitting}
use Rattle.bac_liveness.specs.AfterPast.{ClientIsDue, HearsRequest, TakesRequest, Keeps, Gives, CanStill}
use Rattle.bac_liveness.specs.InStep.{IsAtStart, IsSending, AreTogether, StandsSending, StandsWaiting, StandsCollecting, Stands, IsCutFor, IsOfAsk, AreInStep}
use Rattle.bac_liveness.proofs.Deliveries.{Within, within_then, Starts, starts_then, starts_of}
use Rattle.bac_liveness.proofs.Gets.{alive_now}
use Rattle.bac_liveness.proofs.Remembered.{Remembered, of_entry, of_pieces, of_whole}
use Rattle.bac_liveness.proofs.Downloads.{Waits, await_waits, sending_waits}
use Rattle.bac_liveness.proofs.Retried.{window_most, window_some, together_again, round_of, none_live, fits_data, sending_ticks, awaiting_ticks}
use Rattle.bac_liveness.proofs.Retried.{collecting_ticks}
use Rattle.bac_liveness.proofs.Uploads as up
use Rattle.bac_liveness.proofs.Downloads as down
use Rattle.bac_liveness.proofs.Begins as begins
use Rattle.bac_liveness.proofs.Resends as again_
use Rattle.bac_liveness.proofs.Turned.{done_performed, reply_performed, ticked, server_ticked, Finishes}
use Rattle.bac_liveness.proofs.There.{IsThere, there, live_self}

module _ (S : Type 0) (model : StoreModel S) (opening : ℕ → S) (W : ℕ) (x : Rules) (bound : IsBounded W x) (w : World S)
    (kept_in : Kept S model opening W x bound w) (key : Key) (t : ClientTransaction) (at : w.net.tickets key ≡ Some t) (good : AreStraight x key) (p : reply)
    (can : CanStill S model x w key t p) where
  abbrev now : Nows
  now = record { real = w.net.now; here = client_now w.net key; there = server_now w.net key }

  abbrev number : ℕ
  number = w.net.numbers key

  abbrev c : Context
  c = client_context x key now.here

  abbrev d : Context
  d = server_context x key now.there

  abbrev ask : Ask
  ask = t.ask

  abbrev n : ℕ
  n = length ask.pieces

  abbrev wc : ℕ
  wc = way_count (way_to x key p)

  abbrev log : List Fact
  log = w.net.log

  -- the actual window of the request's transfer, and that of the reply's
  abbrev actual : ℕ
  actual = min c.settings.window d.settings.window

  abbrev actual_back : ℕ
  actual_back = min d.settings.window c.settings.window

  young : is_expired now.here ask ≡ false
  young = let y = can.in_time in grind (arith, nat_tests)

  near : actual < 256
  near = let a = bound.windows key.client in let b = bound.room in omega arith

  near_back : actual_back < 256
  near_back = let a = bound.windows key.client in let b = bound.room in omega arith

  positive : 0 < actual
  positive = let a = good.client in let b = good.server in omega arith

  positive_back : 0 < actual_back
  positive_back = let a = good.client in let b = good.server in omega arith

  room : actual ≤ x.overtake
  room = let a = good.room in omega arith

  room_back : actual_back ≤ x.overtake
  room_back = let a = good.room in omega arith

  back : actual ≡ actual_back
  back = omega arith

  request_sizes : ask.whole ≡ false → Fitting x.overtake actual c.settings.window ask.pieces
  request_sizes whole =
      let f = fits_data ask.whole ask.pieces whole can.request in
      let a = near in
      record { some = positive; small = omega arith; within = omega arith; room = room; few = f.0; short = f.1 }

  count_is : ask.whole ≡ false → request_count ask.whole ask.pieces ≡ n
  count_is whole = ap (λ b. request_count b ask.pieces) whole

  count_one : 0 < n → 1 ≤ request_count ask.whole ask.pieces
  count_one any = go ask.whole
    where
      go : (b : Bool) → 1 ≤ request_count b ask.pieces
      go true = omega arith
      go false = omega arith

  abbrev Fin : ℕ → TransactionPair S → Type 0
  Fin most from = Finishes S model opening W x bound w kept_in key t at most p from

  -- a world in which each straight run answers the ask
  pub record Ready (u : World S) : Type 0 where
    pub q : TransactionPair S
    pub shows : Shows S model x now number key u q (length w.net.posts)
    pub most : ℕ
    pub cheap : most ≤ 3 * request_count ask.whole ask.pieces + 3 * wc
    pub fin : Fin most q

  abbrev after_tick : World S
  after_tick = happens S model x w (Tick (key ∷ []) [])

  -- What was performed before ends the ticket.
  module _ (repeats begin : ℕ) (alive : nat_le (now.there - begin) KEEP ≡ true) (kept : Remembered) where
    abbrev EndsIn : ℕ → TransactionPair S → Type 0
    EndsIn most from = down.EndsWith S model x now number key ask young repeats begin alive kept w.stores log most from p

    ends_finish : (most : ℕ) (from : TransactionPair S) → is_idle from.ticket.phase ≡ false → Has (Performed number (request_of ask) p) log → EndsIn most from
        → Fin most from
    ends_finish most from going done h = record {
      end = h.end;
      idle = h.idle;
      before = log;
      log_is = h.log_is;
      performed = done;
      reaches = starts_of S model x now number key most from h.end going h.idle h.reaches;
    }

  -- What is performed now ends it.
  module _ (repeats begin : ℕ) (alive : nat_le (now.there - begin) KEEP ≡ true)
      (outcome : model.outcome (w.stores key.server) ask.choice (join ask.pieces) ≡ Replies p) where
    abbrev read : Remembered → List Apdu → TransactionPair S
    read kept pending = up.performed S model x now number key ask young repeats begin alive None w.stores log p outcome can.way
        (record { ask = ask; phase = AwaitConfirmation; repeats = repeats; since = now.here }) kept
        (up.sent_first S model x now number key ask young repeats begin alive None w.stores log p outcome can.way ∷ pending)

    abbrev stores' : ℕ → S
    stores' = up.stores_after S model x now number key ask young repeats begin alive None w.stores log p outcome can.way

    abbrev log' : List Fact
    log' = up.log_after S model x now number key ask young repeats begin alive None w.stores log p outcome can.way

    abbrev segments : ℕ → ℕ → List Apdu
    segments first extra = pieces_from (client.request_piece c ask.choice ask.pieces) first extra

    read_ends : (first extra : ℕ) (kept : Remembered) → (0 < extra → kept.request ≡ None) → extra ≤ x.overtake
        → down.EndsWith S model x now number key ask young repeats begin alive kept stores' log' (3 * wc + extra) (read kept (segments first extra)) p
    read_ends first extra kept plain few =
        down.reply_read S model x now number key ask young repeats begin alive kept stores' log' AwaitConfirmation now.here await_waits refl p
        (way_to x key p) first extra refl can.way can.kind positive_back near_back room_back plain few

    read_finishes : (most spent first extra : ℕ) (kept : Remembered) (from : TransactionPair S) → spent + extra ≤ most → (0 < extra → kept.request ≡ None)
        → extra ≤ x.overtake → Starts S model x now number key spent from (read kept (segments first extra)) → Fin (most + 3 * wc) from
    read_finishes most spent first extra kept from cheap plain few h =
        let z = read_ends first extra kept plain few in
        record {
          end = z.end;
          idle = z.idle;
          before = log';
          log_is = z.log_is;
          performed = inl refl;
          reaches = starts_then S model x now number key spent (3 * wc + extra) (most + 3 * wc) from (read kept (segments first extra)) z.end (omega arith) h
              z.reaches;
        }

    upload_finishes : (most spent first extra : ℕ) (from : TransactionPair S) → is_idle from.ticket.phase ≡ false → spent + extra ≤ most → extra ≤ x.overtake
        → Within S model x now number key spent from (read (of_pieces ask) (segments first extra)) → Fin (most + 3 * wc) from
    upload_finishes most spent first extra from going cheap few h =
        let z = read_ends first extra (of_pieces ask) (λ e. refl) few in
        record {
          end = z.end;
          idle = z.idle;
          before = log';
          log_is = z.log_is;
          performed = inl refl;
          reaches = starts_of S model x now number key (most + 3 * wc) from z.end going z.idle
              (within_then S model x now number key spent (3 * wc + extra) (most + 3 * wc) from (read (of_pieces ask) (segments first extra)) z.end (omega arith) h
              z.reaches);
        }

  -- The ticks.

  abbrev retried : Outgoing → Outgoing
  retried out = record out { retries = out.retries - 1 }

  abbrev sent_now : Outgoing → Bool → Bool
  sent_now out all_sent = all_sent || nat_le (length out.pieces) (out.first + in_window out)

  -- The entry.

  abbrev entry_with : (begin : ℕ) → Remembered → State → ServerTransaction
  entry_with begin kept state =
      record { begin = begin; choice = ask.choice; limits = c.settings.limits; request = kept.request; first = kept.first; state = state }

  same_entry : (e : ServerTransaction) → IsOfAsk x key ask e → (kept : Remembered) → e.request ≡ kept.request → e.first ≡ kept.first → (st : State) → e.state ≡ st
      → e ≡ entry_with e.begin kept st
  same_entry e of kept request one st state i =
      record { begin = e.begin; choice = of.choice i; limits = of.limits i; request = request i; first = one i; state = state i }

  entry_shows : (e : ServerTransaction) → live_entry now.there (w.net.entries key) ≡ Some e → IsOfAsk x key ask e → (kept : Remembered) → e.request ≡ kept.request
      → e.first ≡ kept.first → (st : State) → e.state ≡ st → live_entry now.there (w.net.entries key) ≡ live_entry now.there (Some (entry_with e.begin kept st))
  entry_shows e entry of kept request one st state =
      entry ∙ sym (live_self now.there e ((there now.there (w.net.entries key) e entry).live))
      ∙ ap (λ (y : ServerTransaction). live_entry now.there (Some y)) (same_entry e of kept request one st state)

  -- A reply in segments, in these pieces.

  module _ (reply_out : Outgoing) (same : p ≡ Complex (join reply_out.pieces))
      (cut : reply_way_of d.settings c.settings.limits (Complex (join reply_out.pieces)) ≡ InSegments reply_out.pieces) where
    abbrev ps : List Octets
    ps = reply_out.pieces

    abbrev m : ℕ
    m = length ps

    way_is : way_to x key p ≡ InSegments ps
    way_is = ap (λ (q : reply). way_to x key q) same ∙ cut

    wc_is : wc ≡ m
    wc_is = ap way_count way_is

    reply_fits : FitsData ps
    reply_fits = subst (λ (y : Way ℕ). WayFits y) way_is can.way

    reply_sizes : Fitting x.overtake actual_back d.settings.window ps
    reply_sizes =
        let a = near_back in
        record { some = positive_back; small = omega arith; within = omega arith; room = room_back; few = reply_fits.0; short = reply_fits.1 }

    segments_taken : c.settings.limits.takes_segments ≡ true
    segments_taken = way_taken d.settings c.settings.limits (Complex (join ps)) ps cut

    kind_is : KindFits x.readable ask.choice (Complex (join ps))
    kind_is = subst (λ (q : reply). KindFits x.readable ask.choice q) same can.kind

    reply_some : 0 < m
    reply_some = (way_cut d.settings c.settings.limits (Complex (join ps)) ps cut).some

    abbrev with_retries : ℕ → Outgoing
    with_retries r = record reply_out { retries = r }

    abbrev running : ℕ → State
    running r = SegmentedResponse (with_retries r) Running now.there

    abbrev reply_window : ℕ → List Apdu
    reply_window r = server.reply_window d ask.choice (with_retries r)

    module _ (repeats begin : ℕ) (alive : nat_le (now.there - begin) KEEP ≡ true) (kept : Remembered) (r : ℕ) where
      -- the client has taken nothing of it
      from_start : (phase : Phase) (since : ℕ) → Waits phase → is_idle phase ≡ false → IsAtStart reply_out
          → EndsIn repeats begin alive kept (3 * wc) (record {
            ticket = record { ask = ask; phase = phase; repeats = repeats; since = since };
            entry = Some (entry_with begin kept (running r));
            pending = reply_window r;
            stores = w.stores;
            log = log;
          })
      from_start phase since waits going start =
          let some = reply_some in
          let zero_is : reply_out.first ≡ 0 = start.0 in
          let win : reply_out.window ≡ 1 = start.1 in
          let one : in_window (with_retries r) ≡ 1 = omega arith in
          let count = wc_is in
          let total : 3 * m + 0 ≡ 3 * wc = omega arith in
          let piece = server.reply_piece d ask.choice ps in
          let sent : pieces_from piece 0 1 ≡ reply_window r = λ i. pieces_from piece (sym zero_is i) (sym one i) in
          let z = down.first_given S model x now number key ask young repeats begin alive kept w.stores log ps segments_taken kind_is.0 kind_is.1
          reply_sizes near_back phase since waits going (with_retries r) refl zero_is win 0 0 (λ h. absurd (omega arith)) (omega arith) some in
          let from : List Apdu → TransactionPair S = λ ys. record {
            ticket = record { ask = ask; phase = phase; repeats = repeats; since = since };
            entry = Some (entry_with begin kept (running r));
            pending = ys;
            stores = w.stores;
            log = log;
          } in
          subst (λ (ys : List Apdu). EndsIn repeats begin alive kept (3 * wc) (from ys)) sent
          (subst (λ (k : ℕ). EndsIn repeats begin alive kept k (from (pieces_from piece 0 1))) total
          (subst (λ (q : reply). down.EndsWith S model x now number key ask young repeats begin alive kept w.stores log (3 * m + 0)
          (from (pieces_from piece 0 1)) q) (sym same) z))

      -- the client has taken some of it
      from_middle : (inc : Incoming) (since : ℕ) → AreTogether actual ps reply_out inc
          → EndsIn repeats begin alive kept (3 * wc) (record {
            ticket = record { ask = ask; phase = SegmentedConf inc; repeats = repeats; since = since };
            entry = Some (entry_with begin kept (running r));
            pending = reply_window r;
            stores = w.stores;
            log = log;
          })
      unfolding down.carries
      from_middle inc since together =
          let s : Sender = record { out = with_retries r; all_sent = false } in
          let count = wc_is in
          let total : 3 * m ≡ 3 * wc = omega arith in
          let carries = down.carries S model x now number key ask young repeats begin alive kept w.stores log ps in
          let near' : AreTogether actual_back ps (with_retries r) inc = subst (λ (a : ℕ). AreTogether a ps (with_retries r) inc) back
          (together_again actual r ps reply_out inc together) in
          let z = down.download S model x now number key ask young repeats begin alive kept w.stores log ps segments_taken kind_is.0 kind_is.1
          reply_sizes near_back s inc since (length inc.parts) (3 * m)
          (round_of S model x now number key actual_back d.settings.window ps reply_sizes near_back carries s inc near') (omega arith) in
          let from : TransactionPair S = record {
            ticket = record { ask = ask; phase = SegmentedConf inc; repeats = repeats; since = since };
            entry = Some (entry_with begin kept (running r));
            pending = reply_window r;
            stores = w.stores;
            log = log;
          } in
          subst (λ (k : ℕ). EndsIn repeats begin alive kept k from) total
          (subst (λ (q : reply). down.EndsWith S model x now number key ask young repeats begin alive kept w.stores log (3 * m) from q) (sym same) z)

  -- A request in segments, whose window is sent again.

  module _ (out : Outgoing) (all_sent : Bool) (is : t.phase ≡ SegmentedRequest out all_sent) (due : T_SEG ≤ now.here - t.since) (left : 0 < out.retries)
      (whole : ask.whole ≡ false) (sends : IsSending actual ask.pieces out) where
    abbrev out' : Outgoing
    out' = retried out

    abbrev all' : Bool
    all' = sent_now out' all_sent

    abbrev ticket : ClientTransaction
    ticket = record { ask = ask; phase = SegmentedRequest out' all'; repeats = t.repeats; since = now.here }

    abbrev sender : Sender
    sender = record { out = out'; all_sent = all' }

    abbrev window : List Apdu
    window = pieces_from (client.request_piece c ask.choice ask.pieces) out.first (in_window out')

    sent_window : client.request_window c ask.choice out' ≡ window
    sent_window = ap (λ (ps : List Octets). pieces_from (client.request_piece c ask.choice ps) out.first (in_window out')) sends.pieces_are

    in_some : 0 < in_window out'
    in_some =
        let a = window_some actual out positive sends.window in
        let b = sends.left in
        let e : length out.pieces ≡ n = ap length sends.pieces_are in
        omega arith

    in_most : in_window out' ≤ actual
    in_most = let a = window_most actual out positive sends.window in omega arith

    in_all : in_window out' ≤ n
    in_all = let e : length out.pieces ≡ n = ap length sends.pieces_are in omega arith

    all_is : all_sent ≡ true → all' ≡ true
    all_is e = ap (λ b. b || nat_le (length out.pieces) (out.first + in_window out')) e

    sending_shows : (q : TransactionPair S) → ticket ≡ q.ticket → window ≡ q.pending → w.stores ≡ q.stores → log ≡ q.log
        → live_entry now.there (w.net.entries key) ≡ live_entry now.there q.entry → Shows S model x now number key after_tick q (length w.net.posts)
    sending_shows q ticket_is pending stores log_is entry =
        ticked S model opening W x bound w kept_in key t at can.serving (client.sends_request_window c ask.choice out' all_sent) q
        (sending_ticks c t young out all_sent is due left) ticket_is (sent_window ∙ pending) refl stores log_is entry

    -- its server has not heard of it
    sending_new : live_entry now.there (w.net.entries key) ≡ None → IsAtStart out
        → model.outcome (w.stores key.server) ask.choice (join ask.pieces) ≡ Replies p → Ready after_tick
    sending_new none start outcome =
        let some = sends.left in
        let len : length out.pieces ≡ n = ap length sends.pieces_are in
        let zero_is : out.first ≡ 0 = start.0 in
        let win : out.window ≡ 1 = start.1 in
        let one : in_window out' ≡ 1 = omega arith in
        let q = begins.asking S model x now number key ask young t.repeats w.stores log p outcome can.way (SegmentedRequest out' all') (w.net.entries key)
        (client.request_piece c ask.choice ask.pieces 0 ∷ []) in
        let z = begins.pieces_read S model x now number key ask young t.repeats w.stores log p outcome can.way (w.net.entries key)
        (none_live now.there (w.net.entries key) none) (request_sizes whole) near out' sends.pieces_are zero_is win all' (omega arith) in
        let count = count_is whole in
        record {
          q = q;
          shows = sending_shows q refl (λ i. pieces_from (client.request_piece c ask.choice ask.pieces) (zero_is i) (one i)) refl refl refl;
          most = 3 * n + 3 * wc;
          cheap = omega arith;
          fin = read_finishes t.repeats now.there (alive_now now.there) outcome (3 * n) z.spent z.first z.extra (of_pieces ask) q z.cheap (λ h. refl) z.few z.reaches;
        }

    -- its server keeps an entry for it
    module _ (e : ServerTransaction) (entry : live_entry now.there (w.net.entries key) ≡ Some e) (of : IsOfAsk x key ask e) where
      found : IsThere now.there (w.net.entries key) e
      found = there now.there (w.net.entries key) e entry

      no_request : e.request ≡ None
      no_request = of.request ∙ ap (λ b. if b then Some (join ask.pieces) else None) whole

      -- a reassembly
      sending_received : (inc : Incoming) (since : ℕ) → e.state ≡ State.SegmentedRequest inc since → now.there - since < T_WAIT_FOR_SEG
          → AreTogether actual ask.pieces out inc
          → model.outcome (w.stores key.server) ask.choice (join ask.pieces) ≡ Replies p → Ready after_tick
      unfolding up.carries
      sending_received inc since state timely together outcome =
          let sizes = request_sizes whole in
          let in_time : nat_le T_WAIT_FOR_SEG (now.there - since) ≡ false = grind (arith, nat_tests) in
          let carries = up.carries S model x now number key ask young t.repeats e.begin found.live e.first w.stores log in
          let q = up.requesting S model x now number key ask young t.repeats e.begin found.live e.first w.stores log sender inc since window in
          let z = up.upload S model x now number key ask young t.repeats e.begin found.live e.first w.stores log p outcome can.way sizes near sender inc since
          (length inc.parts) (3 * n)
          (round_of S model x now number key actual c.settings.window ask.pieces sizes near carries sender inc
          (together_again actual (out.retries - 1) ask.pieces out inc together)) in_time (omega arith) in
          let count = count_is whole in
          record {
            q = q;
            shows = sending_shows q refl refl refl refl (entry_shows e entry of (of_entry e None) no_request refl (State.SegmentedRequest inc since) state);
            most = 3 * n + 3 * wc;
            cheap = omega arith;
            fin = upload_finishes t.repeats e.begin found.live outcome (3 * n) z.spent z.first z.extra q refl z.cheap z.few z.reaches;
          }

      -- a kept reply of one APDU
      sending_done : (kept : Apdu) → e.state ≡ Done kept → all_sent ≡ true → kept ≡ server.reply_apdu d ask.choice p → Ready after_tick
      sending_done kept state all same =
          let w' = in_window out' in
          let most = in_most in
          let all_in = in_all in
          let phase_is = all_is all in
          let big = room in
          let q = again_.with_state S model x now number key ask young t.repeats e.begin found.live (of_entry e None) w.stores log
          (record { ask = ask; phase = SegmentedRequest out' true; repeats = t.repeats; since = now.here }) (Done (server.reply_apdu d ask.choice p)) window in
          let z = again_.segments_answered S model x now number key ask young t.repeats e.begin found.live (of_entry e None) w.stores log p w' out.first now.here out' refl
          in_some (omega arith) can.kind in
          let count = count_is whole in
          record {
            q = q;
            shows = sending_shows q
                (ap (λ b. record { ask = ask; phase = SegmentedRequest out' b; repeats = t.repeats; since = now.here }) phase_is) refl refl refl
                (entry_shows e entry of (of_entry e None) no_request refl (Done (server.reply_apdu d ask.choice p)) (state ∙ ap Done same));
            most = w' + 1;
            cheap = omega arith;
            fin = ends_finish t.repeats e.begin found.live (of_entry e None) (w' + 1) q refl
                (done_performed S model opening W x bound w kept_in key t at e found.at found.live kept state p same) z;
          }

      -- a reply in segments whose transfer has stopped
      sending_stopped : (reply_out : Outgoing) (since : ℕ) → e.state ≡ SegmentedResponse reply_out Stopped since → all_sent ≡ true
          → IsAtStart reply_out → (same : p ≡ Complex (join reply_out.pieces)) → IsCutFor x key (SegmentedResponse reply_out Stopped since) → Ready after_tick
      sending_stopped reply_out since state all start same cut = go (in_window out') refl in_some
        where
          go : (k : ℕ) → in_window out' ≡ k → 0 < k → Ready after_tick
          go zero is' some = absurd (omega arith)
          go (suc k) is' some =
              let most = in_most in
              let all_in = in_all in
              let phase_is = all_is all in
              let big = room in
              let st : State = SegmentedResponse reply_out Stopped since in
              let t' : ClientTransaction = record { ask = ask; phase = SegmentedRequest out' true; repeats = t.repeats; since = now.here } in
              let sent = pieces_from (client.request_piece c ask.choice ask.pieces) out.first (suc k) in
              let q = again_.with_state S model x now number key ask young t.repeats e.begin found.live (of_entry e None) w.stores log t' st sent in
              let mid = again_.with_state S model x now number key ask young t.repeats e.begin found.live (of_entry e None) w.stores log t'
              (SegmentedResponse (resume reply_out) Running now.there) (server.reply_window d ask.choice (resume reply_out)) in
              let y = again_.segments_resume S model x now number key ask young t.repeats e.begin found.live (of_entry e None) w.stores log t' reply_out since k out.first
              refl refl (omega arith) in
              let z = from_start reply_out same cut t.repeats e.begin found.live (of_entry e None) N_RETRY (SegmentedRequest out' true) now.here (sending_waits out') refl
              start in
              let count = count_is whole in
              record {
                q = q;
                shows = sending_shows q
                    (ap (λ b. record { ask = ask; phase = SegmentedRequest out' b; repeats = t.repeats; since = now.here }) phase_is)
                    (ap (λ (j : ℕ). pieces_from (client.request_piece c ask.choice ask.pieces) out.first j) is') refl refl
                    (entry_shows e entry of (of_entry e None) no_request refl st state);
                most = suc k + 3 * wc;
                cheap = omega arith;
                fin = ends_finish t.repeats e.begin found.live (of_entry e None) (suc k + 3 * wc) q refl
                    (reply_performed S model opening W x bound w kept_in key t at e found.at found.live reply_out Stopped since state p same)
                    (down.ends_then S model x now number key ask young t.repeats e.begin found.live (of_entry e None) w.stores log (suc k) (3 * wc) (suc k + 3 * wc) q mid p
                    (omega arith) y z);
              }

  -- A request whose answer is waited for.

  abbrev waiting : Phase → ClientTransaction
  waiting phase = record { ask = ask; phase = phase; repeats = t.repeats - 1; since = now.here }

  request_kept : (e : ServerTransaction) → IsOfAsk x key ask e → (b : Bool) → ask.whole ≡ b → e.request ≡ (if b then Some (join ask.pieces) else None)
  request_kept e of b whole = of.request ∙ ap (λ y. if y then Some (join ask.pieces) else None) whole

  whole_count : ask.whole ≡ true → request_count ask.whole ask.pieces ≡ 1
  whole_count whole = ap (λ b. request_count b ask.pieces) whole

  whole_shows : (phase : Phase) → client.client_ticks c t ≡ Repeats t.phase (client.request_apdu c ask ∷ []) → t.phase ≡ phase → (q : TransactionPair S)
      → waiting phase ≡ q.ticket → client.request_apdu c ask ∷ [] ≡ q.pending → w.stores ≡ q.stores → log ≡ q.log
      → live_entry now.there (w.net.entries key) ≡ live_entry now.there q.entry → Shows S model x now number key after_tick q (length w.net.posts)
  whole_shows phase ticks is q ticket pending stores log_is entry =
      ticked S model opening W x bound w kept_in key t at can.serving (Repeats t.phase (client.request_apdu c ask ∷ [])) q ticks
      (ap waiting is ∙ ticket) pending refl stores log_is entry

  module _ (is : t.phase ≡ AwaitConfirmation) (due : T_OUT ≤ now.here - t.since) (left : 0 < t.repeats) (some : 0 < n) where
    waiting_new : ask.whole ≡ true → live_entry now.there (w.net.entries key) ≡ None
        → model.outcome (w.stores key.server) ask.choice (join ask.pieces) ≡ Replies p → Ready after_tick
    waiting_new whole none outcome =
        let q = begins.asking S model x now number key ask young (t.repeats - 1) w.stores log p outcome can.way AwaitConfirmation (w.net.entries key)
        (client.request_apdu c ask ∷ []) in
        let z = begins.whole_read S model x now number key ask young (t.repeats - 1) w.stores log p outcome can.way (w.net.entries key)
        (none_live now.there (w.net.entries key) none) in
        let count = whole_count whole in
        record {
          q = q;
          shows = whole_shows AwaitConfirmation (awaiting_ticks c t young is due left true whole) is q refl refl refl refl refl;
          most = 1 + 3 * wc;
          cheap = omega arith;
          fin = read_finishes (t.repeats - 1) now.there (alive_now now.there) outcome 1 1 0 0 (of_whole ask) q (omega arith)
              (λ h. absurd (omega arith))
              (omega arith) z;
        }

    abbrev anew : Outgoing
    anew = outgoing ask.pieces

    anew_one : in_window anew ≡ 1
    anew_one = omega arith

    pieces_shows : ask.whole ≡ false → (q : TransactionPair S) → waiting (SegmentedRequest anew true) ≡ q.ticket
        → pieces_from (client.request_piece c ask.choice ask.pieces) 0 1 ≡ q.pending → w.stores ≡ q.stores → log ≡ q.log
        → live_entry now.there (w.net.entries key) ≡ live_entry now.there q.entry → Shows S model x now number key after_tick q (length w.net.posts)
    pieces_shows whole q ticket pending stores log_is entry =
        ticked S model opening W x bound w kept_in key t at can.serving (Repeats (SegmentedRequest anew true) (client.request_window c ask.choice anew)) q
        (awaiting_ticks c t young is due left false whole) ticket
        (ap (λ (k : ℕ). pieces_from (client.request_piece c ask.choice ask.pieces) 0 k) anew_one ∙ pending) refl stores log_is entry

    module _ (e : ServerTransaction) (entry : live_entry now.there (w.net.entries key) ≡ Some e) (of : IsOfAsk x key ask e) where
      there_is : IsThere now.there (w.net.entries key) e
      there_is = there now.there (w.net.entries key) e entry

      -- a kept reply of one APDU
      waiting_done : (kept : Apdu) → e.state ≡ Done kept → kept ≡ server.reply_apdu d ask.choice p → Ready after_tick
      waiting_done kept state same = go ask.whole refl
        where
          done : Has (Performed number (request_of ask) p) log
          done = done_performed S model opening W x bound w kept_in key t at e there_is.at there_is.live kept state p same

          st : State
          st = Done (server.reply_apdu d ask.choice p)

          go : (b : Bool) → ask.whole ≡ b → Ready after_tick
          go true whole =
              let request : Remembered = of_entry e (Some (join ask.pieces)) in
              let q = again_.with_state S model x now number key ask young (t.repeats - 1) e.begin there_is.live request w.stores log
              (waiting AwaitConfirmation) st (client.request_apdu c ask ∷ []) in
              let z = again_.request_answered S model x now number key ask young (t.repeats - 1) e.begin there_is.live request w.stores log p
              AwaitConfirmation now.here await_waits refl refl can.kind in
              let count = whole_count whole in
              record {
                q = q;
                shows = whole_shows AwaitConfirmation (awaiting_ticks c t young is due left true whole) is q refl refl refl refl
                    (entry_shows e entry of request (request_kept e of true whole) refl st (state ∙ ap Done same));
                most = 2;
                cheap = omega arith;
                fin = ends_finish (t.repeats - 1) e.begin there_is.live request 2 q refl done z;
              }
          go false whole =
              let q = again_.with_state S model x now number key ask young (t.repeats - 1) e.begin there_is.live (of_entry e None) w.stores log
              (waiting (SegmentedRequest anew true)) st (pieces_from (client.request_piece c ask.choice ask.pieces) 0 1) in
              let big = room in
              let big' = positive in
              let z = again_.segments_answered S model x now number key ask young
              (t.repeats - 1) e.begin there_is.live (of_entry e None) w.stores log p 1 0 now.here anew refl (omega arith) (omega arith) can.kind in
              let count = count_is whole in
              record {
                q = q;
                shows = pieces_shows whole q refl refl refl refl
                    (entry_shows e entry of (of_entry e None) (request_kept e of false whole) refl st (state ∙ ap Done same));
                most = 1 + 1;
                cheap = omega arith;
                fin = ends_finish (t.repeats - 1) e.begin there_is.live (of_entry e None) (1 + 1) q refl done z;
              }

      -- a reply in segments whose transfer has stopped
      waiting_stopped : (reply_out : Outgoing) (since : ℕ) → e.state ≡ SegmentedResponse reply_out Stopped since → IsAtStart reply_out
          → (same : p ≡ Complex (join reply_out.pieces)) → IsCutFor x key (SegmentedResponse reply_out Stopped since) → Ready after_tick
      waiting_stopped reply_out since state start same cut = go ask.whole refl
        where
          done : Has (Performed number (request_of ask) p) log
          done = reply_performed S model opening W x bound w kept_in key t at e there_is.at there_is.live reply_out Stopped since state p same

          st : State
          st = SegmentedResponse reply_out Stopped since

          running_now : State
          running_now = SegmentedResponse (resume reply_out) Running now.there

          go : (b : Bool) → ask.whole ≡ b → Ready after_tick
          go true whole =
              let request : Remembered = of_entry e (Some (join ask.pieces)) in
              let ticket = waiting AwaitConfirmation in
              let q = again_.with_state S model x now number key ask young (t.repeats - 1) e.begin there_is.live request w.stores log ticket st
              (client.request_apdu c ask ∷ []) in
              let mid = again_.with_state S model x now number key ask young (t.repeats - 1) e.begin there_is.live request w.stores log ticket
              (SegmentedResponse (resume reply_out) Running now.there) (server.reply_window d ask.choice (resume reply_out)) in
              let y = again_.request_resumes S model x now number key ask young (t.repeats - 1) e.begin there_is.live request w.stores log ticket reply_out
              since refl refl in
              let z = from_start reply_out same cut (t.repeats - 1) e.begin there_is.live request N_RETRY AwaitConfirmation now.here await_waits refl start in
              let count = whole_count whole in
              record {
                q = q;
                shows = whole_shows AwaitConfirmation (awaiting_ticks c t young is due left true whole) is q refl refl refl refl
                    (entry_shows e entry of request (request_kept e of true whole) refl st state);
                most = 1 + 3 * wc;
                cheap = omega arith;
                fin = ends_finish (t.repeats - 1) e.begin there_is.live request (1 + 3 * wc) q refl done
                    (down.ends_then S model x now number key ask young (t.repeats - 1) e.begin there_is.live request w.stores log 1 (3 * wc)
                    (1 + 3 * wc) q mid p (omega arith) y z);
              }
          go false whole =
              let big = room in
              let big' = positive in
              let ticket = waiting (SegmentedRequest anew true) in
              let q = again_.with_state S model x now number key ask young (t.repeats - 1) e.begin there_is.live (of_entry e None) w.stores log ticket st
              (pieces_from (client.request_piece c ask.choice ask.pieces) 0 1) in
              let mid = again_.with_state S model x now number key ask young (t.repeats - 1) e.begin there_is.live (of_entry e None) w.stores log ticket
              (SegmentedResponse (resume reply_out) Running now.there) (server.reply_window d ask.choice (resume reply_out)) in
              let y = again_.segments_resume S model x now number key ask young (t.repeats - 1) e.begin there_is.live (of_entry e None) w.stores log ticket reply_out since
              0 0 refl refl (omega arith) in
              let z = from_start reply_out same cut (t.repeats - 1) e.begin there_is.live (of_entry e None) N_RETRY (SegmentedRequest anew true) now.here
              (sending_waits anew) refl start in
              let count = count_is whole in
              record {
                q = q;
                shows = pieces_shows whole q refl refl refl refl (entry_shows e entry of (of_entry e None) (request_kept e of false whole) refl st state);
                most = 1 + 3 * wc;
                cheap = omega arith;
                fin = ends_finish (t.repeats - 1) e.begin there_is.live (of_entry e None) (1 + 3 * wc) q refl done
                    (down.ends_then S model x now number key ask young (t.repeats - 1) e.begin there_is.live (of_entry e None) w.stores log 1 (3 * wc) (1 + 3 * wc) q mid p
                    (omega arith) y z);
              }

  -- A reply that is collected, and has stopped.

  collecting_stopped : (inc : Incoming) → t.phase ≡ SegmentedConf inc → T_WAIT_FOR_SEG ≤ now.here - t.since → 0 < t.repeats → ask.whole ≡ true
      → (e : ServerTransaction) → live_entry now.there (w.net.entries key) ≡ Some e → IsOfAsk x key ask e
      → (reply_out : Outgoing) (since : ℕ) → e.state ≡ SegmentedResponse reply_out Stopped since → AreTogether actual reply_out.pieces reply_out inc
      → (same : p ≡ Complex (join reply_out.pieces)) → IsCutFor x key (SegmentedResponse reply_out Stopped since) → Ready after_tick
  collecting_stopped inc is due left whole e entry of reply_out since state together same cut =
      let found = there now.there (w.net.entries key) e entry in
      let request : Remembered = of_entry e (Some (join ask.pieces)) in
      let ticket = waiting (SegmentedConf inc) in
      let st : State = SegmentedResponse reply_out Stopped since in
      let q = again_.with_state S model x now number key ask young (t.repeats - 1) e.begin found.live request w.stores log ticket st
      (client.request_apdu c ask ∷ []) in
      let mid = again_.with_state S model x now number key ask young (t.repeats - 1) e.begin found.live request w.stores log ticket
      (SegmentedResponse (resume reply_out) Running now.there) (server.reply_window d ask.choice (resume reply_out)) in
      let y = again_.request_resumes S model x now number key ask young (t.repeats - 1) e.begin found.live request w.stores log ticket reply_out since refl
      refl in
      let z = from_middle reply_out same cut (t.repeats - 1) e.begin found.live request N_RETRY inc now.here together in
      let done = reply_performed S model opening W x bound w kept_in key t at e found.at found.live reply_out Stopped since state p same in
      let count = whole_count whole in
      record {
        q = q;
        shows = whole_shows (SegmentedConf inc) (collecting_ticks c t young inc is due left whole) is q refl refl refl refl
            (entry_shows e entry of request (request_kept e of true whole) refl st state);
        most = 1 + 3 * wc;
        cheap = omega arith;
        fin = ends_finish (t.repeats - 1) e.begin found.live request (1 + 3 * wc) q refl done
            (down.ends_then S model x now number key ask young (t.repeats - 1) e.begin found.live request w.stores log 1 (3 * wc) (1 + 3 * wc) q mid p
            (omega arith) y z);
      }

  -- The server's turn.

  module _ (e : ServerTransaction) (entry : live_entry now.there (w.net.entries key) ≡ Some e) (of : IsOfAsk x key ask e) (reply_out : Outgoing) (since : ℕ)
      (state : e.state ≡ SegmentedResponse reply_out Running since) (due : T_SEG ≤ now.there - since) (left : 0 < reply_out.retries)
      (same : p ≡ Complex (join reply_out.pieces)) (cut : IsCutFor x key (SegmentedResponse reply_out Running since)) where
    abbrev r : ℕ
    r = reply_out.retries - 1

    served_is : IsThere now.there (w.net.entries key) e
    served_is = there now.there (w.net.entries key) e entry

    abbrev next_state : State
    next_state = SegmentedResponse (record reply_out { retries = reply_out.retries - 1 }) Running now.there

    abbrev gives : Phase → TransactionPair S
    gives phase = record {
      ticket = record { ask = ask; phase = phase; repeats = t.repeats; since = t.since };
      entry = Some (entry_with e.begin (of_entry e e.request) next_state);
      pending = server.reply_window d ask.choice (record reply_out { retries = reply_out.retries - 1 });
      stores = w.stores;
      log = log;
    }

    ticket_is : (phase : Phase) → t.phase ≡ phase → (gives phase).ticket ≡ t
    ticket_is phase is i = record { ask = ask; phase = sym is i; repeats = t.repeats; since = t.since }

    entry_is : entry_with e.begin (of_entry e e.request) next_state ≡ record e { state = next_state }
    entry_is i = record { begin = e.begin; choice = sym of.choice i; limits = sym of.limits i; request = e.request; first = e.first; state = next_state }

    server_ready : (phase : Phase) → t.phase ≡ phase → is_idle phase ≡ false → EndsIn t.repeats e.begin served_is.live (of_entry e e.request) (3 * wc) (gives phase)
        → Ready (happens S model x w (Tick [] (key ∷ [])))
    server_ready phase is going z = record {
      q = gives phase;
      shows = server_ticked S model opening W x bound w kept_in key t at can.serving e served_is.at served_is.live reply_out since state due left (gives phase)
          (ticket_is phase is) (ap Some entry_is)
          (ap (λ (ch : ℕ). server.reply_window d ch (record reply_out { retries = reply_out.retries - 1 })) (sym of.choice)) refl refl;
      most = 3 * wc;
      cheap = omega arith;
      fin = ends_finish t.repeats e.begin served_is.live (of_entry e e.request) (3 * wc) (gives phase) going
          (reply_performed S model opening W x bound w kept_in key t at e served_is.at served_is.live reply_out Running since state p same) z;
    }

    pub server_turn : (phase : Phase) → t.phase ≡ phase → is_idle phase ≡ false → Stands actual ask phase (Some e)
        → Ready (happens S model x w (Tick [] (key ∷ [])))
    server_turn Idle is going h = absurd cc
    server_turn AwaitConfirmation is going h =
        let start : StandsWaiting (SegmentedResponse reply_out Running since) = subst (λ (st : State). StandsWaiting st) state h in
        server_ready AwaitConfirmation is refl
        (from_start reply_out same cut t.repeats e.begin served_is.live (of_entry e e.request) r AwaitConfirmation t.since await_waits refl start)
    server_turn (SegmentedConf inc) is going h =
        let together : StandsCollecting actual inc (SegmentedResponse reply_out Running since) =
        subst (λ (st : State). StandsCollecting actual inc st) state h in
        server_ready (SegmentedConf inc) is refl (from_middle reply_out same cut t.repeats e.begin served_is.live (of_entry e e.request) r inc t.since together)
    server_turn (SegmentedRequest out all_sent) is going h =
        let start : StandsSending actual ask.pieces out all_sent (SegmentedResponse reply_out Running since) =
        subst (λ (st : State). StandsSending actual ask.pieces out all_sent st) state h.2 in
        let all : SegmentedRequest out all_sent ≡ SegmentedRequest out true = ap (λ b. SegmentedRequest out b) start.0 in
        server_ready (SegmentedRequest out true) (is ∙ all) refl
        (from_start reply_out same cut t.repeats e.begin served_is.live (of_entry e e.request) r (SegmentedRequest out true) t.since (sending_waits out) refl start.1)

  -- The client's turn.

  abbrev Outcome : Type 0
  Outcome = model.outcome (w.stores key.server) ask.choice (join ask.pieces) ≡ Replies p

  module _ (e : ServerTransaction) (entry : live_entry now.there (w.net.entries key) ≡ Some e) (of : IsOfAsk x key ask e) (some : 0 < n) where
    sending_turn : (out : Outgoing) (all_sent : Bool) → t.phase ≡ SegmentedRequest out all_sent → ClientIsDue now.here t (SegmentedRequest out all_sent)
        → ask.whole ≡ false → IsSending actual ask.pieces out
        → (st : State) → e.state ≡ st → HearsRequest now.there st → StandsSending actual ask.pieces out all_sent st → Keeps x key now.there t p st Outcome
        → IsCutFor x key st → Ready after_tick
    sending_turn out all is due whole sends (State.SegmentedRequest inc since) state hears stands keeps cut =
        sending_received out all is due.0 due.1 whole sends e entry of inc since state hears stands keeps
    sending_turn out all is due whole sends (Done kept) state hears stands keeps cut =
        sending_done out all is due.0 due.1 whole sends e entry of kept state stands keeps
    sending_turn out all is due whole sends (SegmentedResponse reply_out Stopped since) state hears stands keeps cut =
        sending_stopped out all is due.0 due.1 whole sends e entry of reply_out since state stands.0 stands.1 keeps cut
    sending_turn out all is due whole sends (SegmentedResponse reply_out Running since) state hears stands keeps cut = absurd hears
    sending_turn out all is due whole sends (SegmentedResponse reply_out Finished since) state hears stands keeps cut = absurd hears
    sending_turn out all is due whole sends Dropped state hears stands keeps cut = absurd hears

    waiting_turn : t.phase ≡ AwaitConfirmation → ClientIsDue now.here t AwaitConfirmation
        → (st : State) → e.state ≡ st → HearsRequest now.there st → StandsWaiting st → Keeps x key now.there t p st Outcome → IsCutFor x key st
        → Ready after_tick
    waiting_turn is due (State.SegmentedRequest inc since) state hears stands keeps cut = absurd stands
    waiting_turn is due (Done kept) state hears stands keeps cut = waiting_done is due.0 due.1 some e entry of kept state keeps
    waiting_turn is due (SegmentedResponse reply_out Stopped since) state hears stands keeps cut =
        waiting_stopped is due.0 due.1 some e entry of reply_out since state stands keeps cut
    waiting_turn is due (SegmentedResponse reply_out Running since) state hears stands keeps cut = absurd hears
    waiting_turn is due (SegmentedResponse reply_out Finished since) state hears stands keeps cut = absurd hears
    waiting_turn is due Dropped state hears stands keeps cut = absurd hears

    collecting_turn : (inc : Incoming) → t.phase ≡ SegmentedConf inc → ClientIsDue now.here t (SegmentedConf inc)
        → (st : State) → e.state ≡ st → HearsRequest now.there st → StandsCollecting actual inc st → Keeps x key now.there t p st Outcome → IsCutFor x key st
        → Ready after_tick
    collecting_turn inc is due (State.SegmentedRequest inc' since) state hears stands keeps cut = absurd stands
    collecting_turn inc is due (Done kept) state hears stands keeps cut = absurd stands
    collecting_turn inc is due (SegmentedResponse reply_out Stopped since) state hears stands keeps cut =
        collecting_stopped inc is due.0 due.1 due.2 e entry of reply_out since state stands keeps cut
    collecting_turn inc is due (SegmentedResponse reply_out Running since) state hears stands keeps cut = absurd hears
    collecting_turn inc is due (SegmentedResponse reply_out Finished since) state hears stands keeps cut = absurd hears
    collecting_turn inc is due Dropped state hears stands keeps cut = absurd stands

  pub client_turn : (phase : Phase) → t.phase ≡ phase → ClientIsDue now.here t phase → (o : Option ServerTransaction)
      → live_entry now.there (w.net.entries key) ≡ o → TakesRequest now.there o → AreInStep x key ask phase o → Gives S model x w key t p o → Ready after_tick
  client_turn Idle is due o entry takes step gives = absurd due
  client_turn (SegmentedRequest out all) is due None entry takes step gives =
      let h = step.stand in sending_new out all is due.0 due.1 h.0 h.1 entry h.2 gives
  client_turn (SegmentedRequest out all) is due (Some e) entry takes step gives =
      let h = step.stand in
      sending_turn e entry step.entry step.some out all is due h.0 h.1 e.state refl takes h.2 gives (step.entry).cut
  client_turn AwaitConfirmation is due None entry takes step gives = waiting_new is due.0 due.1 step.some step.stand entry gives
  client_turn AwaitConfirmation is due (Some e) entry takes step gives =
      waiting_turn e entry step.entry step.some is due e.state refl takes step.stand gives (step.entry).cut
  client_turn (SegmentedConf inc) is due None entry takes step gives = absurd step.stand
  client_turn (SegmentedConf inc) is due (Some e) entry takes step gives =
      collecting_turn e entry step.entry step.some inc is due e.state refl takes step.stand gives (step.entry).cut
