-- How many APDUs one event makes an end send: no more than its greatest window and one.
use Rattle.std.proofs.Common.{◌≡◌, ℕ, ◌+◌, ◌-◌, ◌≤◌, ◌⊎◌, length, Bool, true, false, ◌&&◌, ◌||◌, not, List, [], ◌∷◌, ◌++◌, Option, Some, None, min}
use Rattle.std.proofs.Common.{if◌then◌else◌, nat_le, nat_eq, nat_lt, sym, subst, inl, inr, slice_get, arith}
use Rattle.std.specs.Prelude.{is_some}
use Rattle.bac_apdu.specs.Apdu.{Apdu, Limits, Segment}
use Rattle.bac_service.specs.Choices.{has_simple_ack, has_complex_ack}
use Rattle.bac_apdu.specs.Apdu.Apdu.{ConfirmedRequest, SimpleAck, ComplexAck, SegmentAck, Error, Reject, Abort}
use Rattle.bac_segment.specs.Limits.{N_RETRY}
use Rattle.bac_segment.specs.Pieces.{join}
use Rattle.bac_segment.specs.Numbers.{ahead}
use Rattle.bac_segment.specs.Window.{Outgoing, outgoing, in_window, is_finished, acknowledged, again, resume, Incoming, incoming, Taking, takes}
use Rattle.bac_segment.specs.Window.Taking.{Taken, Whole, Nak, TooLong}
use Rattle.bac_protocol.specs.declared.times.TheConstants.{T_SEG, T_WAIT_FOR_SEG}
use Rattle.bac_protocol.specs.Context.{Context}
use Rattle.bac_protocol.specs.Service.{Octets, Readable, OTHER, Reply as reply, Outcome}
use Rattle.bac_protocol.specs.Service.Outcome.{Replies, Rejects}
use Rattle.bac_protocol.specs.Service.Ending.{Answered, Aborted, Expired}
use Rattle.bac_protocol.specs.Wire.{is_from_server, is_from_client, pieces_from}
use Rattle.bac_protocol.specs.Client as client
use Rattle.bac_protocol.specs.Client.{Ask, Phase, ClientTransaction}
use Rattle.bac_protocol.specs.Client.Phase.{AwaitConfirmation, SegmentedConf, Idle}
use Rattle.bac_protocol.specs.Client.Reaction.{Stays, GoesOn, Ends}
use Rattle.bac_protocol.specs.Server as server
use Rattle.bac_protocol.specs.Server.{Transfer, State, ServerTransaction, Service, is_live, is_none_live}
use Rattle.bac_protocol.specs.Sizes.{Way, reply_way_of}
use Rattle.bac_protocol.specs.Server.Transfer.{Running, Stopped, Finished}
use Rattle.bac_protocol.specs.Server.State.{Done, SegmentedResponse, Dropped}
use Rattle.bac_protocol.specs.Sizes.Way.{InOne, InSegments, Refused}
use Rattle.bac_protocol.specs.Transaction.{Key, Rules, server_context}
use Rattle.bac_protocol.specs.Pace.{Pace}
use Rattle.bac_protocol.specs.World.{begun, begun_again, is_active, is_quiet}
use Rattle.bac_protocol.specs.World.{Net, Post, net_start, set_at, is_id_held, is_room, asked_at, is_deliverable, client_now, server_now}
use Rattle.bac_protocol.specs.World.{is_id_held_away, asked_away_at}
use Rattle.bac_protocol.specs.Claims.{IsBounded}
use Rattle.bac_protocol.specs.Moves.{Move, taken_by_client, ticket_ticked}
use Rattle.bac_protocol.specs.Moves.{strayed_to_client, ticket_ticked_away}
use Rattle.bac_protocol.specs.Moves.Move.{Asks, Arrives, TicksTicket, TicksEntry, Passes, Changes, RestartsClient, RestartsServer, Begins, BeginsAgain, Strays, AsksAway, TicksTicketAway, TicksEntryAway}
use Rattle.bac_protocol.proofs.Keys.{set_same, set_other, decide_key}
use Rattle.bac_protocol.proofs.Facts.{pieces_length}
use Rattle.bac_protocol.specs.Reuse.{Reads, ends_entry, has_transfer, idle_on_read, idle_reusing, left_on_apdu, reads_so, server_hears}
use Rattle.bac_reuse.specs.Moves.{IsReachedSoIn, arrived_so, moved_so, strayed_to_server_so, taken_by_server_so}
use Rattle.bac_reuse.specs.Moves.IsReachedSoIn.{Still, Moved, Turned}
use Rattle.bac_reuse.specs.Runs.{Reusing, with_reuses}
use Rattle.bac_world.proofs.Machines.{Sound}
use Rattle.bac_world.proofs.Settings.{Mode, reusing_in}

push_few : (acks : List Apdu) (a : Apdu) (n : ℕ) → length acks ≤ n → length (acks ++ a ∷ []) ≤ n + 1
push_few [] a n h = omega arith
push_few (b ∷ acks) a n h =
    let less : length acks ≤ n - 1 = omega arith in
    let again = push_few acks a (n - 1) less in
    omega arith

window_few : (W : ℕ) (piece : ℕ → Apdu) (out : Outgoing) → out.window ≤ W → length (pieces_from piece out.first (in_window out)) ≤ W + 1
window_few W piece out h =
    let is : length (pieces_from piece out.first (in_window out)) ≡ in_window out = pieces_length piece out.first (in_window out) in
    let few : in_window out ≤ out.window = omega arith in
    omega arith

-- the window that a SegmentACK leaves
abbrev OutFew : ℕ → Option Outgoing → Type 0
OutFew W None = Unit {0}
OutFew W (Some out) = out.window ≤ W

acknowledged_few : (W own : ℕ) → own ≤ W → (out : Outgoing) (number window : ℕ) → OutFew W (acknowledged own out number window)
acknowledged_few W own le out number window = go (nat_lt (ahead number out.first) (in_window out))
  where
    go : (b : Bool) → OutFew W (if b
        then Some (record out { first = out.first + ahead number out.first + 1; window = min window own; retries = N_RETRY })
        else None)
    go true = omega arith
    go false = tt

again_few : (W : ℕ) (out : Outgoing) → out.window ≤ W → OutFew W (again out)
again_few W out h = go (nat_eq out.retries 0)
  where
    go : (b : Bool) → OutFew W (if b then None else Some (record out { retries = out.retries - 1 }))
    go true = tt
    go false = h

-- The client, on what it hears.

module _ (c : Context) (readable : Readable) (W : ℕ) (some : 1 ≤ W) (own : c.settings.window ≤ W) where
  abbrev Few : client.Reaction → Type 0
  Few r = length (client.sends_of r) ≤ W + 1

  answered_few : (choice : ℕ) (acks : List Apdu) (octets : Octets) → length acks ≤ 1 → Few (client.answered_with c readable choice acks octets)
  answered_few choice acks octets h = go (readable choice octets)
    where
      go : (b : Bool) → Few (if b then Ends acks (Answered (reply.Complex octets)) else Ends (acks ++ Abort false c.invoke_id OTHER ∷ []) (Aborted OTHER))
      go true = omega arith
      go false = let few = push_few acks (Abort false c.invoke_id OTHER) 1 h in omega arith

  conf_segment_few : (choice number window : ℕ) (y : Taking) → Few (client.conf_segment_taken c readable choice number window y)
  conf_segment_few choice number window (Taken true inc) = omega arith
  conf_segment_few choice number window (Taken false inc) = omega arith
  conf_segment_few choice number window (Whole parts) = answered_few choice (client.client_ack c false number window ∷ []) (join parts) (omega arith)
  conf_segment_few choice number window (Nak inc) = omega arith
  conf_segment_few choice number window TooLong = omega arith

  if_few : (b : Bool) (r : client.Reaction) → Few r → Few (if b then r else Stays)
  if_few true r h = h
  if_few false r h = omega arith

  refusal_few : (a : Apdu) → Few (client.on_refusal a)
  refusal_few (Reject i r) = omega arith
  refusal_few (Abort true i r) = omega arith
  refusal_few _ = omega arith

  await_confirmation_few : (ask : Ask) (a : Apdu) → Few (client.await_confirmation_on_apdu c readable ask a)
  await_confirmation_few ask (SimpleAck i choice) =
      if_few (nat_eq choice ask.choice && has_simple_ack ask.choice) (Ends [] (Answered reply.Simple)) (omega arith)
  await_confirmation_few ask (ComplexAck i None choice o) = if_few (nat_eq choice ask.choice && has_complex_ack ask.choice)
      (client.answered_with c readable ask.choice [] o) (answered_few ask.choice [] o (omega arith))
  await_confirmation_few ask (ComplexAck i (Some g) choice o) =
      let inc = incoming c.settings.window g.window in
      if_few (nat_eq choice ask.choice && (has_complex_ack ask.choice && (c.settings.limits.takes_segments && nat_eq g.number 0)))
      (client.conf_segment_taken c readable ask.choice g.number inc.window (takes inc g.number g.more o))
      (conf_segment_few ask.choice g.number inc.window (takes inc g.number g.more o))
  await_confirmation_few ask (Error i choice class code) = if_few (nat_eq choice ask.choice) (Ends [] (Answered (reply.Error class code))) (omega arith)
  await_confirmation_few ask (Reject i r) = omega arith
  await_confirmation_few ask (Abort true i r) = omega arith
  await_confirmation_few ask _ = omega arith

  moves_request_window_few : (choice : ℕ) (all_sent : Bool) (o : Option Outgoing) → OutFew W o → Few (client.moves_request_window c choice all_sent o)
  moves_request_window_few choice all_sent None h = omega arith
  moves_request_window_few choice all_sent (Some out) h = go (is_finished out)
    where
      go : (b : Bool) → Few (if b then GoesOn AwaitConfirmation [] else client.sends_request_window c choice out all_sent)
      go true = omega arith
      go false = window_few W (client.request_piece c choice out.pieces) out h

  segmented_request_few : (ask : Ask) (out : Outgoing) (all_sent : Bool) (a : Apdu) → Few (client.segmented_request_on_apdu c readable ask out all_sent a)
  segmented_request_few ask out all_sent (SegmentAck true i ack) = moves_request_window_few ask.choice all_sent
      (acknowledged c.settings.window out ack.number ack.window) (acknowledged_few W c.settings.window own out ack.number ack.window)
  segmented_request_few ask out true a = await_confirmation_few ask a
  segmented_request_few ask out false a = refusal_few a

  segmented_conf_few : (ask : Ask) (inc : Incoming) (a : Apdu) → Few (client.segmented_conf_on_apdu c readable ask inc a)
  segmented_conf_few ask inc (ComplexAck i (Some g) choice o) = if_few (nat_eq choice ask.choice)
      (client.conf_segment_taken c readable ask.choice g.number inc.window (takes inc g.number g.more o))
      (conf_segment_few ask.choice g.number inc.window (takes inc g.number g.more o))
  segmented_conf_few ask inc a = refusal_few a

  open_few : (ask : Ask) (phase : Phase) (a : Apdu) → Few (client.open_on_apdu c readable ask phase a)
  open_few ask (Phase.SegmentedRequest out all_sent) a = segmented_request_few ask out all_sent a
  open_few ask AwaitConfirmation a = await_confirmation_few ask a
  open_few ask (SegmentedConf inc) a = segmented_conf_few ask inc a
  open_few ask Idle a = omega arith

  pub client_gets_few : (t : ClientTransaction) (a : Apdu) → length (client.sends_of (client.client_on_apdu c readable t a)) ≤ W + 1
  client_gets_few t a = go (client.is_idle t.phase || not (is_from_server a)) (client.is_expired c.now t.ask)
    where
      go : (b d : Bool) → Few (if b then Stays else if d then Ends [] Expired else client.open_on_apdu c readable t.ask t.phase a)
      go true d = omega arith
      go false true = omega arith
      go false false = open_few t.ask t.phase a

-- an ask
pub asks_few : (c : Context) (W : ℕ) → 1 ≤ W → (ask : Ask) → length (client.sends_of (client.asks c ask)) ≤ W + 1
asks_few c W some ask = go ask.whole
  where
    go : (b : Bool) → length (client.sends_of (if b then GoesOn AwaitConfirmation (client.request_apdu c ask ∷ [])
        else client.sends_request_window c ask.choice (outgoing ask.pieces) false)) ≤ W + 1
    go true = omega arith
    go false = window_few W (client.request_piece c ask.choice ask.pieces) (outgoing ask.pieces) some

-- The server: what it sends, and the window that its entry keeps.

abbrev pub StateFew : ℕ → State → Type 0
StateFew W (SegmentedResponse out transfer since) = out.window ≤ W
StateFew W (State.SegmentedRequest inc since) = Unit {0}
StateFew W (Done kept) = Unit {0}
StateFew W Dropped = Unit {0}

abbrev pub EntryFew : ℕ → Option ServerTransaction → Type 0
EntryFew W None = Unit {0}
EntryFew W (Some e) = StateFew W e.state

pub record IsFew (W : ℕ) (v : server.Reaction) : Type 0 where
  pub sends : length v.sends ≤ W + 1
  pub entry : EntryFew W v.entry

module _ (c : Context) (service : Service) (W : ℕ) (some : 1 ≤ W) (own : c.settings.window ≤ W) where
  sends_reply_few : (e : ServerTransaction) (acks : List Apdu) (octets : Octets) (p : reply) (way : Way ℕ) → length acks ≤ 1
      → IsFew W (server.sends_reply c e acks octets p way)
  sends_reply_few e acks octets p InOne h =
      record { sends = (let few = push_few acks (server.reply_apdu c e.choice p) 1 h in omega arith); entry = tt }
  sends_reply_few e acks octets p (InSegments ps) h =
      record { sends = (let few = push_few acks (server.reply_piece c e.choice ps 0) 1 h in omega arith); entry = some }
  sends_reply_few e acks octets p (Refused reason) h =
      record { sends = (let few = push_few acks (Abort true c.invoke_id reason) 1 h in omega arith); entry = tt }

  so_few : (e : ServerTransaction) (acks : List Apdu) (octets : Octets) (o : Outcome) → length acks ≤ 1 → IsFew W (server.performs_so c e acks octets o)
  so_few e acks octets (Replies p) h = sends_reply_few e acks octets p (reply_way_of c.settings e.limits p) h
  so_few e acks octets (Rejects reason) h =
      record { sends = (let few = push_few acks (Reject c.invoke_id reason) 1 h in omega arith); entry = tt }

  request_segment_few : (e : ServerTransaction) (number window : ℕ) (y : Taking) → IsFew W (server.request_segment_taken c service e number window y)
  request_segment_few e number window (Taken true inc) = record { sends = omega arith; entry = tt }
  request_segment_few e number window (Taken false inc) = record { sends = omega arith; entry = tt }
  request_segment_few e number window (Whole parts) = so_few (server.keeps_first parts e) (server.server_ack c false number window ∷ []) (join parts)
      (service e.choice (join parts)) (omega arith)
  request_segment_few e number window (Nak inc) = record { sends = omega arith; entry = tt }
  request_segment_few e number window TooLong = record { sends = omega arith; entry = tt }

  rests_few : (o : Option ServerTransaction) → EntryFew W o → IsFew W (server.rests o [])
  rests_few o h = record { sends = omega arith; entry = h }

  one_few : (o : Option ServerTransaction) (a : Apdu) → EntryFew W o → IsFew W (server.rests o (a ∷ []))
  one_few o a h = record { sends = omega arith; entry = h }

  request_few : (o : Option ServerTransaction) → EntryFew W o → (free : Bool) (choice : ℕ) (limits : Limits) (octets : Octets)
      → IsFew W (server.idle_on_request c service o free choice limits octets)
  request_few o h true choice limits octets = so_few (server.begins c choice limits (Some octets)) [] octets (service choice octets) (omega arith)
  request_few o h false choice limits octets = one_few o (server.server_abort c OTHER) h

  segment_few : (o : Option ServerTransaction) → EntryFew W o → (free : Bool) (choice : ℕ) (limits : Limits) (g : Segment) (octets : Octets)
      → IsFew W (server.idle_on_segment c service o free choice limits g octets)
  segment_few o h free choice limits g octets = go (nat_eq g.number 0) free
    where
      go : (b d : Bool) → IsFew W (if not b then server.rests o [] else if d then server.request_segment_taken c service
          (server.begins c choice limits None) g.number (incoming c.settings.window g.window).window
          (takes (incoming c.settings.window g.window) g.number g.more octets) else server.rests o (server.server_abort c OTHER ∷ []))
      go true true = request_segment_few (server.begins c choice limits None) g.number (incoming c.settings.window g.window).window
          (takes (incoming c.settings.window g.window) g.number g.more octets)
      go true false = one_few o (server.server_abort c OTHER) h
      go false d = rests_few o h

  idle_few : (o : Option ServerTransaction) → EntryFew W o → (free : Bool) (a : Apdu) → IsFew W (server.idle_on_apdu c service o free a)
  idle_few o h free (ConfirmedRequest limits i None choice octets) = request_few o h free choice limits octets
  idle_few o h free (ConfirmedRequest limits i (Some g) choice octets) = segment_few o h free choice limits g octets
  idle_few o h free _ = rests_few o h

  request_in_segments_few : (e : ServerTransaction) → EntryFew W (Some e) → (inc : Incoming) (since : ℕ) (a : Apdu)
      → IsFew W (server.segmented_request_on_apdu c service e inc since a)
  request_in_segments_few e h inc since (ConfirmedRequest limits i (Some g) choice octets) = go (nat_le T_WAIT_FOR_SEG (c.now - since))
    where
      go : (b : Bool) → IsFew W (if b then server.becomes e Dropped (server.server_abort c OTHER ∷ []) else server.request_segment_taken c service e
          g.number inc.window (takes inc g.number g.more octets))
      go true = record { sends = omega arith; entry = tt }
      go false = request_segment_few e g.number inc.window (takes inc g.number g.more octets)
  request_in_segments_few e h inc since (Abort false i reason) = record { sends = omega arith; entry = tt }
  request_in_segments_few e h inc since _ = rests_few (Some e) h

  done_few : (e : ServerTransaction) → EntryFew W (Some e) → (kept : Apdu) (a : Apdu) → IsFew W (server.done_on_apdu c e kept a)
  done_few e h kept (ConfirmedRequest limits i None choice octets) =
      one_few (Some e) (if server.is_kept e e.request choice octets then kept else server.server_abort c OTHER) h
  done_few e h kept (ConfirmedRequest limits i (Some g) choice octets) = one_few (Some e) (if is_some e.request then server.server_abort c OTHER else kept) h
  done_few e h kept _ = rests_few (Some e) h

  sends_reply_window_few : (e : ServerTransaction) (out : Outgoing) → out.window ≤ W → IsFew W (server.sends_reply_window c e out)
  sends_reply_window_few e out h = record { sends = window_few W (server.reply_piece c e.choice out.pieces) out h; entry = h }

  resumes_few : (e : ServerTransaction) → EntryFew W (Some e) → (out : Outgoing) → out.window ≤ W → (transfer : Transfer) → IsFew W (server.resumes c e out transfer)
  resumes_few e h out k Stopped = sends_reply_window_few e (resume out) k
  resumes_few e h out k Running = rests_few (Some e) h
  resumes_few e h out k Finished = rests_few (Some e) h

  moves_reply_window_few : (e : ServerTransaction) → EntryFew W (Some e) → (o : Option Outgoing) → OutFew W o → IsFew W (server.moves_reply_window c e o)
  moves_reply_window_few e h None k = rests_few (Some e) h
  moves_reply_window_few e h (Some out) k = go (is_finished out)
    where
      go : (b : Bool) → IsFew W (if b then server.becomes e (SegmentedResponse out Finished c.now) [] else server.sends_reply_window c e out)
      go true = record { sends = omega arith; entry = k }
      go false = sends_reply_window_few e out k

  response_ack_few : (e : ServerTransaction) → EntryFew W (Some e) → (out : Outgoing) → out.window ≤ W → (transfer : Transfer) (number window : ℕ)
      → IsFew W (server.segmented_response_on_ack c e out transfer number window)
  response_ack_few e h out k Running number window = moves_reply_window_few e h (acknowledged c.settings.window out number window)
      (acknowledged_few W c.settings.window own out number window)
  response_ack_few e h out k Stopped number window = rests_few (Some e) h
  response_ack_few e h out k Finished number window = rests_few (Some e) h

  response_few : (e : ServerTransaction) → EntryFew W (Some e) → (out : Outgoing) → out.window ≤ W → (transfer : Transfer) (since : ℕ) (a : Apdu)
      → IsFew W (server.segmented_response_on_apdu c e out transfer since a)
  response_few e h out k transfer since (ConfirmedRequest limits i None choice octets) = go (server.is_kept e e.request choice octets)
    where
      go : (b : Bool) → IsFew W (if b then server.resumes c e out transfer else server.rests (Some e) (server.server_abort c OTHER ∷ []))
      go true = resumes_few e h out k transfer
      go false = one_few (Some e) (server.server_abort c OTHER) h
  response_few e h out k transfer since (ConfirmedRequest limits i (Some g) choice octets) = go (is_some e.request)
    where
      go : (b : Bool) → IsFew W (if b then server.rests (Some e) (server.server_abort c OTHER ∷ []) else server.resumes c e out transfer)
      go true = one_few (Some e) (server.server_abort c OTHER) h
      go false = resumes_few e h out k transfer
  response_few e h out k transfer since (SegmentAck false i ack) = response_ack_few e h out k transfer ack.number ack.window
  response_few e h out k transfer since (Abort false i reason) = record { sends = omega arith; entry = k }
  response_few e h out k transfer since _ = rests_few (Some e) h

  dropped_few : (e : ServerTransaction) → EntryFew W (Some e) → (a : Apdu) → IsFew W (server.dropped_on_apdu c e a)
  dropped_few e h (ConfirmedRequest limits i g choice octets) = one_few (Some e) (server.server_abort c OTHER) h
  dropped_few e h _ = rests_few (Some e) h

  live_few : (e : ServerTransaction) → EntryFew W (Some e) → (st : State) → StateFew W st → (a : Apdu) → IsFew W (server.live_on_apdu c service e st a)
  live_few e h (State.SegmentedRequest inc since) k a = request_in_segments_few e h inc since a
  live_few e h (Done kept) k a = done_few e h kept a
  live_few e h (SegmentedResponse out transfer since) k a = response_few e h out k transfer since a
  live_few e h Dropped k a = dropped_few e h a

  pub server_gets_few : (o : Option ServerTransaction) (free : Bool) (a : Apdu) → EntryFew W o → IsFew W (server.server_on_apdu c service o free a)
  server_gets_few None free a h = idle_few None h free a
  server_gets_few (Some e) free a h = go (is_live c.now e)
    where
      go : (b : Bool) → IsFew W (if b then server.live_on_apdu c service e e.state a else server.idle_on_apdu c service (Some e) free a)
      go true = live_few e h e.state h a
      go false = idle_few (Some e) h free a

  -- the machine of either setting
  module _ (reads : Reads) where
    read_few : (dead : Option ServerTransaction) → EntryFew W dead → (free : Bool) (r : server.Reaction) → IsFew W r → IsFew W (reads_so c dead free r)
    read_few dead h free r k = go (has_transfer r.entry) free
      where
        go : (b d : Bool) → IsFew W (if b then (if d then r else server.rests dead (server.server_abort c OTHER ∷ []))
            else record { entry = dead; sends = r.sends; effect = r.effect })
        go true true = k
        go true false = one_few dead (server.server_abort c OTHER) h
        go false d = record { sends = k.sends; entry = h }

    idle_reusing_few : (o : Option ServerTransaction) → EntryFew W o → (free : Bool) (a : Apdu) → IsFew W (idle_reusing c service reads o free a)
    idle_reusing_few o h free (ConfirmedRequest limits i None choice octets) = go (reads choice)
      where
        go : (b : Bool) → IsFew W
            (if b then idle_on_read c service o free choice limits octets else server.idle_on_request c service o free choice limits octets)
        go true = read_few o h free (server.performs c service (server.begins c choice limits (Some octets)) [] octets)
            (so_few (server.begins c choice limits (Some octets)) [] octets (service choice octets) (omega arith))
        go false = request_few o h free choice limits octets
    idle_reusing_few o h free (ConfirmedRequest limits i (Some g) choice octets) = segment_few o h free choice limits g octets
    idle_reusing_few o h free _ = rests_few o h

    left_few : (o : Option ServerTransaction) → EntryFew W o → (free : Bool) (a : Apdu) → IsFew W (left_on_apdu c service reads o free a)
    left_few o h free a = go (is_none_live c.now o)
      where
        go : (b : Bool) → IsFew W (if b then idle_reusing c service reads o free a else server.server_on_apdu c service o free a)
        go true = idle_reusing_few o h free a
        go false = server_gets_few o free a h

    pub hears_few : (reuse : Bool) (o : Option ServerTransaction) (free : Bool) (a : Apdu) → EntryFew W o → IsFew W (server_hears reuse c service reads o free a)
    hears_few false o free a h = server_gets_few o free a h
    hears_few true o free a h = go (ends_entry reads c.now o a)
      where
        go : (b : Bool) → IsFew W (left_on_apdu c service reads (if b then None else o) free a)
        go true = left_few None tt free a
        go false = left_few o h free a

nothing : Service
nothing choice octets = Rejects 0

module _ (c : Context) (W : ℕ) (some : 1 ≤ W) (own : c.settings.window ≤ W) where
  sends_again_few : (e : ServerTransaction) (out : Outgoing) → out.window ≤ W → (since : ℕ) (o : Option Outgoing) → OutFew W o
      → IsFew W (server.sends_reply_again c e out since o)
  sends_again_few e out k since None h = record { sends = omega arith; entry = k }
  sends_again_few e out k since (Some next) h = sends_reply_window_few c nothing W some own e next h

  live_ticks_few : (e : ServerTransaction) → EntryFew W (Some e) → (st : State) → StateFew W st → IsFew W (server.live_ticks c e st)
  live_ticks_few e h (State.SegmentedRequest inc since) k = go (nat_le T_WAIT_FOR_SEG (c.now - since))
    where
      go : (b : Bool) → IsFew W (if b then server.becomes e Dropped [] else server.rests (Some e) [])
      go true = record { sends = omega arith; entry = tt }
      go false = record { sends = omega arith; entry = h }
  live_ticks_few e h (SegmentedResponse out Running since) k = go (nat_le T_SEG (c.now - since))
    where
      go : (b : Bool) → IsFew W (if b then server.sends_reply_again c e out since (again out) else server.rests (Some e) [])
      go true = sends_again_few e out k since (again out) (again_few W out k)
      go false = record { sends = omega arith; entry = h }
  live_ticks_few e h (SegmentedResponse out Stopped since) k = record { sends = omega arith; entry = h }
  live_ticks_few e h (SegmentedResponse out Finished since) k = record { sends = omega arith; entry = h }
  live_ticks_few e h (Done kept) k = record { sends = omega arith; entry = h }
  live_ticks_few e h Dropped k = record { sends = omega arith; entry = h }

  server_ticks_few : (o : Option ServerTransaction) → EntryFew W o → IsFew W (server.server_ticks c o)
  server_ticks_few None h = record { sends = omega arith; entry = tt }
  server_ticks_few (Some e) h = go (is_live c.now e)
    where
      go : (b : Bool) → IsFew W (if b then server.live_ticks c e e.state else server.rests (Some e) [])
      go true = live_ticks_few e h e.state h
      go false = record { sends = omega arith; entry = h }

-- All entries of a net that moves lead to.

module _ (W : ℕ) (x : Rules) (bound : IsBounded W x) (u : Reusing) where
  abbrev AllFew : (Key → Option ServerTransaction) → Type 0
  AllFew entries = (key : Key) → EntryFew W (entries key)

  abbrev Small : Net → Type 0
  Small n = AllFew n.entries × AllFew n.far.entries

  few_set : (entries : Key → Option ServerTransaction) → AllFew entries → (key : Key) (o : Option ServerTransaction) → EntryFew W o
      → AllFew (set_at entries key o)
  few_set entries s key o few k = go (decide_key key k)
    where
      go : ((key ≡ k) ⊎ (key ≡ k → ⊥)) → EntryFew W (set_at entries key o k)
      go (inl is) = subst (λ (j : Key). EntryFew W (set_at entries key o j)) is (subst (EntryFew W) (sym (set_same entries key o)) few)
      go (inr ne) = subst (EntryFew W) (sym (set_other entries key o k ne)) (s k)

  -- what an APDU or a tick makes of an entry
  gets_small : (now : Net → Key → ℕ) (n : Net) (entries : Key → Option ServerTransaction) → AllFew entries → (key : Key) (free : Bool) (service : Service)
      → (a : Apdu)
      → AllFew (set_at entries key (server_hears (u.reuses key.server) (server_context x key (now n key)) service u.reads (entries key) free a).entry)
  gets_small now n entries s key free service a =
      let c = server_context x key (now n key) in
      few_set entries s key (server_hears (u.reuses key.server) c service u.reads (entries key) free a).entry
      (hears_few c service W bound.some (bound.windows key.server) u.reads (u.reuses key.server) (entries key) free a (s key)).entry

  ticks_small : (now : Net → Key → ℕ) (n : Net) (entries : Key → Option ServerTransaction) → AllFew entries → (key : Key)
      → AllFew (set_at entries key (server.server_ticks (server_context x key (now n key)) (entries key)).entry)
  ticks_small now n entries s key =
      let c = server_context x key (now n key) in
      few_set entries s key (server.server_ticks c (entries key)).entry
      (server_ticks_few c W bound.some (bound.windows key.server) (entries key) (s key)).entry

  heard_small : (n : Net) → Small n → (p : Post) (o : Option ClientTransaction) → Small (taken_by_client x n p o)
  heard_small n s p None = s
  heard_small n s p (Some t) = s

  arrived_small : (n : Net) → Small n → (number : ℕ) (free : Bool) (service : Service) (o : Option Post) → Small (arrived_so x u n number free service o)
  arrived_small n s number free service None = s
  arrived_small n s number free service (Some p) = go (is_deliverable x n number p) (is_from_client p.copy.apdu)
    where
      go : (a b : Bool) → Small (if a then (if b then taken_by_server_so x u n p free service else taken_by_client x n p (n.tickets p.key)) else n)
      go true true = (gets_small server_now n n.entries s.0 p.key (is_room n p.key free) service p.copy.apdu, s.1)
      go true false = heard_small n s p (n.tickets p.key)
      go false b = s

  ticked_small : (n : Net) → Small n → (key : Key) (o : Option ClientTransaction) → Small (ticket_ticked x n key o)
  ticked_small n s key None = s
  ticked_small n s key (Some t) = s

  strayed_small : (n : Net) → Small n → (key : Key) (a : Apdu) (o : Option ClientTransaction) → Small (strayed_to_client x n key a o)
  strayed_small n s key a None = s
  strayed_small n s key a (Some t) = s

  ticked_away_small : (n : Net) → Small n → (key : Key) (o : Option ClientTransaction) → Small (ticket_ticked_away x n key o)
  ticked_away_small n s key None = s
  ticked_away_small n s key (Some t) = s

  moved_small : (n : Net) → Small n → (m : Move) → Small (moved_so x u n m)
  moved_small n s (Asks key choice whole front rest) = go (is_id_held n key)
    where
      go : (b : Bool) → Small (if b then n else asked_at x n key (record { first = client_now n key; choice = choice; whole = whole; pieces = front ∷ rest }))
      go true = s
      go false = s
  moved_small n s (Arrives number free service) = arrived_small n s number free service (slice_get n.posts number)
  moved_small n s (TicksTicket key) = ticked_small n s key (n.tickets key)
  moved_small n s (TicksEntry key) = (ticks_small server_now n n.entries s.0 key, s.1)
  moved_small n s (Passes by clients servers) = s
  moved_small n s (Changes node change) = s
  moved_small n s (RestartsClient node exact) = s
  moved_small n s (RestartsServer node exact store) = (λ key. go (n.entries key) (s.0 key) (nat_eq key.server node), λ key. go (n.far.entries key) (s.1 key) (nat_eq key.server node))
    where
      go : (o : Option ServerTransaction) → EntryFew W o → (b : Bool) → EntryFew W (if b then None else o)
      go o few true = tt
      go o few false = few
  moved_small n s (Begins node exact) = go (is_active n node)
    where
      go : (b : Bool) → Small (if b then n else begun n node exact)
      go true = s
      go false = s
  moved_small n s (BeginsAgain node exact) = go (is_quiet n node)
    where
      go : (b : Bool) → Small (if b then begun_again n node exact else n)
      go true = s
      go false = s
  moved_small n s (Strays key free service a) = go (is_from_client a)
    where
      go : (up : Bool) → Small (if up then strayed_to_server_so x u n key free service a else strayed_to_client x n key a (n.far.tickets key))
      go true = (s.0, gets_small server_now n n.far.entries s.1 key (is_room n key free) service a)
      go false = strayed_small n s key a (n.far.tickets key)
  moved_small n s (AsksAway key choice whole front rest) = go (is_id_held_away n key)
    where
      go : (b : Bool)
          → Small (if b then n else asked_away_at x n key (record { first = client_now n key; choice = choice; whole = whole; pieces = front ∷ rest }))
      go true = s
      go false = s
  moved_small n s (TicksTicketAway key) = ticked_away_small n s key (n.far.tickets key)
  moved_small n s (TicksEntryAway key) = (s.0, ticks_small server_now n n.far.entries s.1 key)

-- in whichever rules and setting each move is made
pub reached_small : (W : ℕ) (ever : Reusing) (pace : Pace) (clocks : ℕ → ℕ) (reuses : ℕ → Bool) (n : Net)
    → IsReachedSoIn (IsBounded W) ever (net_start pace clocks) reuses n → ((key : Key) → EntryFew W (n.entries key)) × ((key : Key) → EntryFew W (n.far.entries key))
reached_small W ever pace clocks _ _ (Still reuses among) = (λ key. tt, λ key. tt)
reached_small W ever pace clocks _ _ (Moved x bound reuses n m h) =
    moved_small W x bound (with_reuses ever reuses) n (reached_small W ever pace clocks reuses n h) m
reached_small W ever pace clocks _ _ (Turned x bound reuses next among n node exact store others h) =
    moved_small W x bound (with_reuses ever reuses) n (reached_small W ever pace clocks reuses n h) (RestartsServer node exact store)

module _ (W : ℕ) (x : Rules) (bound : IsBounded W x) (mode : Mode) (n : Net) (s : Sound W x (Some mode) n) where
  pub entries_few : (key : Key) → EntryFew W (n.entries key)
  entries_few = (reached_small W (reusing_in (Some mode)) s.0 s.1 mode.now n s.3).0

  -- those of strangers too
  pub far_entries_few : (key : Key) → EntryFew W (n.far.entries key)
  far_entries_few = (reached_small W (reusing_in (Some mode)) s.0 s.1 mode.now n s.3).1
