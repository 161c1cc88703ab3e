-- A client gives up only as its ticket ends, and ends it with an answer that comes in one APDU.
use Rattle.std.proofs.Common.{◌≡◌, ℕ, ◌-◌, ◌⊎◌, Bool, true, false, ◌&&◌, ◌||◌, not, List, [], ◌∷◌, ◌++◌, Option, Some, None, if◌then◌else◌}
use Rattle.std.proofs.Common.{nat_eq, nat_le, refl, inl, inr}
use Rattle.bac_apdu.specs.Apdu.{Apdu, Segment}
use Rattle.bac_apdu.specs.Apdu.Apdu.{ConfirmedRequest, UnconfirmedRequest, SimpleAck, ComplexAck, SegmentAck, Error, Reject, Abort}
use Rattle.bac_segment.specs.Pieces.{join}
use Rattle.bac_segment.specs.Window.{Incoming, Outgoing, Taking, acknowledged, again, in_window, incoming, is_finished, outgoing, takes}
use Rattle.bac_service.specs.Choices.{has_simple_ack, has_complex_ack}
use Rattle.bac_protocol.specs.declared.times.TheConstants.{T_OUT, T_SEG, T_WAIT_FOR_SEG}
use Rattle.bac_protocol.specs.Context.{Context}
use Rattle.bac_protocol.specs.Service.{Ending, OTHER, Octets, Readable, Reply as reply}
use Rattle.bac_protocol.specs.Service.Ending.{Aborted, Answered, Expired, Rejected, TimedOut}
use Rattle.bac_protocol.specs.Wire.{Each, is_from_server}
use Rattle.bac_protocol.specs.Client as client
use Rattle.bac_protocol.specs.Client.{Ask, ClientTransaction, Phase, Reaction, after, is_idle, request_of, sends_of}
use Rattle.bac_protocol.specs.Client.Phase.{AwaitConfirmation, Idle, SegmentedConf}
use Rattle.bac_protocol.specs.Client.Reaction.{Ends, GoesOn, Repeats, Stays}
use Rattle.bac_protocol.specs.Log.{Fact, Has, MayEnd, WasAsked}
use Rattle.bac_protocol.specs.Log.Fact.{Performed}
use Rattle.bac_protocol.proofs.Facts.{pieces_all}
use Rattle.bac_reuse.proofs.Machine.{IsClientAbort}

abbrev pub IsNoAbort : Apdu → Type 0
IsNoAbort a = IsClientAbort a → ⊥

-- where the ticket goes on, its client does not give up
abbrev pub IsSteady : Reaction → Type 0
IsSteady Stays = Unit {0}
IsSteady (GoesOn phase sends) = Each IsNoAbort sends
IsSteady (Repeats phase sends) = Each IsNoAbort sends
IsSteady (Ends sends how) = Unit {0}

-- where it gives up, its ticket has ended
abbrev pub AbortsIf : Bool → Apdu → Type 0
AbortsIf idle a = IsClientAbort a → idle ≡ true

each_if : (sends : List Apdu) → Each (AbortsIf true) sends
each_if [] = tt
each_if (a ∷ more) = (λ is. refl, each_if more)

each_none : (idle : Bool) (sends : List Apdu) → Each IsNoAbort sends → Each (AbortsIf idle) sends
each_none idle [] h = tt
each_none idle (a ∷ more) h = (λ is. absurd (h.0 is), each_none idle more h.1)

pub steady_ends : (now : ℕ) (t : ClientTransaction) (r : Reaction) → IsSteady r → Each (AbortsIf (is_idle (after now t r).phase)) (sends_of r)
steady_ends now t Stays h = tt
steady_ends now t (GoesOn phase sends) h = each_none (is_idle phase) sends h
steady_ends now t (Repeats phase sends) h = each_none (is_idle phase) sends h
steady_ends now t (Ends sends how) h = each_if sends

module _ (c : Context) where
  window_steady : (choice : ℕ) (out : Outgoing) → Each IsNoAbort (client.request_window c choice out)
  window_steady choice out = pieces_all IsNoAbort (client.request_piece c choice out.pieces) out.first (in_window out) (λ p lo hi is. is)

  pub asks_steady : (ask : Ask) → IsSteady (client.asks c ask)
  asks_steady ask = go ask.whole
    where
      go : (b : Bool) → IsSteady (if b then GoesOn AwaitConfirmation (client.request_apdu c ask ∷ []) else client.sends_request_window c ask.choice (outgoing ask.pieces) false)
      go true = (λ is. is, tt)
      go false = window_steady ask.choice (outgoing ask.pieces)

  -- What comes.
  module _ (readable : Readable) where
    answered_steady : (choice : ℕ) (acks : List Apdu) (octets : Octets) → IsSteady (client.answered_with c readable choice acks octets)
    answered_steady choice acks octets = go (readable choice octets)
      where
        go : (b : Bool) → IsSteady (if b then Ends acks (Answered (reply.Complex octets)) else Ends (acks ++ client.client_abort c OTHER ∷ []) (Aborted OTHER))
        go true = tt
        go false = tt

    taken_steady : (choice number window : ℕ) (t : Taking) → IsSteady (client.conf_segment_taken c readable choice number window t)
    taken_steady choice number window (Taking.Taken true inc) = (λ is. is, tt)
    taken_steady choice number window (Taking.Taken false inc) = tt
    taken_steady choice number window (Taking.Whole parts) = answered_steady choice (client.client_ack c false number window ∷ []) (join parts)
    taken_steady choice number window (Taking.Nak inc) = (λ is. is, tt)
    taken_steady choice number window Taking.TooLong = tt

    refusal_steady : (a : Apdu) → IsSteady (client.on_refusal a)
    refusal_steady (Reject id reason) = tt
    refusal_steady (Abort true id reason) = tt
    refusal_steady _ = tt

    first_steady : (ask : Ask) (g : Segment) (choice : ℕ) (octets : Octets) → IsSteady (client.on_first_segment c readable ask g choice octets)
    first_steady ask g choice octets = go (nat_eq choice ask.choice && (has_complex_ack ask.choice && (c.settings.limits.takes_segments && nat_eq g.number 0)))
      where
        go : (b : Bool) → IsSteady (if b then client.conf_segment_taken c readable ask.choice g.number (incoming c.settings.window g.window).window
            (takes (incoming c.settings.window g.window) g.number g.more octets) else Stays)
        go true = taken_steady ask.choice g.number (incoming c.settings.window g.window).window (takes (incoming c.settings.window g.window) g.number g.more octets)
        go false = tt

    simple_steady : (ask : Ask) (choice : ℕ) → IsSteady (client.on_simple_ack ask choice)
    simple_steady ask choice = go (nat_eq choice ask.choice && has_simple_ack ask.choice)
      where
        go : (b : Bool) → IsSteady (if b then Ends [] (Answered reply.Simple) else Stays)
        go true = tt
        go false = tt

    complex_steady : (ask : Ask) (choice : ℕ) (octets : Octets) → IsSteady (client.on_complex_ack c readable ask choice octets)
    complex_steady ask choice octets = go (nat_eq choice ask.choice && has_complex_ack ask.choice)
      where
        go : (b : Bool) → IsSteady (if b then client.answered_with c readable ask.choice [] octets else Stays)
        go true = answered_steady ask.choice [] octets
        go false = tt

    error_steady : (ask : Ask) (choice class code : ℕ) → IsSteady (client.on_error ask choice class code)
    error_steady ask choice class code = go (nat_eq choice ask.choice)
      where
        go : (b : Bool) → IsSteady (if b then Ends [] (Answered (reply.Error class code)) else Stays)
        go true = tt
        go false = tt

    await_steady : (ask : Ask) (a : Apdu) → IsSteady (client.await_confirmation_on_apdu c readable ask a)
    await_steady ask (SimpleAck id choice) = simple_steady ask choice
    await_steady ask (ComplexAck id None choice octets) = complex_steady ask choice octets
    await_steady ask (ComplexAck id (Some g) choice octets) = first_steady ask g choice octets
    await_steady ask (Error id choice class code) = error_steady ask choice class code
    await_steady ask (ConfirmedRequest limits id g choice octets) = tt
    await_steady ask (UnconfirmedRequest choice octets) = tt
    await_steady ask (SegmentAck up id ack) = tt
    await_steady ask (Reject id reason) = tt
    await_steady ask (Abort up id reason) = refusal_steady (Abort up id reason)

    moves_steady : (choice : ℕ) (all_sent : Bool) (o : Option Outgoing) → IsSteady (client.moves_request_window c choice all_sent o)
    moves_steady choice all_sent None = tt
    moves_steady choice all_sent (Some out) = go (is_finished out)
      where
        go : (b : Bool) → IsSteady (if b then GoesOn AwaitConfirmation [] else client.sends_request_window c choice out all_sent)
        go true = tt
        go false = window_steady choice out

    segmented_request_steady : (ask : Ask) (out : Outgoing) (all_sent : Bool) (a : Apdu) → IsSteady (client.segmented_request_on_apdu c readable ask out all_sent a)
    segmented_request_steady ask out all_sent (SegmentAck true id ack) = moves_steady ask.choice all_sent (acknowledged c.settings.window out ack.number ack.window)
    segmented_request_steady ask out true (SegmentAck false id ack) = tt
    segmented_request_steady ask out false (SegmentAck false id ack) = tt
    segmented_request_steady ask out true (SimpleAck id choice) = await_steady ask (SimpleAck id choice)
    segmented_request_steady ask out false (SimpleAck id choice) = tt
    segmented_request_steady ask out true (ComplexAck id g choice octets) = await_steady ask (ComplexAck id g choice octets)
    segmented_request_steady ask out false (ComplexAck id g choice octets) = tt
    segmented_request_steady ask out true (Error id choice class code) = await_steady ask (Error id choice class code)
    segmented_request_steady ask out false (Error id choice class code) = tt
    segmented_request_steady ask out true (ConfirmedRequest limits id g choice octets) = tt
    segmented_request_steady ask out false (ConfirmedRequest limits id g choice octets) = tt
    segmented_request_steady ask out true (UnconfirmedRequest choice octets) = tt
    segmented_request_steady ask out false (UnconfirmedRequest choice octets) = tt
    segmented_request_steady ask out true (Reject id reason) = tt
    segmented_request_steady ask out false (Reject id reason) = tt
    segmented_request_steady ask out true (Abort up id reason) = refusal_steady (Abort up id reason)
    segmented_request_steady ask out false (Abort up id reason) = refusal_steady (Abort up id reason)

    next_steady : (ask : Ask) (inc : Incoming) (g : Segment) (choice : ℕ) (octets : Octets) → IsSteady (client.on_next_segment c readable ask inc g choice octets)
    next_steady ask inc g choice octets = go (nat_eq choice ask.choice)
      where
        go : (b : Bool) → IsSteady (if b then client.conf_segment_taken c readable ask.choice g.number inc.window (takes inc g.number g.more octets) else Stays)
        go true = taken_steady ask.choice g.number inc.window (takes inc g.number g.more octets)
        go false = tt

    conf_steady : (ask : Ask) (inc : Incoming) (a : Apdu) → IsSteady (client.segmented_conf_on_apdu c readable ask inc a)
    conf_steady ask inc (ComplexAck id (Some g) choice octets) = next_steady ask inc g choice octets
    conf_steady ask inc (ComplexAck id None choice octets) = tt
    conf_steady ask inc (SimpleAck id choice) = tt
    conf_steady ask inc (Error id choice class code) = tt
    conf_steady ask inc (ConfirmedRequest limits id g choice octets) = tt
    conf_steady ask inc (UnconfirmedRequest choice octets) = tt
    conf_steady ask inc (SegmentAck up id ack) = tt
    conf_steady ask inc (Reject id reason) = tt
    conf_steady ask inc (Abort up id reason) = refusal_steady (Abort up id reason)

    open_steady : (ask : Ask) (phase : Phase) (a : Apdu) → IsSteady (client.open_on_apdu c readable ask phase a)
    open_steady ask (Phase.SegmentedRequest out all_sent) a = segmented_request_steady ask out all_sent a
    open_steady ask AwaitConfirmation a = await_steady ask a
    open_steady ask (SegmentedConf inc) a = conf_steady ask inc a
    open_steady ask Idle a = tt

    pub gets_steady : (t : ClientTransaction) (a : Apdu) → IsSteady (client.client_on_apdu c readable t a)
    gets_steady t a = go (is_idle t.phase || not (is_from_server a)) (client.is_expired c.now t.ask)
      where
        go : (b d : Bool) → IsSteady (if b then Stays else if d then Ends [] Expired else client.open_on_apdu c readable t.ask t.phase a)
        go true d = tt
        go false true = tt
        go false false = open_steady t.ask t.phase a

  -- Time.

  whole_steady : (t : ClientTransaction) → IsSteady (client.repeats_whole c t)
  whole_steady t = go (nat_eq t.repeats 0)
    where
      go : (b : Bool) → IsSteady (if b then Ends [] TimedOut else Repeats t.phase (client.request_apdu c t.ask ∷ []))
      go true = tt
      go false = (λ is. is, tt)

  pieces_steady : (t : ClientTransaction) → IsSteady (client.repeats_pieces c t)
  pieces_steady t = go (nat_eq t.repeats 0)
    where
      go : (b : Bool) → IsSteady (if b then Ends [] TimedOut else Repeats (Phase.SegmentedRequest (outgoing t.ask.pieces) true)
          (client.request_window c t.ask.choice (outgoing t.ask.pieces)))
      go true = tt
      go false = window_steady t.ask.choice (outgoing t.ask.pieces)

  again_steady : (choice : ℕ) (all_sent : Bool) (o : Option Outgoing) → IsSteady (client.sends_request_again c choice all_sent o)
  again_steady choice all_sent None = tt
  again_steady choice all_sent (Some out) = window_steady choice out

  open_ticks_steady : (t : ClientTransaction) (phase : Phase) → IsSteady (client.open_ticks c t phase)
  open_ticks_steady t (Phase.SegmentedRequest out all_sent) = go (nat_le T_SEG (c.now - t.since))
    where
      go : (b : Bool) → IsSteady (if b then client.sends_request_again c t.ask.choice all_sent (again out) else Stays)
      go true = again_steady t.ask.choice all_sent (again out)
      go false = tt
  open_ticks_steady t AwaitConfirmation = go (nat_le T_OUT (c.now - t.since))
    where
      so : (b : Bool) → IsSteady (if b then client.repeats_whole c t else client.repeats_pieces c t)
      so true = whole_steady t
      so false = pieces_steady t

      go : (b : Bool) → IsSteady (if b then client.repeats c t else Stays)
      go true = so t.ask.whole
      go false = tt
  open_ticks_steady t (SegmentedConf inc) = go (nat_le T_WAIT_FOR_SEG (c.now - t.since))
    where
      so : (b : Bool) → IsSteady (if b then client.repeats_whole c t else Ends [] TimedOut)
      so true = whole_steady t
      so false = tt

      go : (b : Bool) → IsSteady (if b then (if t.ask.whole then client.repeats_whole c t else Ends [] TimedOut) else Stays)
      go true = so t.ask.whole
      go false = tt
  open_ticks_steady t Idle = tt

  pub ticks_steady : (t : ClientTransaction) → IsSteady (client.client_ticks c t)
  ticks_steady t = go (is_idle t.phase) (client.is_expired c.now t.ask)
    where
      go : (b d : Bool) → IsSteady (if b then Stays else if d then Ends [] Expired else client.open_ticks c t t.phase)
      go true d = tt
      go false true = tt
      go false false = open_ticks_steady t t.phase

-- An answer in one APDU.

-- it is a reply with which the ask was performed, or a refusal
abbrev pub IsAnswer : ℕ → Ask → List Fact → Apdu → Type 0
IsAnswer number ask log (SimpleAck id choice) = Has (Performed number (request_of ask) reply.Simple) log
IsAnswer number ask log (ComplexAck id None choice octets) = Has (Performed number (request_of ask) (reply.Complex octets)) log
IsAnswer number ask log (Error id choice class code) = Has (Performed number (request_of ask) (reply.Error class code)) log
IsAnswer number ask log (Reject id reason) = Unit {0}
IsAnswer number ask log (Abort true id reason) = Unit {0}
IsAnswer number ask log _ = ⊥

-- the ticket ends so, as the log says that it may
pub record EndsBy (c : Context) (number : ℕ) (log : List Fact) (r : Reaction) : Type 0 where
  pub sends : List Apdu
  pub how : Ending
  pub is : r ≡ Ends sends how
  pub few : (sends ≡ []) ⊎ (sends ≡ client.client_abort c OTHER ∷ [])
  pub may : MayEnd number how log

module _ (c : Context) (readable : Readable) (number : ℕ) (ask : Ask) (log : List Fact) (asked : WasAsked number log) where
  abbrev Ended : Reaction → Type 0
  Ended r = (r ≡ Stays) ⊎ EndsBy c number log r

  simple_ends : (choice : ℕ) → Has (Performed number (request_of ask) reply.Simple) log → Ended (client.on_simple_ack ask choice)
  simple_ends choice h = go (nat_eq choice ask.choice && has_simple_ack ask.choice)
    where
      go : (b : Bool) → Ended (if b then Ends [] (Answered reply.Simple) else Stays)
      go true = inr (record { sends = []; how = Answered reply.Simple; is = refl; few = inl refl; may = (request_of ask, h) })
      go false = inl refl

  complex_ends : (choice : ℕ) (octets : Octets) → Has (Performed number (request_of ask) (reply.Complex octets)) log
      → Ended (client.on_complex_ack c readable ask choice octets)
  complex_ends choice octets h = go (nat_eq choice ask.choice && has_complex_ack ask.choice)
    where
      so : (b : Bool) → Ended (if b then Ends [] (Answered (reply.Complex octets)) else Ends (client.client_abort c OTHER ∷ []) (Aborted OTHER))
      so true = inr (record { sends = []; how = Answered (reply.Complex octets); is = refl; few = inl refl; may = (request_of ask, h) })
      so false = inr (record { sends = client.client_abort c OTHER ∷ []; how = Aborted OTHER; is = refl; few = inr refl; may = asked })

      go : (b : Bool) → Ended (if b then client.answered_with c readable ask.choice [] octets else Stays)
      go true = so (readable ask.choice octets)
      go false = inl refl

  error_ends : (choice class code : ℕ) → Has (Performed number (request_of ask) (reply.Error class code)) log → Ended (client.on_error ask choice class code)
  error_ends choice class code h = go (nat_eq choice ask.choice)
    where
      go : (b : Bool) → Ended (if b then Ends [] (Answered (reply.Error class code)) else Stays)
      go true = inr (record { sends = []; how = Answered (reply.Error class code); is = refl; few = inl refl; may = (request_of ask, h) })
      go false = inl refl

  rejected : (reason : ℕ) → Ended (Ends [] (Rejected reason))
  rejected reason = inr (record { sends = []; how = Rejected reason; is = refl; few = inl refl; may = asked })

  aborted : (reason : ℕ) → Ended (Ends [] (Aborted reason))
  aborted reason = inr (record { sends = []; how = Aborted reason; is = refl; few = inl refl; may = asked })

  await_ends : (a : Apdu) → IsAnswer number ask log a → Ended (client.await_confirmation_on_apdu c readable ask a)
  await_ends (SimpleAck id choice) h = simple_ends choice h
  await_ends (ComplexAck id None choice octets) h = complex_ends choice octets h
  await_ends (Error id choice class code) h = error_ends choice class code h
  await_ends (Reject id reason) h = rejected reason
  await_ends (Abort true id reason) h = aborted reason
  await_ends _ h = absurd h

  request_ends : (out : Outgoing) (all_sent : Bool) (a : Apdu) → IsAnswer number ask log a → Ended (client.segmented_request_on_apdu c readable ask out all_sent a)
  request_ends out true (SimpleAck id choice) h = simple_ends choice h
  request_ends out true (ComplexAck id None choice octets) h = complex_ends choice octets h
  request_ends out true (Error id choice class code) h = error_ends choice class code h
  request_ends out true (Reject id reason) h = rejected reason
  request_ends out true (Abort true id reason) h = aborted reason
  request_ends out false (SimpleAck id choice) h = inl refl
  request_ends out false (ComplexAck id None choice octets) h = inl refl
  request_ends out false (Error id choice class code) h = inl refl
  request_ends out false (Reject id reason) h = rejected reason
  request_ends out false (Abort true id reason) h = aborted reason
  request_ends out all_sent _ h = absurd h

  conf_ends : (inc : Incoming) (a : Apdu) → IsAnswer number ask log a → Ended (client.segmented_conf_on_apdu c readable ask inc a)
  conf_ends inc (SimpleAck id choice) h = inl refl
  conf_ends inc (ComplexAck id None choice octets) h = inl refl
  conf_ends inc (Error id choice class code) h = inl refl
  conf_ends inc (Reject id reason) h = rejected reason
  conf_ends inc (Abort true id reason) h = aborted reason
  conf_ends inc _ h = absurd h

  open_ends : (phase : Phase) (a : Apdu) → IsAnswer number ask log a → Ended (client.open_on_apdu c readable ask phase a)
  open_ends (Phase.SegmentedRequest out all_sent) a h = request_ends out all_sent a h
  open_ends AwaitConfirmation a h = await_ends a h
  open_ends (SegmentedConf inc) a h = conf_ends inc a h
  open_ends Idle a h = inl refl

  refused : (phase : Phase) (id reason : ℕ) → is_idle phase ≡ false → client.open_on_apdu c readable ask phase (Abort true id reason) ≡ Ends [] (Aborted reason)
  refused (Phase.SegmentedRequest out true) id reason going = refl
  refused (Phase.SegmentedRequest out false) id reason going = refl
  refused AwaitConfirmation id reason going = refl
  refused (SegmentedConf inc) id reason going = refl
  refused Idle id reason going = absurd (let no : true ≡ false = going in cc)

  from_server : (a : Apdu) → IsAnswer number ask log a → is_from_server a ≡ true
  from_server (SimpleAck id choice) h = refl
  from_server (ComplexAck id None choice octets) h = refl
  from_server (Error id choice class code) h = refl
  from_server (Reject id reason) h = refl
  from_server (Abort true id reason) h = refl
  from_server _ h = absurd h

-- an answer comes where a server without reuse would have sent an Abort: it makes the same of the ticket, or nothing, or ends it, as the Abort does
pub record EndsAsAborted (c : Context) (number : ℕ) (log : List Fact) (t : ClientTransaction) (r u : Reaction) : Type 0 where
  pub ends : EndsBy c number log r
  pub aborted : u ≡ Ends [] (Aborted OTHER)
  pub going : is_idle t.phase ≡ false
  pub early : client.is_expired c.now t.ask ≡ false

pub answer_comes : (c : Context) (readable : Readable) (number : ℕ) (t : ClientTransaction) (log : List Fact) → WasAsked number log → (id : ℕ) (a : Apdu)
    → IsAnswer number t.ask log a
    → (client.client_on_apdu c readable t a ≡ client.client_on_apdu c readable t (Abort true id OTHER))
    ⊎ ((client.client_on_apdu c readable t a ≡ Stays)
    ⊎ EndsAsAborted c number log t (client.client_on_apdu c readable t a) (client.client_on_apdu c readable t (Abort true id OTHER)))
answer_comes c readable number t log asked id a h = by_phase (is_idle t.phase) refl (is_from_server a) (from_server c readable number t.ask log asked a h)
  where
    u : Apdu → (b d e : Bool) → Reaction
    u x b d e = if b || not d then Stays else if e then Ends [] Expired else client.open_on_apdu c readable t.ask t.phase x

    by_time : is_idle t.phase ≡ false → (e : Bool) → client.is_expired c.now t.ask ≡ e
        → (u a false true e ≡ u (Abort true id OTHER) false true e)
        ⊎ ((u a false true e ≡ Stays) ⊎ EndsAsAborted c number log t (u a false true e) (u (Abort true id OTHER) false true e))
    by_time going true late = inl refl
    by_time going false early = go (open_ends c readable number t.ask log asked t.phase a h)
      where
        go : (client.open_on_apdu c readable t.ask t.phase a ≡ Stays) ⊎ EndsBy c number log (client.open_on_apdu c readable t.ask t.phase a)
            → (u a false true false ≡ u (Abort true id OTHER) false true false)
            ⊎ ((u a false true false ≡ Stays) ⊎ EndsAsAborted c number log t (u a false true false) (u (Abort true id OTHER) false true false))
        go (inl stays) = inr (inl stays)
        go (inr ends) = inr (inr (record { ends = ends; aborted = refused c readable number t.ask log asked t.phase id OTHER going; going = going; early = early }))

    by_phase : (b : Bool) → is_idle t.phase ≡ b → (d : Bool) → d ≡ true
        → (u a b d (client.is_expired c.now t.ask) ≡ u (Abort true id OTHER) b true (client.is_expired c.now t.ask))
        ⊎ ((u a b d (client.is_expired c.now t.ask) ≡ Stays)
        ⊎ EndsAsAborted c number log t (u a b d (client.is_expired c.now t.ask)) (u (Abort true id OTHER) b true (client.is_expired c.now t.ask)))
    by_phase true idle d from = inl refl
    by_phase false going true from = by_time going (client.is_expired c.now t.ask) refl
    by_phase false going false from = absurd (let no : false ≡ true = from in cc)
