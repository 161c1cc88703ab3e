-- Each step of a client keeps its transaction in step.
use Rattle.std.proofs.Common.{◌≡◌, ℕ, ◌+◌, ◌-◌, ◌<◌, ◌≤◌, ◌⊎◌, Bool, true, false, ◌&&◌, ◌||◌, not, List, [], ◌∷◌, ◌++◌, length, Option, Some, None}
use Rattle.std.proofs.Common.{if◌then◌else◌, nat_le, nat_eq, refl, sym, ap, subst, inl, inr, ◌∙◌, arith}
use Rattle.std.proofs.lemmas.Bool.Decides.{nat_tests}
use Rattle.bac_apdu.specs.Apdu.{Apdu}
use Rattle.bac_apdu.specs.Apdu.Apdu.{ConfirmedRequest, UnconfirmedRequest, SimpleAck, ComplexAck, SegmentAck, Error, Reject, Abort}
use Rattle.bac_service.specs.Choices.{has_simple_ack, has_complex_ack}
use Rattle.bac_segment.specs.Limits.{N_RETRY}
use Rattle.bac_segment.specs.Numbers.{ahead}
use Rattle.bac_segment.specs.Pieces.{join}
use Rattle.bac_segment.specs.Window.{Outgoing, outgoing, in_window, is_finished, acknowledged, again, Incoming, incoming, Taking, takes}
use Rattle.bac_segment.specs.Window.Taking.{Taken, Whole, Nak, TooLong}
use Rattle.bac_protocol.specs.declared.times.TheConstants.{T_OUT, T_SEG, T_WAIT_FOR_SEG}
use Rattle.bac_protocol.specs.Context.{Context}
use Rattle.bac_protocol.specs.Service.{Octets, OTHER, Readable, Reply as reply}
use Rattle.bac_protocol.specs.Service.Ending.{Answered, Aborted, TimedOut, Expired}
use Rattle.bac_protocol.specs.Wire.{is_from_server, Each}
use Rattle.bac_protocol.specs.Client as client
use Rattle.bac_protocol.specs.Client.{Ask, Phase, ClientTransaction, Reaction, is_idle}
use Rattle.bac_protocol.specs.Client.Phase.{SegmentedRequest, AwaitConfirmation, SegmentedConf, Idle}
use Rattle.bac_protocol.specs.Client.Reaction.{Stays, GoesOn, Repeats, Ends}
use Rattle.bac_protocol.specs.Server.{ServerTransaction}
use Rattle.bac_protocol.specs.Own.{lesser_window}
use Rattle.bac_protocol.specs.Transaction.{Key, Rules, Copy, client_context}
use Rattle.bac_protocol.proofs.Facts.{pieces_length}
use Rattle.bac_protocol.proofs.Transfer.{moved, acknowledged_cases}
use Rattle.bac_liveness.specs.InStep.{IsAtStart, IsUnderway, IsSending}
use Rattle.bac_liveness.proofs.Flow.{Hands, reach, NearUp, request_window_near, PhaseFlows, Collects, After}

-- Windows.

pub window_bound : (L W : ℕ) (out : Outgoing) → 0 < L → L ≤ W → (IsAtStart out ⊎ IsUnderway L out) → out.window ≤ W
window_bound L W out some le (inl h) = let w = h.1 in omega arith
window_bound L W out some le (inr h) = let w = h.1 in omega arith

window_lesser : (L : ℕ) (out : Outgoing) → 0 < L → (IsAtStart out ⊎ IsUnderway L out) → out.window ≤ L
window_lesser L out some h = window_bound L L out some (omega arith) h

-- a window that moved on: all that had been sent is behind its end, and no more is sent than it has
pub reach_moved : (L own window : ℕ) (out : Outgoing) (number : ℕ) → L ≤ own → window ≡ L → out.window ≤ L → ahead number out.first < in_window out
    → (reach out ≤ reach (moved own out number window)) × (reach (moved own out number window) ≤ reach out + in_window (moved own out number window))
reach_moved L own window out number le is small reads = (omega arith, omega arith)

module _ (W : ℕ) (x : Rules) (key : Key) (now : Hands) (ask : Ask) (repeats : ℕ) (phase : Phase) (o : Option ServerTransaction) (copies : List Copy)
    (some : 0 < lesser_window x key) (bounded : lesser_window x key ≤ W) (own_is : lesser_window x key ≤ (x.settings key.client).window)
    (pieces_some : 0 < length ask.pieces) where
  abbrev c : Context
  c = client_context x key now.client

  abbrev L : ℕ
  L = lesser_window x key

  abbrev pub AfterIt : ℕ → Phase → List Apdu → Type 0
  AfterIt r next sends = After W x key now ask phase o copies r next sends

  abbrev pub CollectsIt : Incoming → Type 0
  CollectsIt inc = Collects W x key now ask phase o copies inc

  -- what a reaction leaves
  abbrev pub Fine : Reaction → Type 0
  Fine Stays = Unit {0}
  Fine (GoesOn next sends) = AfterIt repeats next sends
  Fine (Repeats next sends) = AfterIt (repeats - 1) next sends × (repeats - 1 ≡ N_RETRY → ⊥)
  Fine (Ends sends how) = Unit {0}

  either_fine : (b : Bool) (r s : Reaction) → Fine r → Fine s → Fine (if b then r else s)
  either_fine true r s h k = h
  either_fine false r s h k = k

  abbrev pub TakingFine : Taking → Type 0
  TakingFine (Taken ack inc) = CollectsIt inc
  TakingFine (Whole parts) = Unit {0}
  TakingFine (Nak inc) = CollectsIt inc
  TakingFine TooLong = Unit {0}

  module _ (readable : Readable) where
    answered_fine : (choice : ℕ) (acks : List Apdu) (octets : Octets) → Fine (client.answered_with c readable choice acks octets)
    answered_fine choice acks octets = either_fine (readable choice octets) (Ends acks (Answered (reply.Complex octets)))
        (Ends (acks ++ client.client_abort c OTHER ∷ []) (Aborted OTHER)) tt tt

    taken_fine : (choice number window : ℕ) (y : Taking) → TakingFine y → Fine (client.conf_segment_taken c readable choice number window y)
    taken_fine choice number window (Taken true inc) h = h
    taken_fine choice number window (Taken false inc) h = h
    taken_fine choice number window (Whole parts) h = answered_fine choice (client.client_ack c false number window ∷ []) (join parts)
    taken_fine choice number window (Nak inc) h = h
    taken_fine choice number window TooLong h = tt

    refusal_fine : (a : Apdu) → Fine (client.on_refusal a)
    refusal_fine (Reject i r) = tt
    refusal_fine (Abort true i r) = tt
    refusal_fine _ = tt

    -- a segment of the reply that comes is fine: where it is the first, and where others came before
    abbrev pub ComesFine : Apdu → Type 0
    ComesFine (ComplexAck i (Some g) choice octets) =
        TakingFine (takes (incoming c.settings.window g.window) g.number g.more octets)
        × ((inc : Incoming) → phase ≡ SegmentedConf inc → TakingFine (takes inc g.number g.more octets))
    ComesFine _ = Unit {0}

    await_fine : (a : Apdu) → ComesFine a → Fine (client.await_confirmation_on_apdu c readable ask a)
    await_fine (SimpleAck i choice) h =
        either_fine (nat_eq choice ask.choice && has_simple_ack ask.choice) (Ends [] (Answered reply.Simple)) Stays tt tt
    await_fine (ComplexAck i None choice octets) h = either_fine (nat_eq choice ask.choice && has_complex_ack ask.choice)
        (client.answered_with c readable ask.choice [] octets) Stays (answered_fine ask.choice [] octets) tt
    await_fine (ComplexAck i (Some g) choice octets) h =
        let inc = incoming c.settings.window g.window in
        either_fine (nat_eq choice ask.choice && (has_complex_ack ask.choice && (c.settings.limits.takes_segments && nat_eq g.number 0)))
        (client.conf_segment_taken c readable ask.choice g.number inc.window (takes inc g.number g.more octets)) Stays
        (taken_fine ask.choice g.number inc.window (takes inc g.number g.more octets) h.0) tt
    await_fine (Error i choice class code) h =
        either_fine (nat_eq choice ask.choice) (Ends [] (Answered (reply.Error class code))) Stays tt tt
    await_fine (ConfirmedRequest l i g choice octets) h = tt
    await_fine (UnconfirmedRequest choice octets) h = tt
    await_fine (SegmentAck b i ack) h = tt
    await_fine (Reject i r) h = tt
    await_fine (Abort true i r) h = tt
    await_fine (Abort false i r) h = tt

    conf_fine : (inc : Incoming) → phase ≡ SegmentedConf inc → (a : Apdu) → ComesFine a → Fine (client.segmented_conf_on_apdu c readable ask inc a)
    conf_fine inc is (ComplexAck i (Some g) choice octets) h =
        either_fine (nat_eq choice ask.choice) (client.conf_segment_taken c readable ask.choice g.number inc.window (takes inc g.number g.more octets)) Stays
        (taken_fine ask.choice g.number inc.window (takes inc g.number g.more octets) (h.1 inc is)) tt
    conf_fine inc is (ComplexAck i None choice octets) h = tt
    conf_fine inc is (ConfirmedRequest l i g choice octets) h = tt
    conf_fine inc is (UnconfirmedRequest choice octets) h = tt
    conf_fine inc is (SimpleAck i choice) h = tt
    conf_fine inc is (SegmentAck b i ack) h = tt
    conf_fine inc is (Error i choice class code) h = tt
    conf_fine inc is (Reject i r) h = tt
    conf_fine inc is (Abort true i r) h = tt
    conf_fine inc is (Abort false i r) h = tt

  -- A window is sent: what was sent before it is behind its end.
  window_fine : (out next : Outgoing) (all : Bool) → phase ≡ SegmentedRequest out all → PhaseFlows L ask repeats (SegmentedRequest out all)
      → IsSending L ask.pieces next → reach out ≤ reach next → reach next ≤ reach out + in_window next
      → Fine (client.sends_request_window c ask.choice next all)
  window_fine out next all is flows sends onward few = (
    (sends, all_or_first),
    λ full. record {
      old = out;
      all = all;
      was = is;
      onward = onward;
      few = let e = pieces_length (client.request_piece c ask.choice next.pieces) next.first (in_window next) in omega arith;
      near = subst (λ (ps : List Octets). Each (λ a. (k : ℕ) → NearUp W ps (reach next) k a) (client.request_window c ask.choice next)) sends.pieces_are
          (request_window_near W c ask.choice next (window_bound L W next some bounded sends.window));
    },
  )
    where
      len : length next.pieces ≡ length ask.pieces
      len = ap length sends.pieces_are

      by_old : ((all ≡ true) ⊎ ((repeats ≡ N_RETRY) × (reach out < length ask.pieces))) → (b : Bool) → nat_le (length next.pieces) (reach next) ≡ b
          → ((all || b) ≡ true) ⊎ ((repeats ≡ N_RETRY) × (reach next < length ask.pieces))
      by_old old true e = inl (go all)
        where
          go : (b : Bool) → (b || true) ≡ true
          go true = refl
          go false = refl
      by_old (inl e) false t = inl (ap (λ b. b || false) e)
      by_old (inr h) false t = let l = len in inr (h.0, grind (arith, nat_tests))

      all_or_first : ((all || nat_le (length next.pieces) (reach next)) ≡ true) ⊎ ((repeats ≡ N_RETRY) × (reach next < length ask.pieces))
      all_or_first = by_old flows.1 (nat_le (length next.pieces) (reach next)) refl

  -- a SegmentACK of the lesser window
  moves_fine : (out : Outgoing) (all : Bool) → phase ≡ SegmentedRequest out all → PhaseFlows L ask repeats (SegmentedRequest out all) → (number window : ℕ)
      → window ≡ L → Fine (client.moves_request_window c ask.choice all (acknowledged c.settings.window out number window))
  moves_fine out all is flows number window granted =
      acknowledged_cases c.settings.window out number window (λ (y : Option Outgoing). Fine (client.moves_request_window c ask.choice all y)) tt moved_fine
    where
      next : Outgoing
      next = moved c.settings.window out number window

      len : length out.pieces ≡ length ask.pieces
      len = ap length (flows.0).pieces_are

      moved_fine : ahead number out.first < in_window out → Fine (client.moves_request_window c ask.choice all (Some next))
      moved_fine reads = go (is_finished next) refl
        where
          go : (b : Bool) → is_finished next ≡ b → Fine (if b then GoesOn AwaitConfirmation [] else client.sends_request_window c ask.choice next all)
          go true e = tt
          go false e =
              let small = window_lesser L out some (flows.0).window in
              let r = reach_moved L c.settings.window window out number own_is granted small reads in
              let l = len in
              let left : next.first < length out.pieces = grind (arith, nat_tests) in
              window_fine out next all is flows
              (record { pieces_are = (flows.0).pieces_are; left = omega arith; window = inr (omega arith, omega arith) }) r.0 r.1

  -- An APDU comes.

  abbrev pub Granted : Apdu → Type 0
  Granted (SegmentAck true i ack) = ack.window ≡ L
  Granted _ = Unit {0}

  sending_fine : (readable : Readable) (out : Outgoing) (all : Bool) → phase ≡ SegmentedRequest out all
      → PhaseFlows L ask repeats (SegmentedRequest out all) → (a : Apdu) → Granted a → ComesFine readable a
      → Fine (client.segmented_request_on_apdu c readable ask out all a)
  sending_fine readable out all is flows (SegmentAck true i ack) granted h = moves_fine out all is flows ack.number ack.window granted
  sending_fine readable out true is flows (SegmentAck false i ack) granted h = tt
  sending_fine readable out true is flows (SimpleAck i choice) granted h = await_fine readable (SimpleAck i choice) h
  sending_fine readable out true is flows (ComplexAck i g choice octets) granted h = await_fine readable (ComplexAck i g choice octets) h
  sending_fine readable out true is flows (Error i choice class code) granted h = await_fine readable (Error i choice class code) h
  sending_fine readable out true is flows (ConfirmedRequest l i g choice octets) granted h = tt
  sending_fine readable out true is flows (UnconfirmedRequest choice octets) granted h = tt
  sending_fine readable out true is flows (Reject i r) granted h = tt
  sending_fine readable out true is flows (Abort true i r) granted h = tt
  sending_fine readable out true is flows (Abort false i r) granted h = tt
  sending_fine readable out false is flows (SegmentAck false i ack) granted h = tt
  sending_fine readable out false is flows (SimpleAck i choice) granted h = tt
  sending_fine readable out false is flows (ComplexAck i g choice octets) granted h = tt
  sending_fine readable out false is flows (Error i choice class code) granted h = tt
  sending_fine readable out false is flows (ConfirmedRequest l i g choice octets) granted h = tt
  sending_fine readable out false is flows (UnconfirmedRequest choice octets) granted h = tt
  sending_fine readable out false is flows (Reject i r) granted h = tt
  sending_fine readable out false is flows (Abort true i r) granted h = tt
  sending_fine readable out false is flows (Abort false i r) granted h = tt

  open_fine : (readable : Readable) (ph : Phase) → phase ≡ ph → PhaseFlows L ask repeats ph → (a : Apdu) → Granted a → ComesFine readable a
      → Fine (client.open_on_apdu c readable ask ph a)
  open_fine readable (SegmentedRequest out all) is flows a granted h = sending_fine readable out all is flows a granted h
  open_fine readable AwaitConfirmation is flows a granted h = await_fine readable a h
  open_fine readable (SegmentedConf inc) is flows a granted h = conf_fine readable inc is a h
  open_fine readable Idle is flows a granted h = tt

  pub gets_fine : (readable : Readable) (t : ClientTransaction) → t.ask ≡ ask → t.phase ≡ phase → PhaseFlows L ask repeats phase → (a : Apdu) → Granted a
      → ComesFine readable a → Fine (client.client_on_apdu c readable t a)
  gets_fine readable t same is flows a granted h =
      either_fine (is_idle t.phase || not (is_from_server a)) Stays
      (if client.is_expired c.now t.ask then Ends [] Expired else client.open_on_apdu c readable t.ask t.phase a) tt
      (either_fine (client.is_expired c.now t.ask) (Ends [] Expired) (client.open_on_apdu c readable t.ask t.phase a) tt
      (subst (λ (k : Ask). Fine (client.open_on_apdu c readable k t.phase a)) (sym same)
      (subst (λ (ph : Phase). Fine (client.open_on_apdu c readable ask ph a)) (sym is) (open_fine readable phase refl flows a granted h))))

  -- A tick.

  again_fine : (out : Outgoing) (all : Bool) → phase ≡ SegmentedRequest out all → PhaseFlows L ask repeats (SegmentedRequest out all)
      → Fine (client.sends_request_again c ask.choice all (again out))
  again_fine out all is flows = go (nat_eq out.retries 0)
    where
      go : (b : Bool) → Fine (client.sends_request_again c ask.choice all (if b then None else Some (record out { retries = out.retries - 1 })))
      go true = tt
      go false = window_fine out (record out { retries = out.retries - 1 }) all is flows
          (record { pieces_are = (flows.0).pieces_are; left = (flows.0).left; window = (flows.0).window }) (omega arith) (omega arith)

  -- a repeat of a request in segments begins a later pass; a whole one is repeated in the state it is in
  whole_fine : (t : ClientTransaction) → t.ask ≡ ask → t.repeats ≡ repeats → t.phase ≡ phase
      → ((out : Outgoing) (all : Bool) → phase ≡ SegmentedRequest out all → ⊥)
      → ((inc : Incoming) → phase ≡ SegmentedConf inc → CollectsIt inc) → repeats ≤ N_RETRY → Fine (client.repeats_whole c t)
  whole_fine t same rep is not_sending collects few = go (nat_eq t.repeats 0) refl
    where
      by_phase : (ph : Phase) → phase ≡ ph → AfterIt (repeats - 1) ph (client.request_apdu c t.ask ∷ [])
      by_phase (SegmentedRequest out all) e = absurd (not_sending out all e)
      by_phase AwaitConfirmation e = tt
      by_phase (SegmentedConf inc) e = collects inc e
      by_phase Idle e = tt

      go : (b : Bool) → nat_eq t.repeats 0 ≡ b → Fine (if b then Ends [] TimedOut else Repeats t.phase (client.request_apdu c t.ask ∷ []))
      go true e = tt
      go false e = (
        subst (λ (ph : Phase). AfterIt (repeats - 1) ph (client.request_apdu c t.ask ∷ [])) (sym is) (by_phase phase refl),
        λ full. let some_left : 0 < t.repeats = grind (arith, nat_tests) in omega arith,
      )

  pieces_fine : (t : ClientTransaction) → t.ask ≡ ask → t.repeats ≡ repeats → repeats ≤ N_RETRY → Fine (client.repeats_pieces c t)
  pieces_fine t same rep few = go (nat_eq t.repeats 0) refl
    where
      not_full : 0 < t.repeats → repeats - 1 ≡ N_RETRY → ⊥
      not_full some_left full = omega arith

      go : (b : Bool) → nat_eq t.repeats 0 ≡ b
          → Fine (if b then Ends [] TimedOut
          else Repeats (SegmentedRequest (outgoing t.ask.pieces) true) (client.request_window c t.ask.choice (outgoing t.ask.pieces)))
      go true e = tt
      go false e =
          let some_left : 0 < t.repeats = grind (arith, nat_tests) in (
            (
              (record { pieces_are = ap (λ (k : Ask). k.pieces) same; left = pieces_some; window = inl (refl, refl) }, inl refl),
              λ full. absurd (not_full some_left full),
            ),
            not_full some_left,
          )

  repeats_fine : (t : ClientTransaction) → t.ask ≡ ask → t.repeats ≡ repeats → t.phase ≡ phase
      → ((out : Outgoing) (all : Bool) → phase ≡ SegmentedRequest out all → ⊥)
      → ((inc : Incoming) → phase ≡ SegmentedConf inc → CollectsIt inc) → repeats ≤ N_RETRY → Fine (client.repeats c t)
  repeats_fine t same rep is not_sending collects few = either_fine t.ask.whole (client.repeats_whole c t) (client.repeats_pieces c t)
      (whole_fine t same rep is not_sending collects few) (pieces_fine t same rep few)

  open_ticks_fine : (t : ClientTransaction) → t.ask ≡ ask → t.repeats ≡ repeats → t.phase ≡ phase → (ph : Phase) → phase ≡ ph → PhaseFlows L ask repeats ph
      → ((inc : Incoming) → phase ≡ SegmentedConf inc → CollectsIt inc) → repeats ≤ N_RETRY → Fine (client.open_ticks c t ph)
  open_ticks_fine t same rep is (SegmentedRequest out all) e flows collects few =
      either_fine (nat_le T_SEG (c.now - t.since)) (client.sends_request_again c t.ask.choice all (again out)) Stays
      (subst (λ (k : Ask). Fine (client.sends_request_again c k.choice all (again out))) (sym same) (again_fine out all e flows)) tt
  open_ticks_fine t same rep is AwaitConfirmation e flows collects few =
      either_fine (nat_le T_OUT (c.now - t.since)) (client.repeats c t) Stays
      (repeats_fine t same rep is (λ out all f. let z = sym e ∙ f in absurd cc) collects few) tt
  open_ticks_fine t same rep is (SegmentedConf inc) e flows collects few =
      either_fine (nat_le T_WAIT_FOR_SEG (c.now - t.since)) (if t.ask.whole then client.repeats_whole c t else Ends [] TimedOut) Stays
      (either_fine t.ask.whole (client.repeats_whole c t) (Ends [] TimedOut)
      (whole_fine t same rep is (λ out all f. let z = sym e ∙ f in absurd cc) collects few) tt) tt
  open_ticks_fine t same rep is Idle e flows collects few = tt

  pub ticks_fine : (t : ClientTransaction) → t.ask ≡ ask → t.repeats ≡ repeats → t.phase ≡ phase → PhaseFlows L ask repeats phase
      → ((inc : Incoming) → phase ≡ SegmentedConf inc → CollectsIt inc) → repeats ≤ N_RETRY → Fine (client.client_ticks c t)
  ticks_fine t same rep is flows collects few =
      either_fine (is_idle t.phase) Stays (if client.is_expired c.now t.ask then Ends [] Expired else client.open_ticks c t t.phase) tt
      (either_fine (client.is_expired c.now t.ask) (Ends [] Expired) (client.open_ticks c t t.phase) tt
      (subst (λ (ph : Phase). Fine (client.open_ticks c t ph)) (sym is) (open_ticks_fine t same rep is phase refl flows collects few)))
