-- When a tick of the client's end does nothing, and when it does something.
use Rattle.std.proofs.Common.{◌≡◌, ℕ, ◌+◌, ◌-◌, ◌<◌, ◌≤◌, Bool, true, false, nat_eq, nat_le, if◌then◌else◌, List, [], ◌∷◌, Option, Some, None, refl, ap, sym, ◌∙◌, arith}
use Rattle.std.proofs.lemmas.Bool.Decides.{nat_tests}
use Rattle.bac_slots.specs.Slots.{EachSlot}
use Rattle.bac_slots.proofs.SlotAges.{each_more}
use Rattle.bac_segment.specs.Window.{Outgoing, again, outgoing}
use Rattle.bac_protocol.specs.declared.times.TheConstants.{T_SEG, T_OUT, T_WAIT_FOR_SEG}
use Rattle.bac_protocol.specs.Context.{Context, Settings}
use Rattle.bac_protocol.specs.Service.Ending.{Expired, TimedOut}
use Rattle.bac_protocol.specs.Client.{ClientTransaction, Phase, Reaction, after, client_ticks, is_expired, is_idle, open_ticks, repeats_pieces, repeats_whole}
use Rattle.bac_protocol.specs.Client.{request_apdu, request_window, sends_request_again}
use Rattle.bac_protocol.specs.Client.Reaction.{Stays, GoesOn, Repeats, Ends}
use Rattle.bac_transaction.specs.Ends.{Client, ClientEnd, ClientSlot, ClientTurn, Ended, TransactionSlot, client_tick_ends, client_tick_sends, client_ticked, requester_tick}
use Rattle.bac_transaction.specs.Ends.{context_of, held_ticked, kept, open_unless}
use Rattle.bac_transaction.specs.Sends.{Send}
use Rattle.bac_slots.specs.Ages.{first_due}
use Rattle.bac_slots.proofs.Fronts.{all_rest, one_moves}
use Rattle.bac_transaction.proofs.Telling.{none_told}
use Rattle.bac_requester.specs.Timers.{IsHeldQuiet, LAST_MOMENT, due_of, held_due, wait_of}
use Rattle.bac_requester.specs.Aging.{client_due}
use Rattle.bac_requester.proofs.Aging.{held_ends, held_sends, held_stays}

-- Before anything is due.
module _ (c : Settings) (now due : ℕ) (before : now < due) where
  slot_rests : (s : ClientSlot) → IsHeldQuiet due s.value.held → client_ticked c now s ≡ s
  slot_rests s q = ap (λ v. record s { value = v }) (held_stays (context_of c now s.key) due before s.value.number s.value.held q)

  pub clients_rest : (e : ClientEnd) → EachSlot (λ s. IsHeldQuiet due s.value.held) e.slots
      → requester_tick c now e ≡ record { end = e; sends = []; ended = [] }
  clients_rest e q =
      let turn : List ClientSlot → List Send → List Ended → ClientTurn = λ l x y. record { end = record e { slots = l }; sends = x; ended = y } in
      let quiet : (s : ClientSlot) → Type 0 = λ s. IsHeldQuiet due s.value.held in
      let slots = all_rest (client_ticked c now) e.slots (each_more quiet (λ s. client_ticked c now s ≡ s) e.slots slot_rests q) in
      let sends = none_told Client (client_tick_sends c now) e.slots (each_more quiet (λ s. client_tick_sends c now s ≡ []) e.slots
      (λ s h. held_sends (context_of c now s.key) due before s.key.peer s.value.held h) q) in
      let ended = none_told Client (client_tick_ends c now) e.slots (each_more quiet (λ s. client_tick_ends c now s ≡ []) e.slots
      (λ s h. held_ends (context_of c now s.key) due before s.value.number s.value.held h) q) in
      ap (λ l. turn l (requester_tick c now e).sends (requester_tick c now e).ended) slots ∙ ap (λ l. turn e.slots l (requester_tick c now e).ended) sends
      ∙ ap (λ l. turn e.slots [] l) ended

-- it is no rest
abbrev IsActing : Reaction → Type 0
IsActing Stays = ⊥
IsActing (GoesOn phase sends) = Unit {0}
IsActing (Repeats phase sends) = Unit {0}
IsActing (Ends sends how) = Unit {0}

ends_or : (b : Bool) (r : Reaction) → IsActing r → IsActing (if b then Ends [] TimedOut else r)
ends_or true r acts = tt
ends_or false r acts = acts

-- When a timer is due.
module _ (c : Context) where
  whole_acts : (t : ClientTransaction) → IsActing (repeats_whole c t)
  whole_acts t = ends_or (nat_eq t.repeats 0) (Repeats t.phase (request_apdu c t.ask ∷ [])) tt

  pieces_act : (t : ClientTransaction) → IsActing (repeats_pieces c t)
  pieces_act t = ends_or (nat_eq t.repeats 0) (Repeats (Phase.SegmentedRequest (outgoing t.ask.pieces) true)
      (request_window c t.ask.choice (outgoing t.ask.pieces))) tt

  again_acts : (choice : ℕ) (all_sent : Bool) (o : Option Outgoing) → IsActing (sends_request_again c choice all_sent o)
  again_acts choice all_sent None = tt
  again_acts choice all_sent (Some out) = tt

  open_acts : (t : ClientTransaction) (p : Phase) → is_idle p ≡ false → t.since + wait_of p ≤ c.now → IsActing (open_ticks c t p)
  open_acts t (Phase.SegmentedRequest out all_sent) unended due =
      let yes : nat_le T_SEG (c.now - t.since) ≡ true = grind (arith, nat_tests) in rw yes (again_acts t.ask.choice all_sent (again out))
  open_acts t Phase.AwaitConfirmation unended due =
      let yes : nat_le T_OUT (c.now - t.since) ≡ true = grind (arith, nat_tests) in rw yes (go t.ask.whole)
    where
      go : (b : Bool) → IsActing (if b then repeats_whole c t else repeats_pieces c t)
      go true = whole_acts t
      go false = pieces_act t
  open_acts t (Phase.SegmentedConf inc) unended due =
      let yes : nat_le T_WAIT_FOR_SEG (c.now - t.since) ≡ true = grind (arith, nat_tests) in rw yes (go t.ask.whole)
    where
      go : (b : Bool) → IsActing (if b then repeats_whole c t else Ends [] TimedOut)
      go true = whole_acts t
      go false = tt
  open_acts t Phase.Idle unended due = absurd cc

  -- the ticket isn't as it was
  moved : (t : ClientTransaction) (r : Reaction) → t.since < c.now → IsActing r → kept (after c.now t r) ≡ TransactionSlot.Open t → ⊥
  moved t Stays later acts e = absurd acts
  moved t (GoesOn phase sends) later acts e = go (is_idle phase) e
    where
      go : (b : Bool) → open_unless b (record t { phase = phase; since = c.now }) ≡ TransactionSlot.Open t → ⊥
      go true e = absurd cc
      go false e = let same : c.now ≡ t.since = cc in absurd (omega (arith, same, later))
  moved t (Repeats phase sends) later acts e = go (is_idle phase) e
    where
      go : (b : Bool) → open_unless b (record t { phase = phase; repeats = t.repeats - 1; since = c.now }) ≡ TransactionSlot.Open t → ⊥
      go true e = absurd cc
      go false e = let same : c.now ≡ t.since = cc in absurd (omega (arith, same, later))
  moved t (Ends sends how) later acts e = absurd cc

  waited : (t : ClientTransaction) (p : Phase) → is_idle p ≡ false → t.since + wait_of p ≤ c.now → t.since < c.now
  waited t (Phase.SegmentedRequest out all_sent) unended due = omega (arith, due)
  waited t Phase.AwaitConfirmation unended due = omega (arith, due)
  waited t (Phase.SegmentedConf inc) unended due = omega (arith, due)
  waited t Phase.Idle unended due = absurd cc

  open_moves : (t : ClientTransaction) → is_idle t.phase ≡ false → due_of t ≤ c.now → due_of t < LAST_MOMENT → kept (after c.now t (client_ticks c t)) ≡ TransactionSlot.Open t → ⊥
  open_moves t unended due within e =
      go (is_expired c.now t.ask) refl
      (sym (ap (λ b. kept (after c.now t (if b then Stays else (if is_expired c.now t.ask then Ends [] Expired else open_ticks c t t.phase)))) unended) ∙ e)
    where
      go : (b : Bool) → is_expired c.now t.ask ≡ b → kept (after c.now t (if b then Ends [] Expired else open_ticks c t t.phase)) ≡ TransactionSlot.Open t → ⊥
      go true late e = absurd cc
      go false early e =
          let timer : t.since + wait_of t.phase ≤ c.now = grind (arith, nat_tests) in
          moved t (open_ticks c t t.phase) (waited t t.phase unended timer) (open_acts t t.phase unended timer) e

  held_moves : (due number : ℕ) (h : TransactionSlot) → IsHeldQuiet due h → held_due h ≡ due → due ≤ c.now → due < LAST_MOMENT
      → held_ticked c number h ≡ record { number = number; held = h } → ⊥
  held_moves due number (TransactionSlot.Open t) q is reached within e =
      open_moves t q.unended (omega (arith, is, reached)) (omega (arith, is, within)) (ap (λ (v : Client). v.held) e)
  held_moves due number (TransactionSlot.Closed first) q is reached within e = absurd (omega (arith, is, within))

pub clients_move : (c : Settings) (now due : ℕ) (e : ClientEnd) → due ≤ now → due < LAST_MOMENT → first_due (client_due 0) e.slots ≡ due
    → EachSlot (λ s. IsHeldQuiet due s.value.held) e.slots → (requester_tick c now e).end ≡ e → ⊥
clients_move c now due e reached within is q same =
    one_moves (client_due 0) (client_ticked c now) due e.slots within
    (each_more (λ s. IsHeldQuiet due s.value.held) (λ s. client_due 0 s.value ≡ due → client_ticked c now s ≡ s → ⊥) e.slots
    (λ s h at still. held_moves (context_of c now s.key) due s.value.number s.value.held h at reached within (ap (λ (y : ClientSlot). y.value) still)) q)
    is (ap (λ (y : ClientEnd). y.slots) same)
