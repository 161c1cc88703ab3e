-- When a tick of the server's end does nothing, and when it does something: a timer is due, or an entry is not live any more.
use Rattle.std.proofs.Common.{◌≡◌, ℕ, ◌+◌, ◌-◌, ◌<◌, ◌≤◌, Bool, true, false, ◌&&◌, filter, map, max, min, nat_le, if◌then◌else◌, List, [], ◌∷◌, Option, Some, None, MatchOption}
use Rattle.std.proofs.Common.{slice_get, refl, ap, sym, subst, ◌∙◌, arith}
use Rattle.std.proofs.lemmas.Bool.Decides.{nat_tests}
use Rattle.bac_slots.specs.Slots.{EachSlot}
use Rattle.bac_slots.proofs.SlotAges.{each_more}
use Rattle.bac_protocol.specs.declared.times.TheConstants.{KEEP}
use Rattle.bac_protocol.specs.Context.{Settings}
use Rattle.bac_protocol.specs.Server.{ServerTransaction, is_live}
use Rattle.bac_transaction.specs.Ends.{ServerEnd, ServerSlot, ServerTurn, context_of, entry_or, is_slot_live, server_tick_sends, server_ticked, responder_tick}
use Rattle.bac_transaction.specs.Tables.{AreLive}
use Rattle.bac_transaction.specs.Sends.{Send, to_all}
use Rattle.bac_slots.specs.declared.slot.Slot.{Slot}
use Rattle.bac_slots.specs.Ages.{AreInOrderIf, HasBegun, first_due}
use Rattle.bac_slots.proofs.Fronts.{all_rest, one_moves}
use Rattle.bac_transaction.proofs.ServerTables.{ticks_leave_live}
use Rattle.bac_transaction.proofs.Telling.{none_told}
use Rattle.bac_transaction.specs.declared.peer_key.PeerKey.{PeerKey}
use Rattle.bac_responder.specs.Aging.{began}
use Rattle.bac_responder.specs.Timers.{IsQuiet, LAST_MOMENT, due_of, life_end, state_due}
use Rattle.bac_responder.proofs.TimerLaws.{moves, stays, ticked_began}

-- Lives.

-- before the first life ends all are live
all_live : (now : ℕ) (slots : List ServerSlot) → now < first_due life_end slots → AreLive now slots
all_live now [] before = tt
all_live now (s ∷ slots) before = (live, all_live now slots (omega (arith, before)))
  where
    live : is_live now s.value ≡ true
    live = young s.value.begin (omega (arith, before))
      where
        young : (begin : ℕ) → now < begin + KEEP + 1 → nat_le (now - begin) KEEP ≡ true
        young begin soon = grind (arith, nat_tests, soon)

-- once it has ended one is not
one_dies : (now end : ℕ) (slots : List ServerSlot) → end < LAST_MOMENT → end ≤ now → first_due life_end slots ≡ end → AreLive now slots → ⊥
one_dies now end [] within reached is live = absurd (omega (arith, within, is))
one_dies now end (s ∷ slots) within reached is live =
    go (nat_le (life_end s.value) (first_due life_end slots)) refl (λ rest. one_dies now end slots within reached rest live.1)
  where
    dead : (begin : ℕ) → begin + KEEP + 1 ≤ now → nat_le (now - begin) KEEP ≡ true → ⊥
    dead begin past young = grind (arith, nat_tests, past, young)

    go : (b : Bool) → nat_le (life_end s.value) (first_due life_end slots) ≡ b → (first_due life_end slots ≡ end → ⊥) → ⊥
    go true le again =
        let at : life_end s.value ≡ end = grind (arith, nat_tests, le, is) in
        dead s.value.begin (omega (arith, at, within, reached)) live.0
    go false gt again = again (grind (arith, nat_tests, gt, is))

pass_all : (now : ℕ) (slots : List ServerSlot) → AreLive now slots → filter (is_slot_live now) slots ≡ slots
pass_all now [] live = refl
pass_all now (s ∷ slots) live = rw live.0 (ap (λ l. s ∷ l) (pass_all now slots live.1))

-- a tick leaves the moments at which entries began
ticked_live : (c : Settings) (now : ℕ) (slots : List ServerSlot) → AreLive now slots → AreLive now (map (server_ticked c now) slots)
ticked_live c now [] live = tt
ticked_live c now (s ∷ slots) live =
    (ap (λ b. nat_le (now - b) KEEP) (ticked_began (context_of c now s.key) s.value) ∙ live.0, ticked_live c now slots live.1)

-- the oldest slot's life ends first
pub oldest_first : (latest : Option ℕ) (l end : ℕ) (slots : List (Slot PeerKey ServerTransaction)) → latest ≡ Some l → AreInOrderIf began latest slots
    → MatchOption (slice_get slots 0) (end ≡ LAST_MOMENT) (λ s. end ≡ life_end s.value) → end ≡ first_due life_end slots
oldest_first None l end slots some order is = absurd cc
oldest_first (Some k) l end [] some order is = is
oldest_first (Some k) l end (s ∷ slots) some order is = let least = later slots order.ascends.0 order.begun.1 in omega (arith, is, least)
  where
    later : (rest : List (Slot PeerKey ServerTransaction)) → EachSlot (λ t. s.begin ≤ t.begin) rest → EachSlot (HasBegun began k) rest
        → life_end s.value ≤ first_due life_end rest
    later [] after begun = omega arith
    later (t ∷ rest) after begun =
        let again = later rest after.1 begun.1 in
        let first = after.0 in
        let here = begun.0.0 in
        let own = order.begun.0.0 in
        omega (arith, again, first, here, own)

-- Before anything is due.
module _ (c : Settings) (now from due : ℕ) (started : from ≤ now) (before : now < due) where
  slot_rests : (s : ServerSlot) → IsQuiet from due s.value → server_ticked c now s ≡ s
  slot_rests s q = ap (λ r. record s { value = entry_or s.value r.entry }) (stays (context_of c now s.key) from due started before s.value q)

  slot_silent : (s : ServerSlot) → IsQuiet from due s.value → server_tick_sends c now s ≡ []
  slot_silent s q = ap (λ r. to_all s.key.peer r.sends) (stays (context_of c now s.key) from due started before s.value q)

  pub servers_rest : (e : ServerEnd) → EachSlot (λ s. IsQuiet from due s.value) e.slots → now < first_due life_end e.slots
      → responder_tick c now e ≡ record { end = e; sends = []; act = None }
  servers_rest e q alive =
      let turn : List ServerSlot → List Send → ServerTurn = λ l x. record { end = record e { slots = l }; sends = x; act = None } in
      let quiet : (s : ServerSlot) → Type 0 = λ s. IsQuiet from due s.value in
      let slots = all_rest (server_ticked c now) e.slots (each_more quiet (λ s. server_ticked c now s ≡ s) e.slots slot_rests q) in
      let sends = none_told ServerTransaction (server_tick_sends c now) e.slots (each_more quiet (λ s. server_tick_sends c now s ≡ []) e.slots slot_silent q) in
      let left = ap (filter (is_slot_live now)) slots ∙ pass_all now e.slots (all_live now e.slots alive) in
      ap (λ l. turn l (responder_tick c now e).sends) left ∙ ap (λ l. turn e.slots l) sends

-- When a timer is due.
slot_moves : (c : Settings) (from due : ℕ) (s : ServerSlot) → due < LAST_MOMENT → due_of from s.value ≡ due → server_ticked c (max from due) s ≡ s → ⊥
slot_moves c from due s within is still =
    go (is_live from s.value) (is_live (state_due s.value.state) s.value) refl refl is
  where
    go : (a b : Bool) → is_live from s.value ≡ a → is_live (state_due s.value.state) s.value ≡ b
        → (if a && b then state_due s.value.state else LAST_MOMENT) ≡ due → ⊥
    go true true live still_live at =
        let now : nat_le (max from due - s.value.begin) KEEP ≡ true = grind (arith, nat_tests) in
        let reached : state_due s.value.state ≤ max from due = omega (arith, at) in
        let soon : state_due s.value.state < LAST_MOMENT = omega (arith, at, within) in
        moves (context_of c (max from due) s.key) s.value now reached soon (ap (λ (y : ServerSlot). y.value) still)
    go true false live dead at = absurd (omega (arith, at, within))
    go false b dead any at = absurd (omega (arith, at, within))

-- an end that a tick leaves as it is has live entries alone
left_live : (c : Settings) (now : ℕ) (e : ServerEnd) → (responder_tick c now e).end ≡ e → AreLive now e.slots
left_live c now e same = subst (λ (y : ServerEnd). AreLive now y.slots) same (ticks_leave_live c now e)

timer_moves : (c : Settings) (from due : ℕ) (e : ServerEnd) → due < LAST_MOMENT → first_due (due_of from) e.slots ≡ due
    → (responder_tick c (max from due) e).end ≡ e → ⊥
timer_moves c from due e within is same =
    one_moves (due_of from) (server_ticked c (max from due)) due e.slots within (each e.slots) is all_left
  where
    all_left : map (server_ticked c (max from due)) e.slots ≡ e.slots
    all_left = sym (pass_all (max from due) (map (server_ticked c (max from due)) e.slots) (ticked_live c (max from due) e.slots (left_live c (max from due) e same)))
        ∙ ap (λ (y : ServerEnd). y.slots) same

    each : (slots : List ServerSlot) → EachSlot (λ s. due_of from s.value ≡ due → server_ticked c (max from due) s ≡ s → ⊥) slots
    each [] = tt
    each (s ∷ slots) = (slot_moves c from due s within, each slots)

pub servers_move : (c : Settings) (from timer end due : ℕ) (e : ServerEnd) → (timer < LAST_MOMENT → first_due (due_of from) e.slots ≡ timer)
    → end ≡ first_due life_end e.slots → due ≡ min timer end → due < LAST_MOMENT → (responder_tick c (max from due) e).end ≡ e → ⊥
servers_move c from timer end due e timers lives is within same = go (nat_le timer end) refl
  where
    go : (b : Bool) → nat_le timer end ≡ b → ⊥
    go true le =
        let at : due ≡ timer = grind (arith, nat_tests, le, is) in
        let soon : timer < LAST_MOMENT = omega (arith, at, within) in
        timer_moves c from due e within (timers soon ∙ sym at) same
    go false gt =
        let at : due ≡ end = grind (arith, nat_tests, gt, is) in
        one_dies (max from due) due e.slots within (omega arith) (sym lives ∙ sym at) (left_live c (max from due) e same)
