-- A tick of the client's end: the slots after it, and what is told before anything is due.
use Rattle.std.proofs.Common.{◌≡◌, ℕ, ◌<◌, List, [], ◌∷◌, map, refl, ap, ◌∙◌}
use Rattle.bac_slots.specs.declared.slot.Slot.{Slot}
use Rattle.bac_slots.proofs.SlotAges.{each_more}
use Rattle.bac_transaction.specs.declared.settings.Settings.{Settings}
use Rattle.bac_transaction.specs.Ends.{Client, ClientEnd, ClientSlot, client_tick_ends, client_tick_sends, client_ticked, requester_tick, context_of}
use Rattle.bac_transaction.specs.Meanings.{IsEndedView}
use Rattle.bac_transaction.specs.Sends.{IsSent}
use Rattle.bac_transaction.specs.Views.{peer_key_view, settings_view, slot_view, slots_view}
use Rattle.bac_transaction.specs.declared.peer_key.PeerKey.{PeerKey}
use Rattle.bac_slots.specs.Ages.{AreQuiet, changed, ticked_in}
use Rattle.bac_transaction.proofs.Telling.{told_none}
use Rattle.bac_requester.specs.Aging.{IsClientQuiet, value_ticked}
use Rattle.bac_requester.specs.Reactions.{IsReaction}
use Rattle.bac_requester.specs.Views.{end_of, ended_view}
use Rattle.bac_requester.specs.declared.reaction.Reaction.{Reaction}
use Rattle.bac_requester.proofs.Aging.{held_ends, held_sends}

abbrev Slots : Type 0
Slots = List (Slot PeerKey Client)

ticked_viewed : (c : Settings) (now : ℕ) (slots : Slots)
    → slots_view (map (changed (ticked_in value_ticked c now)) slots) ≡ map (client_ticked (settings_view c) now) (slots_view slots)
ticked_viewed c now [] = refl
ticked_viewed c now (s ∷ slots) = ap (λ l. client_ticked (settings_view c) now (slot_view s) ∷ l) (ticked_viewed c now slots)

pub committed : (c : Settings) (now : ℕ) (old new : Slots) (capacity room asked from first_id : ℕ) → new ≡ map (changed (ticked_in value_ticked c now)) old → room ≡ capacity
    → end_of new room asked from first_id ≡ (requester_tick (settings_view c) now (end_of old capacity asked from first_id)).end
committed c now old new capacity room asked from first_id e f =
    let with_slots : List ClientSlot → ℕ → ClientEnd = λ l k. record { slots = l; capacity = k; asked = asked; asks_from = from; first_id = first_id } in
    ap (λ l. with_slots (slots_view l) room) e ∙ ap (λ l. with_slots l room) (ticked_viewed c now old)
    ∙ ap (λ k. with_slots (map (client_ticked (settings_view c) now) (slots_view old)) k) f

pub nothing_due : (c : Settings) (now begin due : ℕ) (before : now < due) (slots : Slots) (capacity asked from first_id : ℕ) (x : Reaction)
    → AreQuiet IsClientQuiet begin due slots → x.sends.items ≡ [] → x.ended.items ≡ []
    → IsReaction (requester_tick (settings_view c) now (end_of slots capacity asked from first_id)) x
nothing_due c now begin due before slots capacity asked from first_id x q no_sent no_ended =
    record {
      sends = told_none Client IsSent (client_tick_sends (settings_view c) now) slots x.sends.items
          (each_more (λ s. IsClientQuiet begin due s.value) (λ s. client_tick_sends (settings_view c) now (slot_view s) ≡ []) slots
          (λ s h. held_sends (context_of (settings_view c) now (peer_key_view s.key)) due before (peer_key_view s.key).peer s.value.held h) q) no_sent;
      ended = told_none Client IsEndedView (client_tick_ends (settings_view c) now) slots (map ended_view x.ended.items)
          (each_more (λ s. IsClientQuiet begin due s.value) (λ s. client_tick_ends (settings_view c) now (slot_view s) ≡ []) slots
          (λ s h. held_ends (context_of (settings_view c) now (peer_key_view s.key)) due before s.value.number s.value.held h) q) (ap (λ l. map ended_view l) no_ended);
    }
