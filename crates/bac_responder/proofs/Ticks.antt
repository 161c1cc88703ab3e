-- A tick of the server's end: the slots after it, and what is sent before anything is due.
use Rattle.std.proofs.Common.{◌≡◌, ℕ, ◌<◌, ◌≤◌, Option, List, [], ◌∷◌, filter, map, refl, ap, ◌∙◌}
use Rattle.bac_slots.specs.declared.slot.Slot.{Slot}
use Rattle.bac_slots.proofs.SlotAges.{each_more}
use Rattle.bac_transaction.specs.declared.settings.Settings.{Settings}
use Rattle.bac_protocol.specs.declared.times.TheConstants.{KEEP}
use Rattle.bac_protocol.specs.Server.{ServerTransaction, is_live}
use Rattle.bac_transaction.specs.Ends.{ServerEnd, ServerSlot, first_after, context_of, is_slot_live, server_tick_sends, server_ticked, responder_tick}
use Rattle.bac_transaction.specs.Sends.{Datagram, IsSent, Pairwise, to_all}
use Rattle.bac_transaction.specs.Views.{peer_key_view, settings_view, slot_view, slots_view}
use Rattle.bac_transaction.specs.declared.peer_key.PeerKey.{PeerKey}
use Rattle.bac_slots.specs.Ages.{AreQuiet, changed, ticked_in}
use Rattle.bac_transaction.proofs.Keyed.{filter_viewed}
use Rattle.bac_transaction.proofs.Telling.{told_none}
use Rattle.bac_responder.specs.Timers.{IsQuiet}
use Rattle.bac_responder.specs.Aging.{entry_ticked}
use Rattle.bac_responder.specs.Views.{end_of}
use Rattle.bac_responder.proofs.TimerLaws.{stays}

abbrev Slots : Type 0
Slots = List (Slot PeerKey ServerTransaction)

pub ticked_viewed : (c : Settings) (now : ℕ) (slots : Slots)
    → slots_view (map (changed (ticked_in entry_ticked c now)) slots) ≡ map (server_ticked (settings_view c) now) (slots_view slots)
ticked_viewed c now [] = refl
ticked_viewed c now (s ∷ slots) = ap (λ l. server_ticked (settings_view c) now (slot_view s) ∷ l) (ticked_viewed c now slots)

-- the slots after it: all that went on, but those that are not live
pub left_viewed : (c : Settings) (now : ℕ) (old ticked new : Slots) → ticked ≡ map (changed (ticked_in entry_ticked c now)) old
    → new ≡ filter (λ s. is_live now s.value) ticked → slots_view new ≡ filter (is_slot_live now) (map (server_ticked (settings_view c) now) (slots_view old))
left_viewed c now old ticked new all left =
    ap slots_view left ∙ filter_viewed ServerTransaction (is_live now) ticked
    ∙ ap (filter (is_slot_live now)) (ap slots_view all ∙ ticked_viewed c now old)

pub committed : (c : Settings) (now : ℕ) (old ticked new : Slots) (capacity most room : ℕ) (restart : Option ℕ)
    → ticked ≡ map (changed (ticked_in entry_ticked c now)) old → new ≡ filter (λ s. is_live now s.value) ticked → most ≡ capacity → room ≡ most
    → end_of new room restart ≡ (responder_tick (settings_view c) now (end_of old capacity restart)).end
committed c now old ticked new capacity most room restart all left same again =
    let with_slots : List ServerSlot → ℕ → ServerEnd = λ l k. record { slots = l; capacity = k; serves_from = first_after KEEP restart } in
    ap (λ l. with_slots l room) (left_viewed c now old ticked new all left)
    ∙ ap (λ k. with_slots (filter (is_slot_live now) (map (server_ticked (settings_view c) now) (slots_view old))) k) (again ∙ same)

pub nothing_due : (c : Settings) (now from due : ℕ) (started : from ≤ now) (before : now < due) (slots : Slots) (capacity : ℕ) (restart : Option ℕ) (sent : List Datagram)
    → AreQuiet IsQuiet from due slots → sent ≡ [] → Pairwise IsSent (responder_tick (settings_view c) now (end_of slots capacity restart)).sends sent
nothing_due c now from due started before slots capacity restart sent q no_sent =
    told_none ServerTransaction IsSent (server_tick_sends (settings_view c) now) slots sent
    (each_more (λ s. IsQuiet from due s.value) (λ s. server_tick_sends (settings_view c) now (slot_view s) ≡ []) slots
    (λ s h. ap (λ r. to_all (peer_key_view s.key).peer r.sends) (stays (context_of (settings_view c) now (peer_key_view s.key)) from due started before s.value h)) q) no_sent
