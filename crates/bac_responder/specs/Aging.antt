-- How entries age, and what a table's slots are to the server's end.
use Rattle.std.specs.Prelude.{ℕ, List, Some}
use Rattle.bac_slots.specs.declared.slot.Slot.{Slot}
use Rattle.bac_protocol.specs.Server.{ServerTransaction, server_ticks}
use Rattle.bac_responder.specs.Timers.{IsQuiet}
use Rattle.bac_transaction.specs.Ends.{context_of, entry_or}
use Rattle.bac_transaction.specs.Views.{peer_key_view, settings_view}
use Rattle.bac_transaction.specs.declared.peer_key.PeerKey.{PeerKey}
use Rattle.bac_transaction.specs.declared.settings.Settings.{Settings}
use Rattle.bac_slots.specs.Ages.{IsAged}
use Rattle.bac_slots.specs.declared.ages.Ages.{Ages}

-- a slot's life begins with its entry
abbrev pub began : ServerTransaction → ℕ
began e = e.begin

-- an entry after a tick
abbrev pub entry_ticked : Settings → (now : ℕ) → PeerKey → ServerTransaction → ServerTransaction
entry_ticked c now key e = entry_or e (server_ticks (context_of (settings_view c) now (peer_key_view key)) (Some e)).entry

-- what is known of the ages of a server's slots
abbrev pub AreAged : Ages → List (Slot PeerKey ServerTransaction) → Type 0
AreAged ages slots = IsAged PeerKey ServerTransaction began IsQuiet ages slots
