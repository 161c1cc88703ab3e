-- How the values of a client's slots age.
use Rattle.std.specs.Prelude.{ℕ, List}
use Rattle.bac_slots.specs.declared.slot.Slot.{Slot}
use Rattle.bac_transaction.specs.Ends.{Client, TransactionSlot, context_of, held_ticked}
use Rattle.bac_transaction.specs.Views.{peer_key_view, settings_view}
use Rattle.bac_transaction.specs.declared.peer_key.PeerKey.{PeerKey}
use Rattle.bac_transaction.specs.declared.settings.Settings.{Settings}
use Rattle.bac_slots.specs.Ages.{IsAged}
use Rattle.bac_slots.specs.declared.ages.Ages.{Ages}
use Rattle.bac_requester.specs.Timers.{IsHeldQuiet, held_due}

-- the moment of the first sending, which an ended ticket keeps too
abbrev pub first_of : TransactionSlot → ℕ
first_of (TransactionSlot.Open t) = t.ask.first
first_of (TransactionSlot.Closed first) = first

-- a slot's life begins with the first sending of its ticket
abbrev pub began : Client → ℕ
began c = first_of c.held

-- the first moment at which a tick finds something to do for its ticket, or the last one of all
abbrev pub client_due : (from : ℕ) → Client → ℕ
client_due from c = held_due c.held

-- a tick before that moment finds nothing to do for its ticket
abbrev pub IsClientQuiet : (from due : ℕ) → Client → Type 0
IsClientQuiet from due c = IsHeldQuiet due c.held

-- a slot's value after a tick
abbrev pub value_ticked : Settings → (now : ℕ) → PeerKey → Client → Client
value_ticked c now key v = held_ticked (context_of (settings_view c) now (peer_key_view key)) v.number v.held

-- what is known of the ages of a client's slots
abbrev pub AreAged : Ages → List (Slot PeerKey Client) → Type 0
AreAged ages slots = IsAged PeerKey Client began IsClientQuiet ages slots
