-- What contracts see of the types in code.
use Rattle.std.specs.Prelude.{ℕ, List, Option}
use Rattle.std.specs.Option.{option_map}
use Rattle.bac_slots.specs.declared.slot.Slot.{Slot}
use Rattle.bac_protocol.specs.Server.{ServerTransaction}
use Rattle.bac_protocol.specs.declared.times.TheConstants.{KEEP}
use Rattle.bac_transaction.specs.Ends.{ServerEnd, first_after}
use Rattle.bac_transaction.specs.Views.{peer_key_view, slots_view}
use Rattle.bac_transaction.specs.declared.peer_key.PeerKey.{PeerKey}
use Rattle.bac_responder.specs.TransactionViews.{effect_view}
use Rattle.bac_responder.specs.Turns.{Acted}
use Rattle.bac_responder.specs.declared.served.Act.{Act}

abbrev pub act_view : Act → Acted
act_view a = record { key = peer_key_view a.key; performed = effect_view a.effect }

abbrev pub acted_view : Option Act → Option Acted
acted_view a = option_map act_view a

-- a table as an end
abbrev pub end_of : (slots : List (Slot PeerKey ServerTransaction)) → (capacity : ℕ) → (restart : Option ℕ) → ServerEnd
end_of slots capacity restart = record { slots = slots_view slots; capacity = capacity; serves_from = first_after KEEP restart }
