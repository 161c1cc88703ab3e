-- What contracts see of the table and of an ending.
use Rattle.std.specs.Prelude.{ℕ, List}
use Rattle.bac_slots.specs.declared.slot.Slot.{Slot}
use Rattle.bac_transaction.specs.Ends.{Client, ClientEnd}
use Rattle.bac_transaction.specs.Meanings as meanings
use Rattle.bac_transaction.specs.Views.{slots_view}
use Rattle.bac_transaction.specs.declared.peer_key.PeerKey.{PeerKey}
use Rattle.bac_requester.specs.TransactionViews.{ending_view}
use Rattle.bac_requester.specs.declared.reaction.Ended.{Ended}

-- the end whose table has these slots
abbrev pub end_of : List (Slot PeerKey Client) → (capacity asked asks_from first_id : ℕ) → ClientEnd
end_of slots capacity asked asks_from first_id =
    record { slots = slots_view slots; capacity = capacity; asked = asked; asks_from = asks_from; first_id = first_id }

abbrev pub ended_view : Ended → meanings.EndedView
ended_view e = record { ticket = e.ticket; how = ending_view e.ending }
