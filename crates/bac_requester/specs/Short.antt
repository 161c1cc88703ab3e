-- What the client's end keeps of replies in segments.
use Rattle.std.specs.Prelude.{◌≤◌, List, length}
use Rattle.bac_slots.specs.Slots.{EachSlot}
use Rattle.bac_segment.specs.Limits.{DATA}
use Rattle.bac_segment.specs.Pieces.{join}
use Rattle.bac_protocol.specs.Client.{ClientTransaction}
use Rattle.bac_transaction.specs.Ends.{ClientSlot, TransactionSlot}
use Rattle.bac_requester.specs.Transitions.{parts_taken}

-- a ticket keeps at most 65,535 octets of its reply, in at most 65,535 segments
pub record IsReplyShort (t : ClientTransaction) : Type 0 where
  pub octets : length (join (parts_taken t.phase)) ≤ DATA
  pub segments : length (parts_taken t.phase) ≤ DATA

-- of a ticket that has ended no segments are kept
abbrev pub IsHeldShort : TransactionSlot → Type 0
IsHeldShort (TransactionSlot.Open t) = IsReplyShort t
IsHeldShort (TransactionSlot.Closed first) = Unit {0}

-- so it is in each slot
abbrev pub AreRepliesShort : List ClientSlot → Type 0
AreRepliesShort slots = EachSlot (λ s. IsHeldShort s.value.held) slots
