-- What the server's end keeps of requests in segments.
use Rattle.std.specs.Prelude.{◌≤◌, List, length}
use Rattle.bac_slots.specs.Slots.{EachSlot}
use Rattle.bac_segment.specs.Limits.{DATA}
use Rattle.bac_segment.specs.Pieces.{join}
use Rattle.bac_protocol.specs.Server.{ServerTransaction}
use Rattle.bac_transaction.specs.Ends.{ServerSlot}
use Rattle.bac_responder.specs.Reactions.{parts_taken}

-- an entry keeps at most 65,535 octets of its request, in at most 65,535 segments
pub record IsRequestShort (e : ServerTransaction) : Type 0 where
  pub octets : length (join (parts_taken e.state)) ≤ DATA
  pub segments : length (parts_taken e.state) ≤ DATA

-- so it is in each slot, whether its entry is live or not
abbrev pub AreRequestsShort : List ServerSlot → Type 0
AreRequestsShort slots = EachSlot (λ s. IsRequestShort s.value) slots
