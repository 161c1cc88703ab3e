-- The examples, computed.
use Rattle.std.proofs.Common.{refl}
use Rattle.bac_transaction.specs.Examples.{LeastInvokeId, LeastAround, HeldFor, SlotHeldFor, TickOrder, KeptReply, FullTable, WaitsToAsk, WaitsToServe}

pub least_invoke_id : LeastInvokeId
least_invoke_id = record { gap = refl; other_peer = refl }

pub least_around : LeastAround
least_around = record { first = refl; last = refl; around = refl; gap = refl }

pub held_for : HeldFor
held_for = record { last = refl; after = refl }

pub slot_held_for : SlotHeldFor
slot_held_for = record { last = refl; after = refl }

pub tick_order : TickOrder
tick_order = refl

pub kept_reply : KeptReply
kept_reply = refl

pub full_table : FullTable
full_table = record { full = refl; replaced = refl; performed = refl }

pub waits_to_ask : WaitsToAsk
waits_to_ask = record { last = refl; after = refl }

pub waits_to_serve : WaitsToServe
waits_to_serve = record { last = refl; after = refl }
