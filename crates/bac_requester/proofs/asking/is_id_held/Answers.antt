-- A held slot at the rank of the key, another one, or none.
use Rattle.bac_slots.specs.declared.slot.Slot.{Slot}
use Rattle.bac_transaction.specs.Ends.{Client}
use Rattle.bac_transaction.specs.declared.peer_key.PeerKey.{PeerKey}
use Rattle.bac_requester.proofs.Ids.{stands, stands_none}
use Rattle.bac_requester.proofs.asking.is_id_held.Goals as goal

pub returns-in-Some : goal.returns-in-Some
returns-in-Some g c =
    let s : Slot PeerKey Client = record { key = c.in-Some.found; begin = c.in-Some.field-0-1; value = c.in-Some.client.now } in
    stands c.args.now c.args.peer.now (g.S.SlotTable.slots c.args.table.now) c.len-slots.ensures.distinct c.args.invoke_id c.args.place c.requires
    c.ranks_of_keys.ensures.here c.ranks_of_keys.ensures.other s c.is_held_as.result c.in-Some.ensures c.is_held_as.ensures

pub returns-in-None : goal.returns-in-None
returns-in-None g c =
    stands_none c.args.now c.args.peer.now (g.S.SlotTable.slots c.args.table.now) c.len-slots.ensures.distinct c.args.invoke_id c.args.place c.requires
    c.ranks_of_keys.ensures.past c.in-None.ensures
