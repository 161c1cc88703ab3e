-- What the table says of its slots, the end says.
use Rattle.std.proofs.Common.{◌≡◌, ◌<◌, ℕ, List, count_by, length, sym, subst, arith}
use Rattle.bac_slots.specs.declared.slot.Slot.{Slot}
use Rattle.bac_protocol.specs.Server.{ServerTransaction}
use Rattle.bac_transaction.specs.Ends.{is_slot_live}
use Rattle.bac_transaction.specs.Views.{slots_view}
use Rattle.bac_transaction.specs.declared.peer_key.PeerKey.{PeerKey}
use Rattle.bac_responder.specs.Timers.{LAST_MOMENT}
use Rattle.bac_responder.proofs.NextFree.{free_then, full_before}
use Rattle.bac_responder.proofs.responder.Responder.next_free.Goals as goal

pub returns-clause-full : goal.returns-clause-full
returns-clause-full g c =
    let slots : List (Slot PeerKey ServerTransaction) = g.S.SlotTable.slots c.self.inside.aged.table in
    let capacity : ℕ = g.S.SlotTable.capacity c.self.inside.aged.table in
    let all : capacity ≡ length slots = omega (arith, c.if-len-room.false, c.len.ensures.number, c.len.ensures.within, c.room.ensures) in
    rw (← c.self.view_is) (λ moment started before. full_before slots capacity all c.args.from c.first_dead.result c.first_dead.ensures moment started
    (subst (λ m. moment < m) c.max.ensures before))

pub returns-clause-free : goal.returns-clause-free
returns-clause-free g c =
    let slots : List (Slot PeerKey ServerTransaction) = g.S.SlotTable.slots c.self.inside.aged.table in
    let capacity : ℕ = g.S.SlotTable.capacity c.self.inside.aged.table in
    let all : capacity ≡ length slots = omega (arith, c.if-len-room.false, c.len.ensures.number, c.len.ensures.within, c.room.ensures) in
    rw (← c.self.view_is) (λ below. subst (λ m. count_by (is_slot_live m) (slots_view slots) < capacity) (sym c.max.ensures)
    (free_then slots capacity all c.args.from c.first_dead.result c.first_dead.ensures (subst (λ m. m < LAST_MOMENT) c.max.ensures below)))
