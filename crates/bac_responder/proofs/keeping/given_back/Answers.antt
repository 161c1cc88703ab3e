-- One more slot, and all that were looked at.
use Rattle.std.proofs.Common.{◌<◌, ◌≤◌, ◌+◌, List, length, arith}
use Rattle.bac_slots.specs.declared.slot.Slot.{Slot}
use Rattle.bac_protocol.specs.Server.{ServerTransaction}
use Rattle.bac_transaction.specs.declared.peer_key.PeerKey.{PeerKey}
use Rattle.bac_responder.specs.Kept.{given_back}
use Rattle.bac_responder.proofs.KeptWithin.{live_and_back}
use Rattle.bac_responder.proofs.Sums.{part_next}
use Rattle.bac_responder.proofs.keeping.given_back.Goals as goal

pub loop-n-preserved : goal.loop-n-preserved
loop-n-preserved g c =
    let slots : List (Slot PeerKey ServerTransaction) = g.S.SlotTable.slots c.args.table.now in
    let within : c.loop-n.n < length slots = omega (arith, c.loop-n-test.true, c.loop-n.invariant.ends) in
    let sum : c.saturating_add-octets.result ≤ c.loop-n.octets + c.in-Some.more = omega (arith, c.saturating_add-octets.ensures) in
    record {
      sum = part_next (given_back c.args.now) c.loop-n.n c.loop-n.octets c.in-Some.more c.saturating_add-octets.result slots c.loop-n.invariant.sum within
          c.in-Some.ensures sum;
      ends = c.loop-n.invariant.ends;
    }

pub returns-in_default : goal.returns-in_default
returns-in_default g c =
    let all = live_and_back c.args.now c.loop-n.n (g.S.SlotTable.slots c.args.table.now) in
    omega (arith, all, c.loop-n.invariant.sum)

pub returns : goal.returns
returns g c =
    let all = live_and_back c.args.now c.loop-n.n (g.S.SlotTable.slots c.args.table.now) in
    omega (arith, all, c.loop-n.invariant.sum)
