-- One more slot is held, or is not; and the first one that is too many.
use Rattle.std.proofs.Common.{◌≡◌, ℕ, ◌+◌, ◌<◌, ◌≤◌, Bool, cond, count_by, ap, sym, arith, length}
use Rattle.std.proofs.lemmas.Bool.Decides.{nat_tests}
use Rattle.bac_slots.specs.declared.slot.Slot.{Slot}
use Rattle.bac_slots.proofs.Swept.{count_more}
use Rattle.bac_protocol.specs.Server.{ServerTransaction}
use Rattle.bac_transaction.specs.declared.peer_key.PeerKey.{PeerKey}
use Rattle.bac_responder.specs.Sharing.{is_held}
use Rattle.bac_responder.proofs.Shares.{first_few, slot_there}
use Rattle.bac_responder.proofs.sharing.holds_at_most.Goals as goal
use Rattle.bac_responder.proofs.sharing.holds_at_most.Goals.{then-is_held_at+else-held-most, else-is_held_at}

pub loop-n-preserved : goal.loop-n-preserved
loop-n-preserved g c =
    let within : c.loop-n.n < length (g.S.SlotTable.slots c.args.table.now) = omega (arith, c.loop-n-test.true, c.loop-n.invariant.ends) in
    let s = slot_there c.loop-n.n (g.S.SlotTable.slots c.args.table.now) within in
    let is = c.is_held_at.ensures s.0 s.1 in
    let more = count_more _ (is_held c.args.now c.args.link.now) c.loop-n.n (g.S.SlotTable.slots c.args.table.now) s.0 c.is_held_at.result s.1 (sym is) in
    let step : c.if-is_held_at.held ≡ c.loop-n.held + cond c.is_held_at.result 1 0 = elim c.if-is_held_at.branch [
      | then-is_held_at+else-held-most w ↦ let one = ap {B = ℕ} (λ (b : Bool). cond b 1 0) w.if-is_held_at.true in omega (arith, w.held-is, one)
      | else-is_held_at w ↦ let none = ap {B = ℕ} (λ (b : Bool). cond b 1 0) w.if-is_held_at.false in omega (arith, w.held-is, none)
    ] in
    let few : c.if-is_held_at.held ≤ c.args.most = elim c.if-is_held_at.branch [
      | then-is_held_at+else-held-most w ↦ omega (arith, w.held-is, w.if-held-most.false)
      | else-is_held_at w ↦ omega (arith, w.held-is, c.loop-n.invariant.few)
    ] in
    record {
      held = omega (arith, step, more, c.loop-n.invariant.held);
      few = few;
      ends = c.loop-n.invariant.ends;
    }

pub returns-then-held-most : goal.returns-then-held-most
returns-then-held-most g c =
    let slots = g.S.SlotTable.slots c.args.table.now in
    let within : c.loop-n.n < length slots = omega (arith, c.loop-n-test.true, c.loop-n.invariant.ends) in
    let s = slot_there c.loop-n.n slots within in
    let is = c.is_held_at.ensures s.0 s.1 in
    let more = count_more _ (is_held c.args.now c.args.link.now) c.loop-n.n slots s.0 c.is_held_at.result s.1 (sym is) in
    let one = ap {B = ℕ} (λ (b : Bool). cond b 1 0) c.if-is_held_at.true in
    let few = first_few (Slot PeerKey ServerTransaction) (is_held c.args.now c.args.link.now) (c.loop-n.n + 1) slots in
    let over : c.args.most < count_by (is_held c.args.now c.args.link.now) slots =
    omega (arith, more, one, few, c.if-held-most.true, c.loop-n.invariant.held) in
    grind (arith, nat_tests, over)
