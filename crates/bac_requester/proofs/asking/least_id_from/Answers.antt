-- One more invoke ID.
use Rattle.std.proofs.Common.{ℕ, ◌+◌, ◌-◌, ◌∙◌, ap, sym, arith}
use Rattle.bac_npdu.specs.Views.{peer_view}
use Rattle.bac_slots.specs.Slots.{rank}
use Rattle.bac_transaction.specs.Ends.{is_id_held, least_not}
use Rattle.bac_transaction.specs.Views.{code_key_cmp, slots_view}
use Rattle.bac_requester.proofs.Accepting.{least_more, least_found, least_none}
use Rattle.bac_requester.proofs.Ids.{key_at, next_place, rank_within}
use Rattle.bac_requester.proofs.asking.least_id_from.Goals as goal

pub loop-n-init : goal.loop-n-init
loop-n-init g c =
    let slots = g.S.SlotTable.slots c.args.table.now in
    record {
      least = ap (λ (k : ℕ). least_not (is_id_held c.args.now (slots_view slots) (peer_view c.args.peer.now)) (256 - k) k) c.from-n.ensures;
      place = c.rank-place.ensures ∙ ap (λ (k : ℕ). rank code_key_cmp (key_at c.args.peer.now k) slots) (sym c.from-n.ensures);
    }

pub is_id_held-requires : goal.is_id_held-requires
is_id_held-requires g c = c.loop-n.invariant.place

pub returns-then-not-is_id_held : goal.returns-then-not-is_id_held
returns-then-not-is_id_held g c =
    least_found (is_id_held c.args.now (slots_view (g.S.SlotTable.slots c.args.table.now)) (peer_view c.args.peer.now)) c.loop-n.n _
    (omega (arith, c.loop-n-test.true)) c.loop-n.invariant.least (sym c.is_id_held.ensures ∙ c.if-not-is_id_held.true)

pub overflow_add-place : goal.overflow_add-place
overflow_add-place g c =
    let next = next_place c.args.now c.args.peer.now (g.S.SlotTable.slots c.args.table.now) c.len-slots.ensures.distinct c.loop-n.n c.loop-n.place
    c.loop-n.invariant.place c.ranks_of_keys.ensures.next (sym c.is_id_held.ensures ∙ c.if-not-is_id_held.false) in
    let within = rank_within (key_at c.args.peer.now (c.loop-n.n + 1)) (g.S.SlotTable.slots c.args.table.now) in
    let number = c.len-slots.ensures.number in
    omega (arith, next, within, number)

pub loop-n-preserved : goal.loop-n-preserved
loop-n-preserved g c =
    record {
      least = least_more (is_id_held c.args.now (slots_view (g.S.SlotTable.slots c.args.table.now)) (peer_view c.args.peer.now)) c.loop-n.n _
          (omega (arith, c.loop-n-test.true)) c.loop-n.invariant.least (sym c.is_id_held.ensures ∙ c.if-not-is_id_held.false);
      place = next_place c.args.now c.args.peer.now (g.S.SlotTable.slots c.args.table.now) c.len-slots.ensures.distinct c.loop-n.n c.loop-n.place
          c.loop-n.invariant.place c.ranks_of_keys.ensures.next (sym c.is_id_held.ensures ∙ c.if-not-is_id_held.false);
    }

pub returns : goal.returns
returns g c =
    least_none (is_id_held c.args.now (slots_view (g.S.SlotTable.slots c.args.table.now)) (peer_view c.args.peer.now)) c.loop-n.n _
    (omega (arith, c.loop-n-test.false)) c.loop-n.invariant.least
