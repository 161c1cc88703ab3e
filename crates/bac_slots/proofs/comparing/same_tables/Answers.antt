-- All slots are equal.
use Rattle.std.proofs.Common.{◌∙◌, refl, sym, arith}
use Rattle.bac_slots.specs.Slots.{slot_seen}
use Rattle.bac_slots.proofs.Swept.{same_lists, seen_same}
use Rattle.bac_slots.proofs.comparing.same_tables.Goals as goal

pub returns : goal.returns
returns g c =
    let long = sym c.len.ensures.number ∙ c.if-len.false ∙ c.len-2.ensures.number in (
      (λ _. (
        same_lists (slot_seen g.K.Same.seen g.T.Same.seen) (g.S.SlotTable.slots c.args.one.now) (g.S.SlotTable.slots c.args.other.now) long
            (λ k l. c.loop-n.invariant k (omega (arith, l, c.loop-n-test.false, c.len-n-end.ensures.number))),
        sym c.room.ensures ∙ c.if-room.false ∙ c.room-2.ensures,
      )),
      λ _. refl,
    )

pub returns-then-not-same_at : goal.returns-then-not-same_at
returns-then-not-same_at g c = (
  λ e. absurd cc,
  λ same. let yes = c.same_at.ensures.1 (seen_same (slot_seen g.K.Same.seen g.T.Same.seen) (g.S.SlotTable.slots c.args.one.now)
      (g.S.SlotTable.slots c.args.other.now) c.loop-n.n same.0) in let no = c.if-not-same_at.true in let is = c.if-not-same_at.ensures in cc,
)
