use Rattle.std.proofs.Common.{arith, reverse, sym, ap, length, ◌∙◌}
use Rattle.std.proofs.lemmas.Bool.{eqb-true, eqb-false}
use Rattle.std.proofs.lemmas.List.{length-reverse}
use Rattle.bac_value.specs.Reading.{data_of}
use Rattle.bac_value.proofs.Turns.{on_more, at_stop, at_fault, at_end, at_end_inside, fault_here, fault_at_end}
use Rattle.bac_value.proofs.data_reading.data_end.Goals as goal

pub loop-opened-preserved : goal.loop-opened-preserved
loop-opened-preserved g c =
    let octets = g.O.Octets.octets in
    let inv = c.loop-opened.invariant in
    let e = rw c.in-Ok-Some.field-0-is at c.in-Ok-Some.ensures in
    let s = on_more inv.same.0 (reverse c.loop-opened.opened.items) (octets c.loop-opened.rest) (reverse c.step.new.opened.items)
    (octets c.in-Ok-Some.next) (data_of (octets c.args.octets)) _ e.onward inv.same.1 e.reads inv.same.2 inv.same.3 in
    let t = c.pass.ensures.onward s.0 s.1 in
    record {
      fewer = omega (arith, e.onward, inv.fewer, c.pass.ensures.fewer);
      same = (t.0, t.1, t.2 ∙ s.2, t.3 ∙ s.3);
      over = c.pass.ensures.over;
    }

pub returns-then-is_over : goal.returns-then-is_over
returns-then-is_over g c =
    let octets = g.O.Octets.octets in
    let inv = c.loop-opened.invariant in
    let s = inv.same in
    let over = inv.over c.if-is_over.true in (
      inv.fewer,
      at_stop s.0 (reverse c.loop-opened.opened.items) (octets c.loop-opened.rest) (data_of (octets c.args.octets)) over.0 s.1 over.1 s.2,
    )

pub returns-in-Ok-None : goal.returns-in-Ok-None
returns-in-Ok-None g c =
    let octets = g.O.Octets.octets in
    let inv = c.loop-opened.invariant in
    let s = inv.same in
    let h = rw c.in-Ok-None.field-0-is at c.in-Ok-None.ensures in (
      inv.fewer,
      at_stop s.0 (reverse c.loop-opened.opened.items) (octets c.loop-opened.rest) (data_of (octets c.args.octets))
          (omega (arith, c.len.ensures.count, c.loop-opened-test.true)) s.1 h.reads s.2,
    )

pub returns-in-Err : goal.returns-in-Err
returns-in-Err g c =
    let octets = g.O.Octets.octets in
    let s = c.loop-opened.invariant.same in
    let here = fault_here s.0 (reverse c.loop-opened.opened.items) (octets c.loop-opened.rest) _ c.in-Err.kind
    (omega (arith, c.len.ensures.count, c.loop-opened-test.true)) s.1 c.in-Err.ensures.reads s.3 in (
      omega arith,
      at_fault s.0 (reverse c.loop-opened.opened.items) (octets c.loop-opened.rest) (data_of (octets c.args.octets)) c.in-Err.kind
          (omega (arith, c.len.ensures.count, c.loop-opened-test.true)) s.1 c.in-Err.ensures.reads s.2,
      omega (arith, c.len-all.ensures.count, c.len.ensures.count, ap length here),
    )

pub returns-then-is_empty : goal.returns-then-is_empty
returns-then-is_empty g c =
    let octets = g.O.Octets.octets in
    let inv = c.loop-opened.invariant in
    let s = inv.same in
    let empty = eqb-true _ _ (sym c.if-is_empty.ensures) in (
      inv.fewer,
      at_end s.0 (reverse c.loop-opened.opened.items) (octets c.loop-opened.rest) (data_of (octets c.args.octets))
          (omega (arith, length-reverse c.loop-opened.opened.items, empty)) (omega (arith, c.len.ensures.count, c.loop-opened-test.false))
          (omega (arith, s.1)) s.2,
    )

pub returns-else-is_empty : goal.returns-else-is_empty
returns-else-is_empty g c =
    let octets = g.O.Octets.octets in
    let s = c.loop-opened.invariant.same in
    let some = eqb-false _ _ (sym c.if-is_empty.ensures) in
    let end = fault_at_end s.0 (reverse c.loop-opened.opened.items) (octets c.loop-opened.rest) _ (omega (arith, c.len.ensures.count, c.loop-opened-test.false))
    (omega (arith, s.1)) s.3 in (
      omega arith,
      at_end_inside s.0 (reverse c.loop-opened.opened.items) (octets c.loop-opened.rest) (data_of (octets c.args.octets))
          (omega (arith, length-reverse c.loop-opened.opened.items, some)) (omega (arith, c.len.ensures.count, c.loop-opened-test.false))
          (omega (arith, s.1)) s.2,
      omega (arith, c.len-all.ensures.count, end),
    )
