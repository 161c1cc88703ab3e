use Rattle.std.proofs.Common.{arith, ap, sym, length, ◌∙◌}
use Rattle.bac_value.proofs.Joined.{passed}
use Rattle.bac_value.proofs.parts.settled.Goals as goal

pub loop-part-preserved : goal.loop-part-preserved
loop-part-preserved c =
    let inv = c.loop-part.invariant in
    let more = passed c.loop-part.rest.now c.in-Some.after.now c.in-Some.part.now c.deref-in-Some.result.now _ c.loop-part.over
    c.slice_len-over.result c.args.len c.in-Some.ensures.cases.0 c.deref-in-Some.ensures.value c.slice_len-over.ensures.count
    (omega (
      arith,
      c.if-over-slice_len.false,
      c.slice_len.ensures.count,
      c.slice_len-over.ensures.count,
      ap length (c.deref.ensures.value ∙ sym c.deref-in-Some.ensures.value),
    )) inv.same inv.counted inv.each in
    record { less = omega (arith, inv.less); same = more.0; counted = more.1; each = more.2 }
