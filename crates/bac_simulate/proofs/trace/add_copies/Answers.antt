use Rattle.std.proofs.Common.{◌<◌, ◌∙◌, length, refl, arith}
use Rattle.std.proofs.lemmas.Option.{slice_get_read}
use Rattle.bac_simulate.proofs.Tracing.{copy_added}
use Rattle.bac_simulate.proofs.trace.add_copies.Goals as goal

pub loop-number-preserved : goal.loop-number-preserved
loop-number-preserved c =
    let at = c.loop-number in
    let k = c.index-copies-number.result in
    let lt : at.number < length c.args.copies.now = omega arith in
    copy_added c.args.parts c.args.copies.now at.number k (slice_get_read c.args.copies.now _ at.number k refl lt c.index-copies-number.is) at.marks.items
    c.push.new.self.items c.in_ok-arrow.arrow c.in_ok-arrow.ensures c.in_ok-push.ensures.items
    ∙ at.invariant
