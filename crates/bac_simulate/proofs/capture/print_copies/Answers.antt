use Rattle.std.proofs.Common.{◌<◌, length, refl, arith}
use Rattle.std.proofs.lemmas.Option.{slice_get_read}
use Rattle.bac_simulate.proofs.News.{record_more, no_record_more}
use Rattle.bac_simulate.proofs.capture.print_copies.Goals as goal

pub loop-number-preserved : goal.loop-number-preserved
loop-number-preserved g c =
    let at = c.loop-number in
    let k = c.index-copies-number.result in
    let lt : at.number < length c.args.copies.now = omega arith in
    λ end h. at.invariant end (record_more c.args.parts c.args.copies.now at.number k
    (slice_get_read c.args.copies.now _ at.number k refl lt c.index-copies-number.is) _ _ end c.in_ok-print_copy.ensures h)

pub returns : goal.returns
returns g c = c.loop-number.invariant _ (no_record_more c.args.parts c.args.copies.now c.loop-number.number (omega arith) _)
