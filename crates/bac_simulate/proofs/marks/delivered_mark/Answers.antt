use Rattle.std.proofs.Common.{◌+◌, ◌<◌, length, refl, arith}
use Rattle.std.proofs.lemmas.List.{take_rest}
use Rattle.std.proofs.lemmas.Option.{slice_get_read}
use Rattle.bac_simulate.proofs.Tracing.{delivered}
use Rattle.bac_simulate.proofs.marks.delivered_mark.Goals as goal

pub returns : goal.returns
returns c =
    let copies = c.copies-copies.result.now in
    let number = c.args.number in
    let k = c.index-copies-number.result in
    let lt : number < length copies = omega arith in
    delivered _ _ _ _ _ number _ c.args.world.now copies _ k _ _ c.copies-copies.ensures
    (slice_get_read copies _ number k refl lt c.index-copies-number.is) (take_rest copies (number + 1)) c.count_of-later.ensures.is c.overtake.ensures
    c.life.ensures c.now.ensures c.ms_now.ensures c.parts_in.ensures.is c.may_come-comes.ensures c.in_ok-mark.ensures
