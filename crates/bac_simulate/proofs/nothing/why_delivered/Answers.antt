use Rattle.std.proofs.Common.{◌+◌, ◌<◌, length, refl, arith}
use Rattle.std.proofs.lemmas.List.{take_rest}
use Rattle.std.proofs.lemmas.Option.{slice_get_read}
use Rattle.bac_simulate.proofs.ToldTexts.{why_is}
use Rattle.bac_simulate.proofs.nothing.why_delivered.Goals as goal

pub returns : goal.returns
returns c =
    let copies = c.copies-copies.result.now in
    let number = c.args.number in
    let k = c.index-copies-number.result in
    let lt : number < length copies = omega arith in
    why_is _ _ _ number _ c.args.world.now copies _ k _ _ _ c.copies-copies.ensures
    (slice_get_read copies _ number k refl lt c.index-copies-number.is) (take_rest copies (number + 1)) c.count_of-later.ensures.is c.overtake.ensures
    c.life.ensures c.now.ensures c.is_young-is_young.ensures c.are_few.ensures c.why_copy.ensures
