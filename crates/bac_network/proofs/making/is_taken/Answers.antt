-- One node after the other is looked at.
use Rattle.std.proofs.Common.{◌≡◌, ◌<◌, true, false, length, refl, arith}
use Rattle.std.proofs.lemmas.Option.{slice_get_read}
use Rattle.bac_network.proofs.Makers.{taken_more}
use Rattle.bac_network.proofs.making.is_taken.Goals as goal

pub returns-then-is_linked : goal.returns-then-is_linked
returns-then-is_linked c =
    let lt : c.loop-i.i < length c.args.makers.now = omega arith in (
      λ t. record {
        before = c.loop-i.i;
        maker = c.index-makers-i.result;
        below = omega arith;
        at = slice_get_read c.args.makers.now _ c.loop-i.i c.index-makers-i.result refl lt c.index-makers-i.is;
        same = c.if-is_linked.ensures.0 refl;
      },
      λ h. refl,
    )

pub loop-i-preserved : goal.loop-i-preserved
loop-i-preserved c =
    let lt : c.loop-i.i < length c.args.makers.now = omega arith in
    taken_more c.args.makers.now c.loop-i.i c.args.link c.index-makers-i.result
    (slice_get_read c.args.makers.now _ c.loop-i.i c.index-makers-i.result refl lt c.index-makers-i.is)
    (λ e. (let t : false ≡ true = c.if-is_linked.ensures.1 e in cc)) c.loop-i.invariant
