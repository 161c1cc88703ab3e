-- One node after the other is looked at.
use Rattle.std.proofs.Common.{◌≡◌, ◌<◌, true, false, length, refl, sym, ap, subst, ◌∙◌, arith}
use Rattle.std.proofs.lemmas.Option.{slice_get_read}
use Rattle.bac_network.specs.Fresh.{Maker, IsTaken}
use Rattle.bac_network.proofs.Makers.{place_within, same_link_more}
use Rattle.bac_network.proofs.making.have_same_link.Goals as goal

pub returns-then-is_taken : goal.returns-then-is_taken
returns-then-is_taken c =
    let lt : c.loop-i.i < length c.args.makers.now = omega arith in
    let h = c.if-is_taken.ensures.0 refl in (
      λ t. record {
        first = h.before;
        second = c.loop-i.i;
        apart = h.below;
        one = h.maker;
        other = c.index-makers-i.result;
        at_first = h.at;
        at_second = slice_get_read c.args.makers.now _ c.loop-i.i c.index-makers-i.result refl lt c.index-makers-i.is;
        same = h.same ∙ sym (ap (λ (m : Maker). (m.0).link) c.index-makers-i.is);
      },
      λ k. refl,
    )

pub loop-i-preserved : goal.loop-i-preserved
loop-i-preserved c =
    let lt : c.loop-i.i < length c.args.makers.now = omega arith in
    same_link_more c.args.makers.now c.loop-i.i c.index-makers-i.result
    (slice_get_read c.args.makers.now _ c.loop-i.i c.index-makers-i.result refl lt c.index-makers-i.is)
    (λ h.
    (let t : false ≡ true =
    c.if-is_taken.ensures.1 (subst (IsTaken c.args.makers.now c.loop-i.i) (ap (λ (m : Maker). (m.0).link) c.index-makers-i.is) h) in cc)) c.loop-i.invariant

pub returns : goal.returns
returns c = (
  λ t. (let e : false ≡ true = t in cc),
  λ h. absurd (c.loop-i.invariant h (let lt = place_within c.args.makers.now h.second h.other h.at_second in omega (arith, lt, c.loop-i-test.false))),
)
