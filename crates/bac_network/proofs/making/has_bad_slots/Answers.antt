-- One node after the other is looked at.
use Rattle.std.proofs.Common.{◌≡◌, ◌<◌, true, false, length, refl, sym, arith}
use Rattle.std.proofs.lemmas.Option.{slice_get_read}
use Rattle.bac_network.proofs.Makers.{place_within, slots_more}
use Rattle.bac_network.proofs.making.has_bad_slots.Goals as goal

pub returns-then-not-has_slots : goal.returns-then-not-has_slots
returns-then-not-has_slots c =
    let lt : c.loop-maker.maker-index < length c.args.makers.now = omega arith in (
      λ t. record {
        place = c.loop-maker.maker-index;
        maker = c.maker-item.result;
        at = slice_get_read c.args.makers.now _ c.loop-maker.maker-index c.maker-item.result refl lt c.maker-item.is;
        bad = sym c.if-not-has_slots.ensures;
      },
      λ h. refl,
    )

pub loop-maker-preserved : goal.loop-maker-preserved
loop-maker-preserved c =
    let lt : c.loop-maker.maker-index < length c.args.makers.now = omega arith in
    slots_more c.args.most c.args.makers.now c.loop-maker.maker-index c.maker-item.result
    (slice_get_read c.args.makers.now _ c.loop-maker.maker-index c.maker-item.result refl lt c.maker-item.is) (sym c.if-not-has_slots.ensures)
    c.loop-maker.invariant

pub returns : goal.returns
returns c = (
  λ t. (let e : false ≡ true = t in cc),
  λ h. absurd (c.loop-maker.invariant h (let lt = place_within c.args.makers.now h.place h.maker h.at in omega (arith, lt, c.loop-maker-test.false))),
)
