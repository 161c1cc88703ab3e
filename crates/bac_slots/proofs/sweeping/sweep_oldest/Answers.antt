-- One more slot passes or is removed, until one is young or none is left.
use Rattle.std.proofs.Common.{◌≡◌, ◌<◌, ◌∙◌, arith, refl, sym, ap, slice_get, subst, length, Some, List, filter}
use Rattle.bac_slots.specs.declared.slot.Slot.{Slot}
use Rattle.bac_slots.specs.Slots.{Ascends, YoungPass}
use Rattle.bac_slots.proofs.SlotAges.{PassBefore, pass_one, swept_all, swept_young, drop_filter, drop_before, drop_length, ascends_without, each_without}
use Rattle.bac_slots.proofs.sweeping.sweep_oldest.Goals as goal

pub loop-kept-init : goal.loop-kept-init
loop-kept-init g c =
    record {
      left = refl;
      passed = tt;
      within = omega arith;
      ascending = c.requires.ascending;
      young = c.requires.young;
      same = refl;
    }

pub returns-then-is_young-clause-slots : goal.returns-then-is_young-clause-slots
returns-then-is_young-clause-slots g c =
    let i = c.loop-kept.invariant in
    let inside : c.loop-kept.kept < length (g.S.SlotTable.slots c.loop-kept.table) = omega (arith, c.loop-kept-test.true, c.len.ensures.number) in
    swept_young (g.P.Test.passes c.args.test.now) c.args.bound _ _ c.loop-kept.kept c.is_young.result i.left i.passed i.ascending i.young inside
    c.is_young.ensures c.if-is_young.true

pub returns-then-is_young-clause-same : goal.returns-then-is_young-clause-same
returns-then-is_young-clause-same g c = c.loop-kept.invariant.same

pub loop-kept-smaller-in_default : goal.loop-kept-smaller-in_default
loop-kept-smaller-in_default g c = omega (arith, c.loop-kept-test.true, c.len.ensures.number)

pub loop-kept-preserved-in_default : goal.loop-kept-preserved-in_default
loop-kept-preserved-in_default g c =
    let i = c.loop-kept.invariant in
    record {
      left = i.left;
      passed = pass_one (g.P.Test.passes c.args.test.now) _ c.loop-kept.kept i.passed c.in_default.ensures;
      within = omega (arith, c.loop-kept-test.true, c.len.ensures.number);
      ascending = i.ascending;
      young = i.young;
      same = i.same;
    }

pub loop-kept-smaller : goal.loop-kept-smaller
loop-kept-smaller g c =
    let found = c.in-Some.ensures in
    let s : Slot _ _ = record { key = c.in-Some.key; begin = found.0.begin; value = found.0.value } in
    let at : slice_get (g.S.SlotTable.slots c.loop-kept.table) c.loop-kept.kept ≡ Some s =
    found.1 ∙ (λ i. Some (record { key = found.2 i; begin = found.0.begin; value = found.0.value })) in
    let fewer = drop_length (g.P.Test.passes c.args.test.now) g.K.PartialEq.eq g.met.K.Eq.laws (g.S.SlotTable.slots c.loop-kept.table) c.loop-kept.kept s at in
    let now = ap length c.take_out.ensures.slots in
    omega (arith, c.loop-kept-test.true, c.len.ensures.number, fewer, now)

pub loop-kept-preserved : goal.loop-kept-preserved
loop-kept-preserved g c =
    let i = c.loop-kept.invariant in
    let passes = g.P.Test.passes c.args.test.now in
    let old = g.S.SlotTable.slots c.loop-kept.table in
    let n = c.loop-kept.kept in
    let found = c.in-Some.ensures in
    let s : Slot _ _ = record { key = c.in-Some.key; begin = found.0.begin; value = found.0.value } in
    let at : slice_get old n ≡ Some s = found.1 ∙ (λ i. Some (record { key = found.2 i; begin = found.0.begin; value = found.0.value })) in
    let gone = c.take_out.ensures.slots in
    let fewer = drop_length passes g.K.PartialEq.eq g.met.K.Eq.laws old n s at in
    let now = ap length gone in
    record {
      left = ap (λ l. filter (λ t. passes t.value) l) gone
          ∙ drop_filter passes g.K.PartialEq.eq g.met.K.Eq.laws old n s c.len.ensures.distinct at found.3 ∙ i.left;
      passed = subst (λ (l : List (Slot _ _)). PassBefore passes n l) (sym gone)
          (drop_before passes g.K.PartialEq.eq g.met.K.Eq.laws old n s c.len.ensures.distinct at i.passed);
      within = omega (arith, c.loop-kept-test.true, c.len.ensures.number, fewer, now);
      ascending = subst (λ (l : List (Slot _ _)). Ascends l) (sym gone) (ascends_without g.K.PartialEq.eq c.in-Some.key old i.ascending);
      young = subst (λ (l : List (Slot _ _)). YoungPass passes c.args.bound l) (sym gone)
          (each_without _ g.K.PartialEq.eq c.in-Some.key old i.young);
      same = c.take_out.ensures.same ∙ i.same;
    }

pub returns-clause-slots : goal.returns-clause-slots
returns-clause-slots g c =
    let i = c.loop-kept.invariant in
    swept_all (g.P.Test.passes c.args.test.now) _ _ c.loop-kept.kept i.left i.passed (omega (arith, c.loop-kept-test.false, c.len.ensures.number))

pub returns-clause-same : goal.returns-clause-same
returns-clause-same g c = c.loop-kept.invariant.same
