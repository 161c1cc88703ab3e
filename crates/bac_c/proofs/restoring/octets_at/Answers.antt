use Rattle.std.proofs.Common.{rules, arith, ◌≡◌, ◌∙◌, ◌+◌, ◌++◌, ◌==◌, suc, sym, ap, List, ℕ, Some, drop}
use Rattle.bac_value.specs.Views.{object_identifier_view}
use Rattle.bac_keep.specs.Cells.{file_place}
use Rattle.bac_keep.specs.Overlay.{joined}
use Rattle.bac_keep.specs.Held.{held}
use Rattle.bac_keep.proofs.Lists.{next_chunk}
use Rattle.bac_c.specs.Fitting.{has_parts, is_part}
use Rattle.bac_c.proofs.Fits.{part_missing, part_more, part_wrong, place_of}
use Rattle.bac_c.proofs.KeptPuts.{apart_at, apart_past}
use Rattle.bac_c.proofs.restoring.octets_at.Goals as goal

pub returns-then-next-cells-clause-fault : goal.returns-then-next-cells-clause-fault
returns-then-next-cells-clause-fault c = (
  c.file_place.ensures.is,
  λ rise. part_missing c.args.cells.now rise (object_identifier_view c.args.object) c.args.count c.loop-part.part (c.args.at + c.loop-part.part) _
      c.loop-part-test.true c.loop-part.invariant.place (apart_past _ _ c.args.cells.now c.if-next-cells.true) (omega (arith, c.from.ensures)),
)

pub returns-then-cell-file_place-clause-fault : goal.returns-then-cell-file_place-clause-fault
returns-then-cell-file_place-clause-fault c = (
  c.file_place.ensures.is,
  λ rise.
      let id = object_identifier_view c.args.object in
      let d = c.index-cells-next.result in
      let wanted : c.file_place-in-loop-part.result ≡ file_place id (suc c.loop-part.part) = search rules in
      part_missing c.args.cells.now rise id c.args.count c.loop-part.part (c.args.at + c.loop-part.part) _
      c.loop-part-test.true c.loop-part.invariant.place
      (apart_at (file_place id (suc c.loop-part.part)) _ c.args.cells.now d
      (λ same. c.if-cell-file_place.true (ap (λ x. x.place) c.index-cells-next.is ∙ same ∙ sym wanted)))
      (omega (arith, c.from.ensures)),
)

pub returns-then-not-is_part-clause-fault : goal.returns-then-not-is_part-clause-fault
returns-then-not-is_part-clause-fault c = (
  c.file_place.ensures.is,
  λ rise.
      let id = object_identifier_view c.args.object in
      let d = c.index-cells-next.result in
      let place : d.place ≡ file_place id (suc c.loop-part.part) = search rules in
      let one_more : c.loop-part.part + 1 ≡ suc c.loop-part.part = omega arith in
      part_wrong c.args.cells.now rise id c.args.count c.loop-part.part _ d _ c.loop-part-test.true (omega (arith, c.if-next-cells.false))
      (sym c.index-cells-next.is) place (ap (λ (n : ℕ). n == c.args.count) one_more)
      (ap (λ (x : List ℕ). is_part (c.loop-part.part + 1 == c.args.count) (Some x)) (sym c.deref.ensures.value) ∙ sym c.is_part.ensures ∙ c.if-not-is_part.true),
)

pub loop-part-preserved : goal.loop-part-preserved
loop-part-preserved c =
    let id = object_identifier_view c.args.object in
    let d = c.index-cells-next.result in
    let place : d.place ≡ file_place id (suc c.loop-part.part) = search rules in
    let one_more : suc c.loop-part.part ≡ c.loop-part.part + 1 = omega arith in
    record {
      octets = λ rise.
          c.in_ok-extend_from_slice.ensures.items
          ∙ ap (λ (x : List ℕ). c.loop-part.octets.items ++ x) c.deref-in-loop-part.ensures.value
          ∙ next_chunk c.args.cells.now c.args.at _ d id c.loop-part.part c.loop-part.octets.items rise (omega arith) (omega arith)
          (sym c.index-cells-next.is) place (c.loop-part.invariant.octets rise)
          ∙ ap (joined (held (drop c.args.at c.args.cells.now)) id) one_more;
      parts = λ rise.
          ap (has_parts (held c.args.cells.now) id c.args.count) (sym one_more)
          ∙ part_more c.args.cells.now rise id c.args.count c.loop-part.part _ d _ (omega (arith, c.if-next-cells.false)) (sym c.index-cells-next.is) place
          (ap (λ (n : ℕ). n == c.args.count) (sym one_more))
          (ap (λ (x : List ℕ). is_part (c.loop-part.part + 1 == c.args.count) (Some x)) (sym c.deref.ensures.value) ∙ sym c.is_part.ensures ∙ c.if-not-is_part.false)
          (c.loop-part.invariant.parts rise);
      place = place_of c.args.cells.now (c.args.at + (c.loop-part.part + 1)) d _ (omega (arith, c.if-next-cells.false, c.from.ensures)) (search rules) (search rules);
    }
