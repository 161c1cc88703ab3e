use Rattle.std.proofs.Common.{rules, arith, ◌≡◌, ◌∙◌, ◌+◌, ◌++◌, suc, sym, ap, get_or, List, ℕ, drop}
use Rattle.std.specs.Prelude.{◌≢◌}
use Rattle.std.proofs.lemmas.List.{get_or_default}
use Rattle.bac_keep.specs.declared.cell.Cell.{Cell}
use Rattle.bac_value.specs.Views.{object_identifier_view}
use Rattle.bac_keep.specs.Cells.{file_place}
use Rattle.bac_keep.specs.Overlay.{joined}
use Rattle.bac_keep.specs.Held.{held}
use Rattle.bac_keep.proofs.Gaps.{lacks_at_end, lacks_here}
use Rattle.bac_keep.proofs.Lists.{next_chunk}
use Rattle.bac_keep.proofs.restoring.octets_at.Goals as goal

pub loop-part-preserved : goal.loop-part-preserved
loop-part-preserved c = (
  λ rise.
      let id = object_identifier_view c.args.object in
      let cell = c.index-cells-next.result in
      let place : cell.place ≡ file_place id (suc c.loop-part.part) = search rules in
      let one_more : suc c.loop-part.part ≡ c.loop-part.part + 1 = omega arith in
      c.in_ok-extend_from_slice.ensures.items
      ∙ ap (λ (x : List ℕ). c.loop-part.octets.items ++ x) c.deref.ensures.value
      ∙ next_chunk c.args.cells.now c.args.at _ cell id c.loop-part.part c.loop-part.octets.items rise (omega arith) (omega arith)
      (sym c.index-cells-next.is) place (c.loop-part.invariant.0 rise)
      ∙ ap (joined (held (drop c.args.at c.args.cells.now)) id) one_more,
  omega arith,
  λ d.
      let id = object_identifier_view c.args.object in
      let cell = c.index-cells-next.result in
      let place : cell.place ≡ file_place id (suc c.loop-part.part) = search rules in
      let one_more : suc c.loop-part.part ≡ c.loop-part.part + 1 = omega arith in
      let next : c.args.at + (c.loop-part.part + 1) ≡ c.args.at + 1 + c.from.result = omega arith in
      ap (λ n. (get_or c.args.cells.now n d).place) next
      ∙ ap (λ (x : Cell). x.place) (get_or_default c.args.cells.now (c.args.at + 1 + c.from.result) d cell (omega arith) ∙ sym c.index-cells-next.is)
      ∙ place ∙ ap (file_place id) one_more,
)

pub loop-part-init : goal.loop-part-init
loop-part-init c = (
  λ rise. search rules,
  omega arith,
  λ d. let same : c.args.at + 0 ≡ c.args.at = omega arith in ap (λ n. (get_or c.args.cells.now n d).place) same ∙ c.requires.start d,
)

pub returns-then-next-cells-clause-refused : goal.returns-then-next-cells-clause-refused
returns-then-next-cells-clause-refused c = λ rise.
    lacks_at_end c.args.cells.now (c.args.at + c.loop-part.part) c.loop-part.invariant.1 (object_identifier_view c.args.object) c.loop-part.part c.args.count
    (omega arith) c.loop-part.invariant.2 rise (c.args.at + 1 + c.from.result) (omega arith) (omega arith)

pub returns-then-cell-file_place-clause-refused : goal.returns-then-cell-file_place-clause-refused
returns-then-cell-file_place-clause-refused c = λ rise.
    let id = object_identifier_view c.args.object in
    let cell = c.index-cells-next.result in
    let other : cell.place ≢ file_place id (suc c.loop-part.part) = search rules in
    lacks_here c.args.cells.now (c.args.at + c.loop-part.part) c.loop-part.invariant.1 id c.loop-part.part c.args.count
    (omega arith) c.loop-part.invariant.2 rise (c.args.at + 1 + c.from.result) (omega arith) cell c.index-cells-next.is other
