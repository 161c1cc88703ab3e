-- The number enters the lower or the upper part.
use Rattle.std.proofs.Common.{◌∙◌, ◌++◌, ap, sym, arith}
use Rattle.std.specs.List.{insert}
use Rattle.std.proofs.lemmas.List.Edits.{insert-append_left, insert-append_right}
use Rattle.bac_slots.proofs.block.Block.enter.Goals.{then-n-keep, else-n-keep}
use Rattle.bac_slots.proofs.block.Block.enter.Goals as goal

pub returns : goal.returns
returns c =
    let lower = c.split-more.new.self in
    let upper = c.split-more.result in
    let many = c.split-more.ensures.many in
    let keep = c.if-n-lt-EACH.keep in
    elim c.if-n-keep.branch [
      | then-n-keep w ↦ ap (λ l. l ++ c.if-n-keep.more) (w.self-is ∙ w.insert-then-n-keep.ensures)
          ∙ ap (λ l. insert lower c.args.n c.args.number ++ l) w.more-is
          ∙ sym (insert-append_left lower upper c.args.n c.args.number (omega (arith, w.if-n-keep.true, many)))
          ∙ ap (λ l. insert l c.args.n c.args.number) c.split-more.ensures.same
      | else-n-keep w ↦ ap (λ l. l ++ c.if-n-keep.more) w.self-is
          ∙ ap (λ l. lower ++ l) (w.more-is ∙ w.insert-else-n-keep.ensures)
          ∙ sym (insert-append_right lower upper keep c.args.n c.args.number many (omega (arith, w.if-n-keep.false)))
          ∙ ap (λ l. insert l c.args.n c.args.number) c.split-more.ensures.same
    ]
