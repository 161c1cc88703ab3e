-- The numbers of the one block are behind those of the other, as before.
use Rattle.std.proofs.Common.{◌≡◌, ◌-◌, ◌++◌, ◌∙◌, ℕ, List, length, Some, slice_get, refl, ap, subst, arith, set}
use Rattle.std.specs.List.{concat, remove}
use Rattle.std.proofs.lemmas.List.Edits.{length-remove}
use Rattle.std.proofs.lemmas.Option.{slice_get_read}
use Rattle.bac_slots.proofs.InBlocks.{joined}
use Rattle.bac_slots.proofs.blocks.join.Goals as goal

pub returns-clause-same : goal.returns-clause-same
returns-clause-same c =
    let items : List (List ℕ) = c.args.blocks.now.items in
    let rest : List (List ℕ) = c.remove-block.new.self.items in
    let n : ℕ = c.joinable-n.result in
    let r : List ℕ = c.index_mut.result.now in
    let within = c.joinable-n.ensures.within in
    let removed : rest ≡ remove items n = c.remove-block.ensures.items in
    let long = ap length removed in
    let fewer = length-remove items n within in
    let second = slice_get_read items _ n c.remove-block.result refl within c.remove-block.ensures.value in
    let first = slice_get_read rest _ (n - 1) r refl (omega (arith, long, fewer, within, c.joinable-n.ensures.later)) c.index_mut.ensures.value in
    ap (λ (l : List (List ℕ)). concat (set l (n - 1) c.append.new.self)) removed
    ∙ joined items n r c.remove-block.result c.append.new.self c.joinable-n.ensures.later second
    (subst (λ (l : List (List ℕ)). slice_get l (n - 1) ≡ Some r) removed first) (c.append.ensures ∙ ap (λ l. r ++ l) c.as_slice.ensures)
