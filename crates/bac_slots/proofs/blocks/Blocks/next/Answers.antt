-- As many numbers are before the next block.
use Rattle.std.proofs.Common.{◌≡◌, ◌∙◌, ℕ, List, length, map, Some, slice_get, refl, ap, sym, subst, arith}
use Rattle.std.proofs.lemmas.Option.{slice_get_read}
use Rattle.bac_slots.specs.Indexes.{rank_at}
use Rattle.bac_slots.proofs.InBlocks.{rank_past}
use Rattle.bac_slots.proofs.blocks.Blocks.next.Goals as goal

pub returns-in-Some : goal.returns-in-Some
returns-in-Some c =
    let bs = c.self.inside.blocks in
    let xs = c.deref.result.now in
    let r : List ℕ = c.in-Some.block.now in
    let at = subst (λ (l : List (List ℕ)). slice_get l c.args.spot.block ≡ Some r) c.deref.ensures.value
    (slice_get_read xs (length xs) c.args.spot.block r refl c.in-Some.ensures.lookup.3.0 c.in-Some.ensures.lookup.1) in
    let same : c.args.spot.at ≡ length r = omega (arith, c.if-spot-len.true, c.len.ensures.number) in
    rw (← c.self.view_is) (rank_past bs.items c.args.spot.block r at ∙ ap (λ k. rank_at (map length bs.items) c.args.spot.block k) (sym same))
