-- The spot is behind the last block.
use Rattle.std.proofs.Common.{◌≡◌, ◌∙◌, ℕ, List, length, map, Some, slice_get, refl, ap, subst, arith}
use Rattle.std.proofs.lemmas.Bool.Decides.{nat_tests}
use Rattle.std.proofs.lemmas.Option.{slice_get_read}
use Rattle.bac_slots.specs.Indexes.{rank_at}
use Rattle.bac_slots.proofs.InBlocks.{rank_end}
use Rattle.bac_slots.proofs.blocks.Blocks.is_end.Goals as goal

pub returns-then-spot-len : goal.returns-then-spot-len
returns-then-spot-len c = λ t.
    let bs = c.self.inside.blocks in
    let xs = c.deref.result.now in
    let r : List ℕ = c.in-Some.block.now in
    let at = subst (λ (l : List (List ℕ)). slice_get l c.args.spot.block ≡ Some r) c.deref.ensures.value
    (slice_get_read xs (length xs) c.args.spot.block r refl c.in-Some.ensures.lookup.3.0 c.in-Some.ensures.lookup.1) in
    let number = c.len-then-spot-len.ensures.number in
    let same : c.args.spot.at ≡ length r = grind (arith, nat_tests) in
    rw (← c.self.view_is)
    (ap (λ k. rank_at (map length bs.items) c.args.spot.block k) same
    ∙ rank_end bs.items c.args.spot.block r at (omega (arith, c.if-spot-len.true, c.len.ensures, bs.ok.0)))
