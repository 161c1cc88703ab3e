-- The spot is in its block.
use Rattle.std.proofs.Common.{◌≡◌, ◌<◌, ℕ, List, length, Some, slice_get, refl, subst, arith}
use Rattle.std.proofs.lemmas.Bool.Decides.{nat_tests}
use Rattle.std.proofs.lemmas.Option.{slice_get_read}
use Rattle.bac_slots.proofs.InBlocks.{held_at}
use Rattle.bac_slots.proofs.blocks.Blocks.holds.Goals as goal

pub returns-in-Some : goal.returns-in-Some
returns-in-Some c = λ t.
    let xs = c.deref.result.now in
    let r : List ℕ = c.in-Some.block.now in
    let at = subst (λ (l : List (List ℕ)). slice_get l c.args.spot.block ≡ Some r) c.deref.ensures.value
    (slice_get_read xs (length xs) c.args.spot.block r refl c.in-Some.ensures.lookup.3.0 c.in-Some.ensures.lookup.1) in
    let number = c.len.ensures.number in
    let small : c.args.spot.at < length r = grind (arith, nat_tests) in
    rw (← c.self.view_is) (held_at c.self.inside.blocks.items c.args.spot.block c.args.spot.at r at small)
