-- If no two neighbours fitted in one block, there would be more numbers.
use Rattle.std.proofs.Common.{◌≡◌, ◌≤◌, ℕ, length, subst, arith}
use Rattle.bac_slots.proofs.InBlocks.{Crowded, crowded_few}
use Rattle.bac_slots.proofs.blocks.joinable.Goals as goal

pub unreachable-requires : goal.unreachable-requires
unreachable-requires c =
    let items = c.args.blocks.now.items in
    let long : c.len-n-end.result ≡ length items = omega (arith, c.len-n-end.ensures, c.args.blocks.now.ok.0) in
    let some : 1 ≤ c.len-n-end.result = omega (arith, long, c.requires) in
    let top = c.loop-n.auto.n-end some in
    let end : c.loop-n.n ≡ length items = omega (arith, top, c.loop-n-test.false, long) in
    let few = crowded_few items (subst (λ (m : ℕ). Crowded m items) end c.loop-n.invariant) in
    omega (arith, few, c.requires)
