-- One more block is settled.
use Rattle.std.proofs.Common.{◌≡◌, ◌-◌, ◌∙◌, ℕ, List, length, map, ap, arith, get_or, set}
use Rattle.std.proofs.lemmas.List.{get_or_default}
use Rattle.std.proofs.lemmas.List.Edits.{map_over_more}
use Rattle.bac_slots.specs.Indexes.{lowered}
use Rattle.bac_slots.proofs.blocks.settle_blocks.Goals as goal

pub loop-block-preserved : goal.loop-block-preserved
loop-block-preserved c =
    let i : ℕ = c.loop-block.block-index in
    let blocks : List (List ℕ) = c.loop-block.block-items in
    let r : List ℕ = get_or blocks i c.block-item.result in
    let read = get_or_default blocks i c.block-item.result r (omega (arith, c.loop-block-test.true, c.loop-block.auto.block-items)) in
    let whole : length c.deref_mut-block-items.result.now ≡ length c.args.blocks.now.items = ap length c.deref_mut-block-items.ensures.value in
    ap (λ v. set blocks i v) c.settle.ensures
    ∙ map_over_more (λ (r : List ℕ). map (λ n. lowered c.args.gone (n - c.args.first)) r) c.args.blocks.now.items blocks i r
    (omega (arith, c.loop-block-test.true, whole)) c.loop-block.invariant read
