-- Counts of BVLLs with other functions, none of which exceeds the number of frames.
use Rattle.std.proofs.Common.{◌≤◌, ◌<◌, ◌+◌, ℕ, List, length, get_or, set, arith}
use Rattle.std.specs.List.{All}
use Rattle.std.proofs.lemmas.List.Elements.{All-set}

pub few_more : (others : List ℕ) (frames : ℕ) → All (λ n. n ≤ frames) others → All (λ n. n ≤ frames + 1) others
few_more others frames few = λ k d h. omega (arith, few k d h)

pub few_with : (others : List ℕ) (frames place : ℕ) → place < length others → All (λ n. n ≤ frames) others
    → All (λ n. n ≤ frames + 1) (set others place (get_or others place 0 + 1))
few_with others frames place within few =
    All-set (λ n. n ≤ frames + 1) others place (get_or others place 0 + 1) (omega (arith, few place 0 within)) (few_more others frames few)
