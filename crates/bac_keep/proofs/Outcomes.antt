-- What a power cut leaves.
use Rattle.std.proofs.Common.{◌⊎◌, inl, inr}

pub one_of_two : {Found Before After : Type 0} → (Found → Before) → Found ⊎ After → Before ⊎ After
one_of_two before (inl found) = inl (before found)
one_of_two before (inr after) = inr after
