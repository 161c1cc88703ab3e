-- Nothing is asked where nothing listens.
use Rattle.std.proofs.Common.{◌≡◌, Bool, true, false}
use Rattle.std.specs.Bool.{MatchBool}

pub unasked : (is_unheard told : Bool) (Kept Asked : Type 0) → told ≡ is_unheard → told ≡ true → Kept → MatchBool is_unheard Kept Asked
unasked true told Kept Asked same is kept = kept
unasked false told Kept Asked same is kept = absurd cc

pub asked : (is_unheard told : Bool) (Kept Asked : Type 0) → told ≡ is_unheard → told ≡ false → Asked → MatchBool is_unheard Kept Asked
asked false told Kept Asked same is asks = asks
asked true told Kept Asked same is asks = absurd cc
