-- Endings of an ask, counted and looked for.
use Rattle.std.proofs.Common.{◌≡◌, ℕ, suc, Bool, true, false, List, [], ◌∷◌, Some, None, if◌then◌else◌, nat_eq, refl, arith}
use Rattle.std.proofs.lemmas.Bool.Decides.{nat_tests}
use Rattle.bac_world.specs.Once.{Fact, IsUnended}
use Rattle.bac_world.specs.Once.Fact.{Asked, Performed, Ended, Changed, Restarted, Served, AskedAway, EndedAway}
use Rattle.bac_liveness.specs.WorldRuns.{endings_of}
use Rattle.bac_liveness.specs.StraightRuns.{ending_in}

-- an ask without an ending has none
pub none_counted : (n : ℕ) (log : List Fact) → ending_in n log ≡ None → endings_of n log ≡ 0
none_counted n [] e = refl
none_counted n (Asked m c s r ∷ log) e = none_counted n log e
none_counted n (Performed m r p ∷ log) e = none_counted n log e
none_counted n (Changed i c ∷ log) e = none_counted n log e
none_counted n (Restarted i o ∷ log) e = none_counted n log e
none_counted n (Served q i d b r p ∷ log) e = none_counted n log e
none_counted n (AskedAway m c q r ∷ log) e = none_counted n log e
none_counted n (EndedAway m how ∷ log) e = none_counted n log e
none_counted n (Ended m how ∷ log) e = go (nat_eq m n) e (none_counted n log)
  where
    go : (b : Bool) → (if b then Some how else ending_in n log) ≡ None → (ending_in n log ≡ None → endings_of n log ≡ 0)
        → (if b then suc (endings_of n log) else endings_of n log) ≡ 0
    go true e again = absurd cc
    go false e again = again e

-- one that has not ended has no ending
pub unended_none : (n : ℕ) (log : List Fact) → IsUnended n log → ending_in n log ≡ None
unended_none n [] h = refl
unended_none n (Asked m c s r ∷ log) h = unended_none n log h
unended_none n (Performed m r p ∷ log) h = unended_none n log h
unended_none n (Changed i c ∷ log) h = unended_none n log h
unended_none n (Restarted i o ∷ log) h = unended_none n log h
unended_none n (Served q i d b r p ∷ log) h = unended_none n log h
unended_none n (AskedAway m c q r ∷ log) h = unended_none n log h
unended_none n (EndedAway m how ∷ log) h = unended_none n log h
unended_none n (Ended m how ∷ log) h = go (nat_eq m n) refl (unended_none n log h.1)
  where
    go : (b : Bool) → nat_eq m n ≡ b → ending_in n log ≡ None → (if b then Some how else ending_in n log) ≡ None
    go true e again = absurd (h.0 (grind (arith, nat_tests)))
    go false e again = again
