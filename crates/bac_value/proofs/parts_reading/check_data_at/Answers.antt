use Rattle.std.proofs.Common.{subst, ℕ, List}
use Rattle.bac_value.specs.Data.{IsDataFront}
use Rattle.bac_value.proofs.parts_reading.check_data_at.Goals as goal

pub returns-in-Err-clause-refused : goal.returns-in-Err-clause-refused
returns-in-Err-clause-refused c = subst (λ (xs : List ℕ). (k : ℕ) → IsDataFront xs k → ⊥) c.split.ensures.after c.in-Err.ensures.refused.none
