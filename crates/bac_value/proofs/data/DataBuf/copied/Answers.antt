use Rattle.std.proofs.Common.{subst, sym, List, ℕ}
use Rattle.bac_value.specs.Data.{IsData}
use Rattle.bac_value.proofs.data.DataBuf.copied.Goals as goal

pub invariant_of-result : goal.invariant_of-result
invariant_of-result g c = record { whole = subst (λ (xs : List ℕ). ∥ IsData xs ∥₁) (sym c.in_ok-octets.ensures.same) c.requires }
