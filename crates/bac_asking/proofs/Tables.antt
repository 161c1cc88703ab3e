-- Texts that do not occur in a table.
use Rattle.std.proofs.Common.{◌≡◌, ℕ, Bool, true, false, not, List, None, subst}
use Rattle.std.specs.Bool.{MatchBool}
use Rattle.std.specs.Str.Pattern.{FindsText}
use Rattle.bac_asking.specs.Unheard.{Lacks}

pub lacks_so : (found : Bool) (Has : Type 0) (table text : List ℕ) → MatchBool found Has (FindsText text table None) → not found ≡ true → Lacks table text
lacks_so false Has table text told is = record { nowhere = told }
lacks_so true Has table text told is = absurd cc

pub lacks_same : (table text same : List ℕ) → text ≡ same → Lacks table text → Lacks table same
lacks_same table text same is lacks = subst (λ (t : List ℕ). Lacks table t) is lacks
