-- What is told of objects that a plain start refuses.
use Rattle.std.proofs.Common.{◌≡◌, List, Option, Some, None, subst, ap, ◌∙◌, sym, arith}
use Rattle.std.specs.Prelude.{MatchOption, ◌↔◌}
use Rattle.bac_store.specs.Stores.{Object}
use Rattle.bac_c.specs.Refusing.{refusal_told, TellsRefusal}
use Rattle.bac_c.specs.Taking.{plain_flaw_number, AreTaken, IsFirstRefused}
use Rattle.bac_c.specs.declared.flaw.Flaw.{Flaw}
use Rattle.bac_c.specs.declared.flaw.Flaw.TheVariants as flaw
use Rattle.bac_c.specs.declared.records.Refused.{Refused}
use Rattle.bac_c.specs.declared.taking.Refusal.{Refusal}
use Rattle.bac_c.proofs.Takes.{not_taken}

some_flaw : (f : Flaw) → plain_flaw_number f ≡ 0 → ⊥
some_flaw flaw.Instance none = omega (arith, none)
some_flaw flaw.Name none = omega (arith, none)
some_flaw flaw.File none = omega (arith, none)
some_flaw flaw.Number none = omega (arith, none)
some_flaw flaw.Twice none = omega (arith, none)
some_flaw flaw.Values none = omega (arith, none)
some_flaw flaw.Limits none = omega (arith, none)
some_flaw flaw.SameIdentifier none = omega (arith, none)
some_flaw flaw.Type none = omega (arith, none)

pub refusal_of : (os copies : List Object) (refusal : Option Refusal) (r : Refused) → copies ≡ os → MatchOption refusal (AreTaken copies) (IsFirstRefused copies)
    → r ≡ refusal_told refusal → TellsRefusal os r
refusal_of os copies refusal r same is told =
    record { refusal = refusal; is = subst (λ (xs : List Object). MatchOption refusal (AreTaken xs) (IsFirstRefused xs)) same is; told = told }

pub none_told : (os copies : List Object) (refusal : Option Refusal) (r : Refused) → copies ≡ os → MatchOption refusal (AreTaken copies) (IsFirstRefused copies)
    → r ≡ refusal_told refusal → (r.flaw ≡ 0) ↔ AreTaken os
none_told os copies None r same is told =
    (λ none. subst AreTaken same is, λ taken. ap (λ (x : Refused). x.flaw) told)
none_told os copies (Some e) r same is told = (
  λ none. absurd (some_flaw e.why (sym (ap (λ (x : Refused). x.flaw) told) ∙ none)),
  λ taken. absurd (not_taken copies e is (subst AreTaken (sym same) taken)),
)
