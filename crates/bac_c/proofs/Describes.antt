-- Whether objects describe a store.
use Rattle.std.proofs.Common.{◌≡◌, List, [], refl, subst, arith}
use Rattle.std.specs.Prelude.{ℕ, Option, Some, None, MatchOption}
use Rattle.bac_store.specs.Described.{AreDescribed, IsDescribedBy, IsDescriptionFault, IsFaultAt, IsFlawOfAll}
use Rattle.bac_store.specs.Stores.{Object, Store}
use Rattle.bac_store.specs.declared.description_fault.DescriptionFault.{DescriptionFault}
use Rattle.bac_store.specs.declared.description_fault.DescriptionFlaw.{DescriptionFlaw}
use Rattle.bac_store.specs.declared.description_fault.DescriptionFlaw.TheVariants as flaw
use Rattle.bac_c.specs.Describing.{refused_told, TellsRefused}
use Rattle.bac_c.specs.declared.records.Refused.{Refused}

pub describes : (os : List Object) (s : Store) → IsDescribedBy os s → AreDescribed os
describes os s d = d.described

plain : Object
plain = record { id = record { kind = 0; instance = 0 }; name = []; properties = []; file = None }

all_refused : (os : List Object) (why : DescriptionFlaw) → IsFlawOfAll os why → (why ≡ flaw.NoMemory → ⊥) → AreDescribed os → ⊥
all_refused os flaw.TooManyObjects f other d = omega (arith, f.many, d.few)
all_refused os flaw.NoDevice f other d = d.device f.none
all_refused os flaw.NoMemory f other d = other refl
all_refused os _ f other d = f

refused_at : (os : List Object) (at : Option ℕ) (why : DescriptionFlaw) → IsFaultAt os at why → (why ≡ flaw.NoMemory → ⊥) → AreDescribed os → ⊥
refused_at os (Some at) why f other d = f.unfit plain (d.each at plain f.within)
refused_at os None why f other d = all_refused os why f other d

pub refuses : (os : List Object) (e : DescriptionFault) → IsDescriptionFault os e → (e.why ≡ flaw.NoMemory → ⊥) → AreDescribed os → ⊥
refuses os e f other d = refused_at os e.object e.why f other d

pub told_of : (os copies : List Object) (fault : Option DescriptionFault) (r : Refused) → copies ≡ os → MatchOption fault (AreDescribed copies) (IsDescriptionFault copies)
    → r ≡ refused_told fault → TellsRefused os r
told_of os copies fault r same is told =
    record { fault = fault; is = subst (λ (xs : List Object). MatchOption fault (AreDescribed xs) (IsDescriptionFault xs)) same is; told = told }
