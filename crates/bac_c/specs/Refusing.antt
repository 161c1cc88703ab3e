-- What a C program is told of objects that a plain start refuses.
use Rattle.std.specs.Prelude.{◌≡◌, List, Option, Some, None, MatchOption}
use Rattle.bac_store.specs.Stores.{Object}
use Rattle.bac_c.specs.Describing.{property_told}
use Rattle.bac_c.specs.Starting.{listed_in}
use Rattle.bac_c.specs.Taking.{AreTaken, IsFirstRefused, plain_flaw_number}
use Rattle.bac_c.specs.declared.device.Device.{Device}
use Rattle.bac_c.specs.declared.records.Refused.{Refused}
use Rattle.bac_c.specs.declared.taking.Refusal.{Refusal}

-- 2^64 - 1 stands for no object, and 2^32 - 1 for no property
abbrev pub refusal_told : Option Refusal → Refused
refusal_told None = record { object = 18446744073709551615; property = 4294967295; flaw = 0 }
refusal_told (Some e) = record { object = e.object; property = property_told e.property; flaw = plain_flaw_number e.why }

-- the first object that is refused, and why, or that all are taken
pub record TellsRefusal (os : List Object) (r : Refused) : Type 0 where
  pub refusal : Option Refusal
  pub is : MatchOption refusal (AreTaken os) (IsFirstRefused os)
  pub told : r ≡ refusal_told refusal

abbrev pub HasToldRefusal : Option Device → Refused → Type 0
HasToldRefusal held r = MatchOption held ⊥ (λ d. TellsRefusal (listed_in d) r)
