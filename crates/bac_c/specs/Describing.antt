-- What a C program is told of objects that are refused.
use Rattle.std.specs.Prelude.{◌≡◌, ℕ, List, Option, Some, None, MatchOption}
use Rattle.bac_store.specs.Described.{AreDescribed, IsDescriptionFault}
use Rattle.bac_store.specs.Stores.{Object}
use Rattle.bac_store.specs.declared.description_fault.DescriptionFault.{DescriptionFault}
use Rattle.bac_store.specs.declared.description_fault.DescriptionFlaw.{DescriptionFlaw}
use Rattle.bac_store.specs.declared.description_fault.DescriptionFlaw.TheVariants as flaw
use Rattle.bac_c.specs.Starting.{listed_in}
use Rattle.bac_c.specs.declared.device.Device.{Device}
use Rattle.bac_c.specs.declared.records.Refused.{Refused}

abbrev pub flaw_number : DescriptionFlaw → ℕ
flaw_number flaw.Instance = 1
flaw_number flaw.Name = 2
flaw_number flaw.File = 3
flaw_number flaw.Number = 4
flaw_number flaw.Twice = 5
flaw_number flaw.Values = 6
flaw_number flaw.Limits = 7
flaw_number flaw.SameIdentifier = 8
flaw_number flaw.SameName = 9
flaw_number flaw.SecondDevice = 10
flaw_number flaw.TooManyObjects = 11
flaw_number flaw.NoDevice = 12
flaw_number flaw.NoMemory = 0

-- 2^64 - 1 stands for no single object, and 2^32 - 1 for no property
abbrev object_told : Option ℕ → ℕ
object_told None = 18446744073709551615
object_told (Some n) = n

abbrev pub property_told : Option ℕ → ℕ
property_told None = 4294967295
property_told (Some n) = n

abbrev pub refused_told : Option DescriptionFault → Refused
refused_told None = record { object = 18446744073709551615; property = 4294967295; flaw = 0 }
refused_told (Some e) = record { object = object_told e.object; property = property_told e.property; flaw = flaw_number e.why }

-- why the objects are refused, or that they are not
pub record TellsRefused (os : List Object) (r : Refused) : Type 0 where
  pub fault : Option DescriptionFault
  pub is : MatchOption fault (AreDescribed os) (IsDescriptionFault os)
  pub told : r ≡ refused_told fault

abbrev pub HasTold : Option Device → Refused → Type 0
HasTold held r = MatchOption held ⊥ (λ d. TellsRefused (listed_in d) r)
