-- Why a keeper does not note what a node made of its store, or does not keep what it noted.
use Rattle.std.specs.Prelude.{◌≡◌, ◌⊎◌, ◌≤◌, ℕ, ⊤}
use Rattle.bac_service.specs.Values.{Request}
use Rattle.bac_store.specs.AtNode.{Change}
use Rattle.bac_keep.specs.Cells.{NUMBERS}
use Rattle.bac_keep.specs.Made.{Made}
use Rattle.bac_keep.specs.declared.fault.DatabaseFault.TheVariants.{OutOfMemory}
use Rattle.bac_keep.specs.declared.fault.KeepFault.{KeepFault}
use Rattle.bac_keep.specs.declared.fault.KeepFault.TheVariants as fault

-- clause 23.1: the number of the property that is written has more than 22 bits
abbrev pub HasHighNumber : Made → Type 0
HasHighNumber (Made.Performed (Request.WriteProperty reference values priority)) = NUMBERS ≤ reference.property
HasHighNumber (Made.Changed (Change.Value id n octets)) = NUMBERS ≤ n
HasHighNumber _ = ⊥

-- why what a node made of its store is not noted, where `failed` says that the database failed meanwhile
abbrev pub IsUnnoted : Made → (failed : Type 0) → KeepFault → Type 0
IsUnnoted made failed (fault.Database e) = (e ≡ OutOfMemory) ⊎ failed
IsUnnoted made failed fault.HighNumber = HasHighNumber made
IsUnnoted made failed fault.NoMemory = ⊤
IsUnnoted made failed _ = ⊥

-- why what was noted is not kept
abbrev pub IsUnkept : (failed : Type 0) → KeepFault → Type 0
IsUnkept failed (fault.Database e) = (e ≡ OutOfMemory) ⊎ failed
IsUnkept failed _ = ⊥
