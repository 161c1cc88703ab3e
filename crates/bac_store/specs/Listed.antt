-- The values of a listed property, and whether they may be written.
use Rattle.std.specs.Prelude.{ℕ, Bool, List}
use Rattle.bac_store.specs.declared.store_lookups.ListedValues.{ListedValues}
use Rattle.bac_store.specs.Stores.{Property}

abbrev pub values_and_flag : Property → List ℕ × Bool
values_and_flag p = (p.values, p.writable)

-- the same, of the type in code
abbrev pub listed_view : ListedValues → List ℕ × Bool
listed_view l = (l.octets.now, l.writable)
