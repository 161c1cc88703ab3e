-- Names of the standard in place of numbers (clause 21): which ones the values of a property have.
use Rattle.std.specs.Prelude.{ℕ, ◌==◌, ◌||◌, Bool, false, is_some, if◌then◌else◌, Option, Some, None}
use Rattle.toml.specs.Data.{Data, as_str}
use Rattle.bac_point_text.specs.Enumerations.{Names}
use Rattle.bac_point_text.specs.PropertyNames.{enumeration_of}

-- the properties whose names are those of bits: acked-transitions, ack-required, event-enable, limit-enable, protocol-object-types-supported,
-- protocol-services-supported, status-flags, audit-priority-filter and auditable-operations
abbrev pub has_bits : ℕ → Bool
has_bits n =
    (n == 0) || ((n == 1) || ((n == 35) || ((n == 52) || ((n == 96) || ((n == 97) || ((n == 111) || ((n == 500) || (n == 501))))))))

-- the names of the numbers that a property of an object of this type has
unfoldable pub names_of : (kind number : ℕ) → Option Names
names_of kind number = if has_bits number then None else enumeration_of kind number

-- a text in place of a table: the name alone
abbrev pub is_bare : Option Names → Data → Bool
is_bare None d = false
is_bare (Some names) d = is_some (as_str d)
