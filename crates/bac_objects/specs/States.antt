-- What clients may write to the present-value of a multi-state object that gives it no limits: one of its states (clauses 12.18 to 12.20).
use Rattle.std.specs.Prelude.{ℕ, ◌&&◌, List, map, if◌then◌else◌, Option, Some, None}
use Rattle.bac_value.specs.Value.{unsigned}
use Rattle.bac_value.specs.Writing.{value_spelling}
use Rattle.bac_store.specs.Allowing.{Allowed}
use Rattle.bac_store.specs.Kinds.{is_multi_state}
use Rattle.bac_store.specs.Limits.{PRESENT_VALUE}
use Rattle.bac_store.specs.Stores.{Property, is_number}
use Rattle.bac_objects.specs.Consistency.{NUMBER_OF_STATES, number_in, values_of}

-- the Unsigneds from 1 to the number of states
abbrev pub up_to_states : (states : ℕ) → Allowed
up_to_states states = Allowed.Between (value_spelling (unsigned 1)) (value_spelling (unsigned states))

-- the limits that a document gives; where it gives none, the states
abbrev pub or_states : (states : ℕ) → Allowed → Allowed
or_states states Allowed.Any = up_to_states states
or_states states (Allowed.Between least greatest) = Allowed.Between least greatest
or_states states (Allowed.OneOf listed) = Allowed.OneOf listed

-- a property of an object with so many states: only a present-value that clients may write gets limits
abbrev pub with_states : (states : ℕ) → Property → Property
with_states states p = if is_number PRESENT_VALUE p && p.writable then record p { allowed = or_states states p.allowed } else p

abbrev pub each_with_states : Option ℕ → List Property → List Property
each_with_states (Some states) ps = map (with_states states) ps
each_with_states None ps = ps

-- the properties of an object of this type, the present-value of a multi-state one within its number of states, where that is among them
abbrev pub limited : (kind : ℕ) → List Property → List Property
limited k ps = if is_multi_state k then each_with_states (number_in (values_of NUMBER_OF_STATES ps)) ps else ps
