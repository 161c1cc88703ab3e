-- Properties that are arrays (clauses 12 and 15.5): their values are the elements, one after the other.
use Rattle.std.specs.Prelude.{ℕ, zero, suc, ◌-◌, Bool, ◌==◌, ◌||◌, List, [], ◌∷◌, length, take, drop, Option, Some, None, Result, Ok, Err}
use Rattle.std.specs.Prelude.{slice_get, if◌then◌else◌}
use Rattle.std.specs.Option.{option_map}
use Rattle.bac_value.specs.declared.fault.FaultKind.{FaultKind}
use Rattle.bac_value.specs.declared.tag.Class.{Class}
use Rattle.bac_value.specs.declared.tag.Class.TheVariants.{Application, Context}
use Rattle.bac_value.specs.Element.{Part}
use Rattle.bac_value.specs.Reading.{element_at}
use Rattle.bac_value.specs.Value.{unsigned}
use Rattle.bac_value.specs.Writing.{value_spelling}
use Rattle.bac_store.specs.declared.arrays.Values.{Values}
use Rattle.bac_store.specs.Limits.{ACTION_TEXT, CONFIGURATION_FILES, OBJECT_LIST, PROPERTY_LIST, STATE_TEXT}
use Rattle.bac_store.specs.Stores.{Property}

-- the arrays whose elements are application values; only described objects list them
abbrev pub is_array : ℕ → Bool
is_array n = (n == ACTION_TEXT) || (n == OBJECT_LIST) || (n == STATE_TEXT) || (n == CONFIGURATION_FILES) || (n == PROPERTY_LIST)

-- ---- values one after the other

-- the first octets, and those after them
abbrev pub parted : ℕ → List ℕ → List ℕ × List ℕ
parted k bytes = (take k bytes, drop k bytes)

abbrev pub only_application : {A : Type 0} → Class → A → Option A
only_application Application x = Some x
only_application Context x = None

abbrev pub value_read : List ℕ → Result (Part × List ℕ) FaultKind → Option (List ℕ × List ℕ)
value_read bytes (Ok r) = only_application r.0.mark.class (parted (length bytes - length r.1) bytes)
value_read bytes (Err e) = None

-- the application value at the front, encoded, and the octets after it
abbrev pub first_value : List ℕ → Option (List ℕ × List ℕ)
first_value bytes = value_read bytes (element_at bytes)

abbrev pub each_after : Option (List ℕ × List ℕ) → (List ℕ → Option (List (List ℕ))) → Option (List (List ℕ))
each_after None after = None
each_after (Some v) after = option_map (λ vs. v.0 ∷ vs) (after v.1)

-- at most this many values, each encoded; None for all other octets
unfoldable pub values_from : List ℕ → ℕ → Option (List (List ℕ))
values_from [] most = Some []
values_from (b ∷ bytes) zero = None
values_from (b ∷ bytes) (suc most) = each_after (first_value (b ∷ bytes)) (λ rest. values_from rest most)

-- the application values that the octets encode, each of at least one octet
abbrev pub values_in : List ℕ → Option (List (List ℕ))
values_in bytes = values_from bytes (length bytes)

-- ---- elements

-- the elements of a property; None if it is no array
abbrev pub elements_of : Property → Option (List (List ℕ))
elements_of p = if is_array p.number then values_in p.values else None

-- index 0 stands for the number of elements, and a greater one for that element
abbrev pub element_of : List (List ℕ) → ℕ → Option (List ℕ)
element_of es zero = Some (value_spelling (unsigned (length es)))
element_of es (suc at) = slice_get es at

-- ---- the results in code

-- how many values there are, and the chosen one
abbrev pub values_view : Values → ℕ × Option (List ℕ)
values_view v = (v.count, option_map (λ d. d.octets.now) v.chosen)

abbrev pub counted : ℕ → List (List ℕ) → ℕ × Option (List ℕ)
counted at vs = (length vs, slice_get vs at)

-- the element with an index, if there are this many and the index before it is the place of this one
abbrev pub element_from : ℕ × Option (List ℕ) → ℕ → Option (List ℕ)
element_from v zero = Some (value_spelling (unsigned v.0))
element_from v (suc at) = v.1
