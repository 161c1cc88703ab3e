-- The kind of values, by reading them and in the words of the standard.
use Rattle.std.specs.Prelude.{◌≡◌, ℕ, Bool, true, false, not, ◌==◌, ◌&&◌, ◌||◌, nat_lt, if◌then◌else◌, List, [], ◌∷◌, Option, Some, None, Result, Ok, Err}
use Rattle.bac_value.specs.declared.fault.FaultKind.{FaultKind}
use Rattle.bac_value.specs.declared.tag.Class.{Class}
use Rattle.bac_value.specs.declared.tag.Class.TheVariants.{Application, Context}
use Rattle.bac_value.specs.Element.{Part}
use Rattle.bac_value.specs.Reading.{element_at}
use Rattle.bac_value.specs.Value.{Datum, kind_number, SpellsValue}
use Rattle.bac_store.specs.Limits.{ANALOG_INPUT, ANALOG_OUTPUT, ANALOG_VALUE, BINARY_INPUT, BINARY_OUTPUT, BINARY_VALUE}
use Rattle.bac_store.specs.Limits.{MULTI_STATE_INPUT, MULTI_STATE_OUTPUT, MULTI_STATE_VALUE, STATE_TAG, UNSIGNED, UNSIGNED_TAG}

abbrev pub application_number : Class → ℕ → Option ℕ
application_number Application n = Some n
application_number Context n = None

abbrev pub kind_before : Part → List ℕ → Option ℕ
kind_before p [] = application_number p.mark.class p.mark.number
kind_before p (x ∷ xs) = None

abbrev pub kind_read : Result (Part × List ℕ) FaultKind → Option ℕ
kind_read (Ok r) = kind_before r.0 r.1
kind_read (Err e) = None

-- the tag of values that are one application element; None if they are not
abbrev pub kind_of : List ℕ → Option ℕ
kind_of values = kind_read (element_at values)

-- Enumerated 0 or 1, the states of a binary object
abbrev pub is_state : List ℕ → Bool
is_state (tag ∷ n ∷ []) = (tag == STATE_TAG) && nat_lt n 2
is_state _ = false

-- object types (BACnetObjectType) by their present-value
abbrev pub is_analog : ℕ → Bool
is_analog k = (k == ANALOG_INPUT) || (k == ANALOG_OUTPUT) || (k == ANALOG_VALUE)

abbrev pub is_binary : ℕ → Bool
is_binary k = (k == BINARY_INPUT) || (k == BINARY_OUTPUT) || (k == BINARY_VALUE)

abbrev pub is_multi_state : ℕ → Bool
is_multi_state k = (k == MULTI_STATE_INPUT) || (k == MULTI_STATE_OUTPUT) || (k == MULTI_STATE_VALUE)

abbrev pub is_tag : ℕ → Option ℕ → Bool
is_tag k None = false
is_tag k (Some n) = k == n

abbrev pub is_zero : List ℕ → Bool
is_zero (tag ∷ n ∷ []) = (tag == UNSIGNED_TAG) && (n == 0)
is_zero _ = false

-- an Unsigned from 1 on, the states of a multi-state object
abbrev pub is_multi : List ℕ → Bool
is_multi values = is_tag UNSIGNED (kind_of values) && not (is_zero values)

-- the state of an object of this type, as its present-value: other types have no states
abbrev pub is_state_of : ℕ → List ℕ → Bool
is_state_of k values = if is_binary k then is_state values else (if is_multi_state k then is_multi values else true)

-- the octets encode one application value, with this number in its tag (clause 20.2.1.4)
abbrev pub IsOneValue : ℕ → List ℕ → Type 0
IsOneValue k values = (d : Datum) × (kind_number d ≡ k) × SpellsValue d values
