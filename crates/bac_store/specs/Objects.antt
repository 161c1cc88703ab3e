-- Which lists of objects a store is created from, and which store that is.
use Rattle.std.specs.Prelude.{◌≡◌, ◌≢◌, ◌≤◌, ℕ, Bool, true, not, ◌==◌, ◌&&◌, ◌||◌, nat_le, IsTrue, List, length, Option, Some, None}
use Rattle.std.specs.Prelude.{if◌then◌else◌}
use Rattle.std.specs.List.{All, AllPairs}
use Rattle.bac_value.specs.Value.{ObjectId, characters}
use Rattle.bac_value.specs.Writing.{value_spelling}
use Rattle.bac_store.specs.Limits.{ANALOG_INPUT, ANALOG_VALUE, BINARY_VALUE, DEVICE, FILE, DESCRIPTION, PRESENT_VALUE, REAL, CHARACTER_STRING, VALUE_LIMIT}
use Rattle.bac_store.specs.Limits.{FILE_ACCESS_METHOD, FILE_SIZE, OBJECT_IDENTIFIER, OBJECT_NAME, OBJECT_TYPE}
use Rattle.bac_store.specs.Limits.{FILE_LIMIT, ANY_INSTANCE, FIRST_VENDOR_TYPE, LAST_VENDOR_TYPE, FIRST_VENDOR_PROPERTY, LAST_VENDOR_PROPERTY}
use Rattle.bac_store.specs.Stores.{Store, Object, Property, File, object_in, listed_in}
use Rattle.bac_store.specs.Allowing.{are_right_limits}
use Rattle.bac_store.specs.Kinds.{is_analog, is_state_of}
use Rattle.bac_store.specs.declared.rule.Rule.{Rule}
use Rattle.bac_store.specs.declared.rule.Rule.TheVariants as rule
use Rattle.bac_store.specs.Replies.{is_of_kind}

-- no two objects have the same identifier
abbrev pub AreDistinct : List Object → Type 0
AreDistinct = AllPairs (λ a b. a.id ≢ b.id)

-- ---- right objects; the limits are this profile's own

-- five standard types, and proprietary ones
abbrev pub is_right_type : ℕ → Bool
is_right_type k =
    (k == ANALOG_INPUT) || (k == ANALOG_VALUE) || (k == BINARY_VALUE) || (k == DEVICE) || (k == FILE)
    || (nat_le FIRST_VENDOR_TYPE k && nat_le k LAST_VENDOR_TYPE)

-- the greatest instance is a wildcard, and no object has it
abbrev pub is_right_id : ObjectId → Bool
is_right_id id = is_right_type id.kind && not (id.instance == ANY_INSTANCE)

-- two standard properties, and proprietary ones
abbrev pub is_right_number : ℕ → Bool
is_right_number n = (n == DESCRIPTION) || (n == PRESENT_VALUE) || (nat_le FIRST_VENDOR_PROPERTY n && nat_le n LAST_VENDOR_PROPERTY)

-- a property that is not computed when it is read
abbrev pub is_stored_number : ℕ → Bool
is_stored_number n =
    nat_le n LAST_VENDOR_PROPERTY && not ((n == OBJECT_IDENTIFIER) || (n == OBJECT_NAME) || (n == OBJECT_TYPE))
    && not ((n == FILE_ACCESS_METHOD) || (n == FILE_SIZE))

-- the profile's rule, and that of described objects: of any type, with any such property
abbrev pub is_type_by : Rule → ℕ → Bool
is_type_by rule.Profile k = is_right_type k
is_type_by rule.Described k = true

abbrev pub is_id_by : Rule → ObjectId → Bool
is_id_by r id = is_type_by r id.kind && not (id.instance == ANY_INSTANCE)

abbrev pub is_number_by : Rule → ℕ → Bool
is_number_by rule.Profile n = is_right_number n
is_number_by rule.Described n = is_stored_number n

-- a description is a CharacterString; the present-value is a Real for the analog types, a state for the binary and the multi-state ones
abbrev pub are_right_values : (kind number : ℕ) → List ℕ → Bool
are_right_values k n values =
    if n == DESCRIPTION then is_of_kind (Some CHARACTER_STRING) values else
    (if n == PRESENT_VALUE then (if is_analog k then is_of_kind (Some REAL) values else is_state_of k values) else true)

abbrev pub is_property_by : Rule → ℕ → Property → Bool
is_property_by r k p =
    is_number_by r p.number && nat_le (length p.values) VALUE_LIMIT && are_right_values k p.number p.values && are_right_limits p.allowed p.values

abbrev pub is_right_property : ℕ → Property → Bool
is_right_property = is_property_by rule.Profile

-- exactly files have octets
abbrev pub is_right_file : ℕ → Option File → Bool
is_right_file k None = not (k == FILE)
is_right_file k (Some f) = (k == FILE) && nat_le (length f.octets) FILE_LIMIT

pub record IsRightBy (r : Rule) (o : Object) : Type 0 where
  pub id : IsTrue (is_id_by r o.id)
  pub name : length (value_spelling (characters 0 o.name)) ≤ VALUE_LIMIT
  pub each : All (λ p. IsTrue (is_property_by r o.id.kind p)) o.properties
  pub distinct : AllPairs (λ a b. a.number ≢ b.number) o.properties
  pub file : IsTrue (is_right_file o.id.kind o.file)

abbrev pub IsRight : Object → Type 0
IsRight = IsRightBy rule.Profile

-- ---- the store of some objects: look-ups find what the objects state

pub record IsLike (a b : Object) : Type 0 where
  pub id : a.id ≡ b.id
  pub name : a.name ≡ b.name
  pub listed : (n : ℕ) → listed_in a n ≡ listed_in b n
  pub file : a.file ≡ b.file

abbrev pub AreLike : Option Object → Option Object → Type 0
AreLike None None = Unit {0}
AreLike None (Some b) = ⊥
AreLike (Some a) None = ⊥
AreLike (Some a) (Some b) = IsLike a b

abbrev pub IsStoreOf : List Object → Store → Type 0
IsStoreOf objects s = (id : ObjectId) → AreLike (object_in s id) (object_in objects id)
