-- The results of look-ups in code: the only place whose element passes a test.
use Rattle.std.specs.Prelude.{◌≡◌, ◌≢◌, ℕ, ◌<◌, Bool, true, false, List, length, Option, Some, slice_get, slice_index_or}
use Rattle.std.specs.Option.{MatchOption}
use Rattle.std.specs.List.{All}
use Rattle.bac_value.specs.Value.{Datum, object, characters, enumerated, unsigned}
use Rattle.bac_store.specs.declared.lookups.Computed.{Computed}
use Rattle.bac_store.specs.declared.lookups.Computed.TheVariants as own
use Rattle.bac_store.specs.declared.lookups.Found.{Found}
use Rattle.bac_store.specs.declared.lookups.Found.TheVariants as found
use Rattle.bac_store.specs.Limits.{FILE_ACCESS_METHOD, FILE_SIZE, OBJECT_IDENTIFIER, OBJECT_NAME, OBJECT_TYPE, STREAM_ACCESS}
use Rattle.bac_store.specs.Allowing.{Allowed}
use Rattle.bac_store.specs.Stores.{Object, Property, computed, is_sizable, sizes}

-- seen through a view, the element at a place passes the test, and no other does
pub record IsOnly {A B : Type 0} (view : A → B) (test : B → Bool) (xs : List A) (i : ℕ) : Type 0 where
  pub within : i < length xs
  pub passes : (d : A) → test (view (slice_index_or xs i d)) ≡ true
  pub others : (j : ℕ) (d : A) → j < length xs → j ≢ i → test (view (slice_index_or xs j d)) ≡ false

-- a search found the only such place, or found that there is none
abbrev pub IsPlaceOf : {A B : Type 0} → (A → B) → (B → Bool) → List A → Option ℕ → Type 0
IsPlaceOf view test xs result = MatchOption result (All (λ x. test (view x) ≡ false) xs) (IsOnly view test xs)

-- the number and the value of a computed property
abbrev pub computed_number : Computed → ℕ
computed_number own.Identifier = OBJECT_IDENTIFIER
computed_number own.Name = OBJECT_NAME
computed_number own.Type = OBJECT_TYPE
computed_number own.AccessMethod = FILE_ACCESS_METHOD
computed_number (own.Size len) = FILE_SIZE

abbrev pub computed_value : Object → Computed → Datum
computed_value o own.Identifier = object o.id
computed_value o own.Name = characters 0 o.name
computed_value o own.Type = enumerated o.id.kind
computed_value o own.AccessMethod = enumerated STREAM_ACCESS
computed_value o (own.Size len) = unsigned len

abbrev pub is_computed_writable : Object → Computed → Bool
is_computed_writable o own.Identifier = false
is_computed_writable o own.Name = false
is_computed_writable o own.Type = false
is_computed_writable o own.AccessMethod = false
is_computed_writable o (own.Size len) = is_sizable o

abbrev pub computed_limits : Computed → Allowed
computed_limits own.Identifier = Allowed.Any
computed_limits own.Name = Allowed.Any
computed_limits own.Type = Allowed.Any
computed_limits own.AccessMethod = Allowed.Any
computed_limits (own.Size len) = sizes

abbrev pub computed_of : Object → Computed → Property
computed_of o c =
    record (computed (computed_number c) (computed_value o c)) { writable = is_computed_writable o c; allowed = computed_limits c }

-- the property that the code found in an object
abbrev pub found_in : Object → Found → Option Property
found_in o (found.Computed c) = Some (computed_of o c)
found_in o (found.Listed at) = slice_get o.properties at
