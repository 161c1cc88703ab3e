-- Local changes, which no request makes: new values of one listed property, or new octets of one file.
use Rattle.std.specs.Prelude.{◌≡◌, ℕ, ◌≤◌, Bool, true, false, ◌&&◌, nat_lt, List, [], ◌∷◌, length, Option, Some, None, Result, Ok, Err}
use Rattle.std.specs.Prelude.{if◌then◌else◌}
use Rattle.bac_value.specs.declared.fault.FaultKind.{FaultKind}
use Rattle.bac_value.specs.Reading.{data_of}
use Rattle.bac_value.specs.Value.{ObjectId}
use Rattle.bac_service.specs.Values.{Reference}
use Rattle.bac_store.specs.declared.change_fault.ChangeFault.{ChangeFault}
use Rattle.bac_store.specs.declared.change_fault.ChangeFault.TheVariants as fault
use Rattle.bac_store.specs.Changes.{with_object, with_octets, with_values}
use Rattle.bac_store.specs.Limits.{FILE_LIMIT, VALUE_LIMIT}
use Rattle.bac_store.specs.Replies.{file_of, is_of_kind, is_right_state}
use Rattle.bac_store.specs.Stores.{Store, Property, listed_in, object_in}

pub data Change : Type 0 where
  Value : (object : ObjectId) (property : ℕ) (octets : List ℕ) → Change
  File : (object : ObjectId) (octets : List ℕ) → Change

-- the store after a change: flags and kinds stay
abbrev pub changed : Change → Store → Store
changed (Change.Value id n octets) s = with_object id (with_values n octets) s
changed (Change.File id octets) s = with_object id (with_octets (λ old. octets)) s

-- ---- which changes are made

abbrev pub reads_all : Result (List ℕ) FaultKind → Bool
reads_all (Ok []) = true
reads_all (Ok (x ∷ xs)) = false
reads_all (Err e) = false

-- the octets as a whole are data
abbrev pub is_data : List ℕ → Bool
is_data octets = reads_all (data_of octets)

-- the reference to the property as a whole
abbrev pub whole : ObjectId → ℕ → Reference
whole id n = record { object = id; property = n; index = None }

-- the octets are data of the property's kind, and a state of the object if they are its present-value; what WriteProperty may set does not bind the
-- node itself
abbrev pub is_value_for : Reference → List ℕ → Property → Bool
is_value_for r octets p = is_data octets && is_of_kind p.kind octets && is_right_state r octets

-- the fault if there is no such object or property, otherwise the fault of the one that was found
abbrev pub or_fault : {A : Type 0} → ChangeFault → Option A → (A → Option ChangeFault) → Option ChangeFault
or_fault e None find = Some e
or_fault e (Some x) find = find x

-- the fault if there are more octets than a limit
abbrev pub length_fault : ℕ → List ℕ → Option ChangeFault
length_fault most octets = if nat_lt most (length octets) then Some fault.TooLong else None

abbrev pub value_fault : Reference → List ℕ → Property → Option ChangeFault
value_fault r octets p = if is_value_for r octets p then length_fault VALUE_LIMIT octets else Some fault.BadValue

-- the first fault of a change; None if it is made, unless an allocation fails
abbrev pub change_fault : Store → Change → Option ChangeFault
change_fault s (Change.Value id n octets) =
    or_fault fault.NoSuchObject (object_in s id) (λ o. or_fault fault.NoSuchProperty (listed_in o n) (value_fault (whole id n) octets))
change_fault s (Change.File id octets) = or_fault fault.NoSuchObject (file_of (object_in s id)) (λ f. length_fault FILE_LIMIT octets)

abbrev pub octets_of : Change → List ℕ
octets_of (Change.Value id n octets) = octets
octets_of (Change.File id octets) = octets

-- a fault that the change has, or a failed allocation for its octets
abbrev pub IsFaultOf : Store → Change → ChangeFault → Type 0
IsFaultOf s c fault.NoSuchObject = change_fault s c ≡ Some fault.NoSuchObject
IsFaultOf s c fault.NoSuchProperty = change_fault s c ≡ Some fault.NoSuchProperty
IsFaultOf s c fault.BadValue = change_fault s c ≡ Some fault.BadValue
IsFaultOf s c fault.TooLong = change_fault s c ≡ Some fault.TooLong
IsFaultOf s c fault.NoMemory = (change_fault s c ≡ None) × (1 ≤ length (octets_of c))

-- own numbers of this profile
abbrev pub change_fault_number : ChangeFault → ℕ
change_fault_number fault.NoSuchObject = 1
change_fault_number fault.NoSuchProperty = 2
change_fault_number fault.BadValue = 3
change_fault_number fault.TooLong = 4
change_fault_number fault.NoMemory = 5
