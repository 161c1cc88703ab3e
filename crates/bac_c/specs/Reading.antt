-- What a C program reads of the store of its own node.
use Rattle.std.specs.Prelude.{◌≡◌, ◌↔◌, ◌≤◌, ℕ, true, false, List, length, Option, Some, None, Result, IsErrOf, MatchOption}
use Rattle.std.specs.Option.{option_map}
use Rattle.bac_service.specs.Values as service
use Rattle.bac_value.specs.Value.{ObjectId}
use Rattle.bac_store.specs.Arrays.{element_of, elements_of}
use Rattle.bac_store.specs.Replies.{file_of as file_in}
use Rattle.bac_store.specs.Stores.{Store, Object, Property, object_in, property_in}
use Rattle.bac_store.specs.Targets.{read_in}
use Rattle.bac_c.specs.Asking.{file_of, reference_of}
use Rattle.bac_c.specs.Devices.{Holds, IsIdle, Runs}
use Rattle.bac_c.specs.Ranges.{is_instance, is_reference}
use Rattle.bac_c.specs.Statuses.{BAD_REQUEST, NOT_OPEN, NOT_STARTED, NO_MEMORY, NO_SUCH_OBJECT, NO_SUCH_PROPERTY}
use Rattle.bac_c.specs.declared.device.Device.{Device}
use Rattle.bac_c.specs.declared.fault.Fault.{Fault}
use Rattle.bac_c.specs.declared.fault.Fault.TheVariants as fault
use Rattle.bac_c.specs.declared.records.Reference.{Reference}

-- the element with an index, if the property is an array
abbrev pub element_at : (index : ℕ) → Option (List (List ℕ)) → Option (List ℕ)
element_at index None = None
element_at index (Some elements) = element_of elements index

-- all values of a property, or by an index one element
abbrev pub indexed_values : Property → (index : Option ℕ) → Option (List ℕ)
indexed_values p None = Some p.values
indexed_values p (Some index) = element_at index (elements_of p)

abbrev pub values_at : service.Reference → Option Property → Option (List ℕ)
values_at r None = None
values_at r (Some p) = indexed_values p r.index

-- the values of a property of an object, listed or computed
abbrev pub values_in : service.Reference → Object → Option (List ℕ)
values_in r o = values_at r (property_in o r.property)

-- all octets of a file
abbrev pub octets_in : Store → ObjectId → Option (List ℕ)
octets_in s id = option_map (λ f. f.octets) (file_in (object_in s id))

-- octets are there, and this holds of them
abbrev pub OfOctets : (List ℕ → Type 0) → Option (List ℕ) → Type 0
OfOctets p octets = MatchOption octets ⊥ p

-- of the values of a property, or of one element, this holds; the object is the one that a ReadProperty reads
abbrev pub OfValues : (List ℕ → Type 0) → service.Reference → Store → Type 0
OfValues p r s = MatchOption (read_in s r.object) ⊥ (λ o. OfOctets p (values_in r o))

-- there is no such object
abbrev pub LacksObject : service.Reference → Store → Type 0
LacksObject r s = read_in s r.object ≡ None

-- the object has no such property, or an element is meant and there is none
abbrev pub LacksProperty : service.Reference → Store → Type 0
LacksProperty r s = MatchOption (read_in s r.object) ⊥ (λ o. values_in r o ≡ None)

-- of the octets of a file this holds
abbrev pub OfFile : (List ℕ → Type 0) → ObjectId → Store → Type 0
OfFile p id s = OfOctets p (octets_in s id)

-- there is no such object, or it is no file
abbrev pub LacksFile : ObjectId → Store → Type 0
LacksFile id s = octets_in s id ≡ None

-- of what a reference that is right finds in the store of a node that is started this holds
abbrev pub Finds : (service.Reference → Store → Type 0) → Reference → Device → Type 0
Finds p r = Runs (λ n. (is_reference r ≡ true) × p (reference_of r) n.store)

abbrev pub FindsFile : (ObjectId → Store → Type 0) → (file : ℕ) → Device → Type 0
FindsFile p f = Runs (λ n. (is_instance f ≡ true) × p (file_of f) n.store)

-- ---- a read that is refused

-- a store is not asked whether the node is started, nor what a number may be
pub record IsStoreFault {X : Type 0} (result : Result X Fault) : Type 0 where
  pub idle : IsErrOf result fault.NotStarted → ⊥
  pub bad : IsErrOf result fault.BadRequest → ⊥
  pub not_closed : IsErrOf result fault.NotOpen → ⊥

-- what the fault of a read says of the values that a store has
pub record IsValuesFault {X : Type 0} (r : service.Reference) (s : Store) (result : Result X Fault) : Type 0 where
  pub object : IsErrOf result fault.NoSuchObject ↔ LacksObject r s
  pub property : IsErrOf result fault.NoSuchProperty ↔ LacksProperty r s
  pub memory : IsErrOf result fault.NoMemory → OfValues (λ octets. 1 ≤ length octets) r s
  pub others : IsStoreFault result

-- what it says of a device, where values are read
pub record IsReadFault {X : Type 0} (r : Reference) (d : Device) (result : Result X Fault) : Type 0 where
  pub idle : IsErrOf result fault.NotStarted ↔ IsIdle d
  pub bad : IsErrOf result fault.BadRequest ↔ Runs (λ n. is_reference r ≡ false) d
  pub object : IsErrOf result fault.NoSuchObject ↔ Finds LacksObject r d
  pub property : IsErrOf result fault.NoSuchProperty ↔ Finds LacksProperty r d
  pub memory : IsErrOf result fault.NoMemory → Finds (OfValues (λ octets. 1 ≤ length octets)) r d
  pub not_closed : IsErrOf result fault.NotOpen → ⊥

-- what it says of a device, where a file is read
pub record IsFileReadFault {X : Type 0} (file : ℕ) (d : Device) (result : Result X Fault) : Type 0 where
  pub idle : IsErrOf result fault.NotStarted ↔ IsIdle d
  pub bad : IsErrOf result fault.BadRequest ↔ Runs (λ n. is_instance file ≡ false) d
  pub object : IsErrOf result fault.NoSuchObject ↔ FindsFile LacksFile file d
  pub memory : IsErrOf result fault.NoMemory → FindsFile (OfFile (λ octets. 1 ≤ length octets)) file d
  pub not_closed : IsErrOf result fault.NotOpen → ⊥

-- what the status of a read says of what is behind the handle, where values are read
pub record IsReadStatus (r : Reference) (held : Option Device) (status : ℕ) : Type 0 where
  pub closed : (status ≡ NOT_OPEN) ↔ (held ≡ None)
  pub idle : (status ≡ NOT_STARTED) ↔ Holds IsIdle held
  pub bad : (status ≡ BAD_REQUEST) ↔ Holds (Runs (λ n. is_reference r ≡ false)) held
  pub object : (status ≡ NO_SUCH_OBJECT) ↔ Holds (Finds LacksObject r) held
  pub property : (status ≡ NO_SUCH_PROPERTY) ↔ Holds (Finds LacksProperty r) held
  pub memory : status ≡ NO_MEMORY → Holds (Finds (OfValues (λ octets. 1 ≤ length octets)) r) held

-- where a file is read
pub record IsFileReadStatus (file : ℕ) (held : Option Device) (status : ℕ) : Type 0 where
  pub closed : (status ≡ NOT_OPEN) ↔ (held ≡ None)
  pub idle : (status ≡ NOT_STARTED) ↔ Holds IsIdle held
  pub bad : (status ≡ BAD_REQUEST) ↔ Holds (Runs (λ n. is_instance file ≡ false)) held
  pub object : (status ≡ NO_SUCH_OBJECT) ↔ Holds (FindsFile LacksFile file) held
  pub memory : status ≡ NO_MEMORY → Holds (FindsFile (OfFile (λ octets. 1 ≤ length octets)) file) held
