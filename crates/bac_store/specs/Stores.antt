-- A store: objects with their properties and files (clause 12), as plain values.
use Rattle.std.specs.Prelude.{ℕ, Bool, false, ◌==◌, ◌&&◌, List, [], ◌∷◌, length, Option, Some, None, is_some, if◌then◌else◌}
use Rattle.std.specs.Option.{option_map}
use Rattle.bac_value.specs.Value.{ObjectId, Datum, kind_number, object, characters, enumerated, unsigned}
use Rattle.bac_value.specs.Writing.{value_spelling}
use Rattle.bac_store.specs.Limits.{FILE_ACCESS_METHOD, FILE_SIZE, OBJECT_IDENTIFIER, OBJECT_NAME, OBJECT_TYPE, READ_ONLY, STREAM_ACCESS}
use Rattle.bac_store.specs.Allowing.{Allowed}

-- values are encoded data; the kind is the application tag that they must have, or None if any data are valid; of those, a WriteProperty may set what
-- is allowed
pub record Property : Type 0 where
  pub number : ℕ
  pub values : List ℕ
  pub writable : Bool
  pub kind : Option ℕ
  pub allowed : Allowed

pub record File : Type 0 where
  pub octets : List ℕ
  pub writable : Bool

-- the name is a text in character set 0; the properties are those that are not computed; only a file has octets
pub record Object : Type 0 where
  pub id : ObjectId
  pub name : List ℕ
  pub properties : List Property
  pub file : Option File

-- no two objects have the same identifier, and no two properties of an object the same number; their order is irrelevant
abbrev pub Store : Type 0
Store = List Object

-- ---- looking up

abbrev pub first_that : {A : Type 0} → (A → Bool) → List A → Option A
first_that test [] = None
first_that test (x ∷ xs) = if test x then Some x else first_that test xs

abbrev pub is_same : ObjectId → ObjectId → Bool
is_same a b = (a.kind == b.kind) && (a.instance == b.instance)

abbrev pub is_object : ObjectId → Object → Bool
is_object id o = is_same id o.id

abbrev pub is_number : ℕ → Property → Bool
is_number n p = p.number == n

abbrev pub object_in : Store → ObjectId → Option Object
object_in s id = first_that (is_object id) s

abbrev pub listed_in : Object → ℕ → Option Property
listed_in o n = first_that (is_number n) o.properties

-- ---- computed properties: one application value each, not writable but for the size of some files

abbrev pub computed : ℕ → Datum → Property
computed n d = record { number = n; values = value_spelling d; writable = false; kind = Some (kind_number d); allowed = Allowed.Any }

-- the access method of every file: a stream of octets (BACnetFileAccessMethod)
abbrev pub access_method : File → Property
access_method f = computed FILE_ACCESS_METHOD (enumerated STREAM_ACCESS)

-- a file that can be written
abbrev pub is_written : Option File → Bool
is_written None = false
is_written (Some f) = f.writable

-- clause 12.13: who may write a file may also set its size, if the object lists read-only
abbrev pub is_sizable : Object → Bool
is_sizable o = is_written o.file && is_some (listed_in o READ_ONLY)

-- from no octets to the most that a file has: an Unsigned of 0, and one of 60,000
abbrev pub sizes : Allowed
sizes = Allowed.Between (0x21 ∷ 0 ∷ []) (0x22 ∷ 0xEA ∷ 0x60 ∷ [])

abbrev pub sized : (writable : Bool) → ℕ → Property
sized writable n = record (computed FILE_SIZE (unsigned n)) { writable = writable; allowed = sizes }

abbrev pub file_size : Object → File → Property
file_size o f = sized (is_sizable o) (length f.octets)

-- clause 12: identifier, name and type of every object, access method and size of every file; all other properties are listed
abbrev pub property_in : Object → ℕ → Option Property
property_in o n =
    if n == OBJECT_IDENTIFIER then Some (computed n (object o.id)) else
    (if n == OBJECT_NAME then Some (computed n (characters 0 o.name)) else
    (if n == OBJECT_TYPE then Some (computed n (enumerated o.id.kind)) else
    (if n == FILE_ACCESS_METHOD then option_map access_method o.file else
    (if n == FILE_SIZE then option_map (file_size o) o.file else listed_in o n))))
