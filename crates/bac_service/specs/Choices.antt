-- The service choices (clause 21, BACnetConfirmedServiceChoice), as constants in code, and the kind of reply of each service.
use Rattle.std.specs.Prelude.{ℕ, Bool, true, false, ◌==◌, ◌||◌, List, codes, Option, Some, None, if◌then◌else◌}
use Rattle.bac_service.specs.declared.service.Service.{Service}
use Rattle.bac_service.specs.declared.service.Service.TheVariants as service
pub use Rattle.bac_service.specs.declared.service.TheConstants.{ATOMIC_READ_FILE, ATOMIC_WRITE_FILE, READ_PROPERTY, WRITE_PROPERTY}

-- a successful request is answered by a SimpleACK
abbrev pub has_simple_ack : ℕ → Bool
has_simple_ack choice = choice == WRITE_PROPERTY

-- a successful request is answered by a ComplexACK
abbrev pub has_complex_ack : ℕ → Bool
has_complex_ack choice = choice == ATOMIC_READ_FILE || (choice == ATOMIC_WRITE_FILE || choice == READ_PROPERTY)

-- the choice of one of the four services
abbrev pub is_served : ℕ → Bool
is_served choice = has_simple_ack choice || has_complex_ack choice

abbrev pub service_at : ℕ → Option Service
service_at choice =
    if choice == ATOMIC_READ_FILE then Some service.AtomicReadFile else
    (if choice == ATOMIC_WRITE_FILE then Some service.AtomicWriteFile else
    (if choice == READ_PROPERTY then Some service.ReadProperty else
    (if choice == WRITE_PROPERTY then Some service.WriteProperty else None)))

-- the choice of a service
abbrev pub choice_number : Service → ℕ
choice_number service.AtomicReadFile = ATOMIC_READ_FILE
choice_number service.AtomicWriteFile = ATOMIC_WRITE_FILE
choice_number service.ReadProperty = READ_PROPERTY
choice_number service.WriteProperty = WRITE_PROPERTY

-- the requests of a service change no store (clauses 14.1 and 15.5)
abbrev pub is_read_service : Service → Bool
is_read_service service.AtomicReadFile = true
is_read_service service.AtomicWriteFile = false
is_read_service service.ReadProperty = true
is_read_service service.WriteProperty = false

-- their choices
abbrev pub is_read_choice : (choice : ℕ) → Bool
is_read_choice choice = choice == READ_PROPERTY || choice == ATOMIC_READ_FILE

-- the first word of a request, as `bac ask` takes it
abbrev pub service_verb : Service → List ℕ
service_verb service.AtomicReadFile = codes "get"
service_verb service.AtomicWriteFile = codes "put"
service_verb service.ReadProperty = codes "read"
service_verb service.WriteProperty = codes "write"
