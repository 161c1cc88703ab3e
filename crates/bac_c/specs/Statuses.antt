-- The status of a call, as a C program sees it: 0 where it was done, otherwise the number of a fault (own numbers of this library).
use Rattle.std.specs.Prelude.{◌≡◌, ◌↔◌, ℕ, Bool, false, ◌==◌, ◌||◌, List, [], ◌∷◌, Result, Ok, Err, IsErrOf}
use Rattle.bac_c.specs.declared.fault.Fault.{Fault}
use Rattle.bac_c.specs.declared.fault.Fault.TheVariants as fault

abbrev pub DONE : ℕ
DONE = 0

abbrev pub CLOCK_BACK : ℕ
CLOCK_BACK = 1

abbrev pub NO_MEMORY : ℕ
NO_MEMORY = 2

abbrev pub NOT_OPEN : ℕ
NOT_OPEN = 3

abbrev pub NOT_STARTED : ℕ
NOT_STARTED = 4

abbrev pub ALREADY_OPEN : ℕ
ALREADY_OPEN = 5

abbrev pub ALREADY_STARTED : ℕ
ALREADY_STARTED = 6

abbrev pub BAD_SETTINGS : ℕ
BAD_SETTINGS = 7

abbrev pub BAD_OBJECT : ℕ
BAD_OBJECT = 8

abbrev pub DUPLICATE : ℕ
DUPLICATE = 9

abbrev pub BAD_REQUEST : ℕ
BAD_REQUEST = 10

abbrev pub SELF_PEER : ℕ
SELF_PEER = 11

abbrev pub TOO_LONG : ℕ
TOO_LONG = 12

abbrev pub NEEDS_SEGMENTS : ℕ
NEEDS_SEGMENTS = 13

abbrev pub NO_INVOKE_ID : ℕ
NO_INVOKE_ID = 14

abbrev pub NO_SLOT : ℕ
NO_SLOT = 15

abbrev pub NO_SUCH_OBJECT : ℕ
NO_SUCH_OBJECT = 16

abbrev pub NO_SUCH_PROPERTY : ℕ
NO_SUCH_PROPERTY = 17

abbrev pub BAD_VALUE : ℕ
BAD_VALUE = 18

abbrev pub fault_number : Fault → ℕ
fault_number fault.ClockBack = CLOCK_BACK
fault_number fault.NoMemory = NO_MEMORY
fault_number fault.NotOpen = NOT_OPEN
fault_number fault.NotStarted = NOT_STARTED
fault_number fault.AlreadyOpen = ALREADY_OPEN
fault_number fault.AlreadyStarted = ALREADY_STARTED
fault_number fault.BadSettings = BAD_SETTINGS
fault_number fault.BadObject = BAD_OBJECT
fault_number fault.Duplicate = DUPLICATE
fault_number fault.BadRequest = BAD_REQUEST
fault_number fault.SelfPeer = SELF_PEER
fault_number fault.TooLong = TOO_LONG
fault_number fault.NeedsSegments = NEEDS_SEGMENTS
fault_number fault.NoInvokeId = NO_INVOKE_ID
fault_number fault.NoSlot = NO_SLOT
fault_number fault.NoSuchObject = NO_SUCH_OBJECT
fault_number fault.NoSuchProperty = NO_SUCH_PROPERTY
fault_number fault.BadValue = BAD_VALUE

abbrev pub status_of : {X : Type 0} → Result X Fault → ℕ
status_of (Ok _) = DONE
status_of (Err f) = fault_number f

abbrev pub is_one_of : List ℕ → ℕ → Bool
is_one_of [] n = false
is_one_of (x ∷ xs) n = (n == x) || is_one_of xs n

-- the status of what was done, which tells the fault if there is one
pub record IsStatusOf (done : Result (Unit {0}) Fault) (status : ℕ) : Type 0 where
  pub same : status ≡ status_of done
  pub clock_back : (status ≡ CLOCK_BACK) ↔ IsErrOf done fault.ClockBack
  pub no_memory : (status ≡ NO_MEMORY) ↔ IsErrOf done fault.NoMemory
  pub not_open : (status ≡ NOT_OPEN) ↔ IsErrOf done fault.NotOpen
  pub not_started : (status ≡ NOT_STARTED) ↔ IsErrOf done fault.NotStarted
  pub already_open : (status ≡ ALREADY_OPEN) ↔ IsErrOf done fault.AlreadyOpen
  pub already_started : (status ≡ ALREADY_STARTED) ↔ IsErrOf done fault.AlreadyStarted
  pub bad_settings : (status ≡ BAD_SETTINGS) ↔ IsErrOf done fault.BadSettings
  pub bad_object : (status ≡ BAD_OBJECT) ↔ IsErrOf done fault.BadObject
  pub duplicate : (status ≡ DUPLICATE) ↔ IsErrOf done fault.Duplicate
  pub bad_request : (status ≡ BAD_REQUEST) ↔ IsErrOf done fault.BadRequest
  pub no_such_object : (status ≡ NO_SUCH_OBJECT) ↔ IsErrOf done fault.NoSuchObject
  pub no_such_property : (status ≡ NO_SUCH_PROPERTY) ↔ IsErrOf done fault.NoSuchProperty
  pub bad_value : (status ≡ BAD_VALUE) ↔ IsErrOf done fault.BadValue

-- ---- which statuses a call answers

abbrev pub OPENING : List ℕ
OPENING = DONE ∷ NO_MEMORY ∷ ALREADY_OPEN ∷ []

abbrev pub LISTING : List ℕ
LISTING = DONE ∷ NO_MEMORY ∷ NOT_OPEN ∷ ALREADY_STARTED ∷ BAD_OBJECT ∷ []

abbrev pub STARTING : List ℕ
STARTING = DONE ∷ NO_MEMORY ∷ NOT_OPEN ∷ ALREADY_STARTED ∷ BAD_SETTINGS ∷ BAD_OBJECT ∷ DUPLICATE ∷ []

abbrev pub DESCRIBED_STARTING : List ℕ
DESCRIBED_STARTING = DONE ∷ NO_MEMORY ∷ NOT_OPEN ∷ ALREADY_STARTED ∷ BAD_SETTINGS ∷ BAD_OBJECT ∷ []

abbrev pub RESTORING : List ℕ
RESTORING = DONE ∷ NO_MEMORY ∷ NOT_OPEN ∷ ALREADY_STARTED ∷ BAD_SETTINGS ∷ BAD_OBJECT ∷ BAD_VALUE ∷ DUPLICATE ∷ []

abbrev pub DESCRIBED_RESTORING : List ℕ
DESCRIBED_RESTORING = DONE ∷ NO_MEMORY ∷ NOT_OPEN ∷ ALREADY_STARTED ∷ BAD_SETTINGS ∷ BAD_OBJECT ∷ BAD_VALUE ∷ []

-- what cells over a store that is made are refused with
abbrev pub WITH_CELLS : List ℕ
WITH_CELLS = NO_MEMORY ∷ BAD_VALUE ∷ []

abbrev pub TELLING : List ℕ
TELLING = DONE ∷ NO_MEMORY ∷ NOT_OPEN ∷ ALREADY_STARTED ∷ []

abbrev pub HOUSE_STARTING : List ℕ
HOUSE_STARTING = DONE ∷ NO_MEMORY ∷ NOT_OPEN ∷ ALREADY_STARTED ∷ BAD_SETTINGS ∷ []

abbrev pub READING : List ℕ
READING = DONE ∷ NO_MEMORY ∷ NOT_OPEN ∷ NOT_STARTED ∷ BAD_REQUEST ∷ NO_SUCH_OBJECT ∷ NO_SUCH_PROPERTY ∷ []

abbrev pub FILE_READING : List ℕ
FILE_READING = DONE ∷ NO_MEMORY ∷ NOT_OPEN ∷ NOT_STARTED ∷ BAD_REQUEST ∷ NO_SUCH_OBJECT ∷ []

abbrev pub ASKING : List ℕ
ASKING =
    DONE
    ∷ CLOCK_BACK
    ∷ NO_MEMORY
    ∷ NOT_OPEN
    ∷ NOT_STARTED
    ∷ BAD_REQUEST
    ∷ SELF_PEER
    ∷ TOO_LONG
    ∷ NEEDS_SEGMENTS
    ∷ NO_INVOKE_ID
    ∷ NO_SLOT
    ∷ []

abbrev pub CHANGING : List ℕ
CHANGING = DONE ∷ NO_MEMORY ∷ NOT_OPEN ∷ NOT_STARTED ∷ BAD_REQUEST ∷ TOO_LONG ∷ NO_SUCH_OBJECT ∷ NO_SUCH_PROPERTY ∷ BAD_VALUE ∷ []
