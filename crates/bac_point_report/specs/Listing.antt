-- The objects of a device, by its object-list.
use Rattle.std.specs.Prelude.{◌≡◌, ℕ, Bool, true, false, List, [], ◌∷◌, ◌++◌, map, Option, None, Some, IsSomeAnd}
use Rattle.bac_value.specs.Element.{Part, SpellsElement, part_spelling}
use Rattle.bac_value.specs.Meaning.{IsValueOf}
use Rattle.bac_value.specs.Value.{Datum, ObjectId, null, boolean, unsigned, signed, real, double, octets, characters, bits, enumerated, date, time, object}
use Rattle.bac_value.specs.Views.{object_identifier_view}
use Rattle.bac_service.specs.Values.{Reference}
use Rattle.bac_service.specs.Values.Request.{ReadProperty}
use Rattle.bac_ask_report.specs.Records.{Outcome, Answered, Rejected, Aborted, TimedOut, Expired, Refused, NoEnding, NoLink}
use Rattle.bac_point_report.specs.Outcomes.{values_of}
use Rattle.bac_point_report.specs.declared.listing.ListStep.{ListStep}
use Rattle.bac_point_report.specs.declared.listing.ListStep.TheVariants as step

-- the object that a value is
abbrev pub object_in : Datum → Option ObjectId
object_in null = None
object_in (boolean b) = None
object_in (unsigned n) = None
object_in (signed z) = None
object_in (real a) = None
object_in (double a) = None
object_in (octets a) = None
object_in (characters set a) = None
object_in (bits unused a) = None
object_in (enumerated n) = None
object_in (date a) = None
object_in (time a) = None
object_in (object i) = Some i

-- the first value is that object, and others follow
pub record IsFirstObject (i : ObjectId) (AreOthers : List ℕ → Type 0) (run : List ℕ) : Type 0 where
  pub element : Part
  pub others : List ℕ
  pub spelled : SpellsElement element (part_spelling element)
  pub is : run ≡ part_spelling element ++ others
  pub value : IsValueOf (object i) element
  pub more : AreOthers others

-- the values are these objects, one after the other
abbrev pub AreObjects : List ObjectId → (run : List ℕ) → Type 0
AreObjects [] run = run ≡ []
AreObjects (i ∷ others) run = IsFirstObject i (AreObjects others) run

-- they are no objects
abbrev pub AreNoObjects : (run : List ℕ) → Type 0
AreNoObjects run = (objects : List ObjectId) → AreObjects objects run → ⊥

-- the read of the property was answered with these objects
abbrev pub AreObjectsOf : Reference → Outcome → List ObjectId → Type 0
AreObjectsOf r how objects = IsSomeAnd (values_of (ReadProperty r) how) (AreObjects objects)

-- it was not answered with objects
abbrev pub AreNoObjectsOf : Reference → Outcome → Type 0
AreNoObjectsOf r how = (objects : List ObjectId) → AreObjectsOf r how objects → ⊥

-- the number that a value is
abbrev pub unsigned_in : Datum → Option ℕ
unsigned_in null = None
unsigned_in (boolean b) = None
unsigned_in (unsigned n) = Some n
unsigned_in (signed z) = None
unsigned_in (real a) = None
unsigned_in (double a) = None
unsigned_in (octets a) = None
unsigned_in (characters set a) = None
unsigned_in (bits unused a) = None
unsigned_in (enumerated n) = None
unsigned_in (date a) = None
unsigned_in (time a) = None
unsigned_in (object i) = None

-- the only value is that number
pub record IsNumber (n : ℕ) (run : List ℕ) : Type 0 where
  pub element : Part
  pub spelled : SpellsElement element (part_spelling element)
  pub is : run ≡ part_spelling element
  pub value : IsValueOf (unsigned n) element

abbrev pub IsNumberOf : Reference → Outcome → ℕ → Type 0
IsNumberOf r how n = IsSomeAnd (values_of (ReadProperty r) how) (IsNumber n)

-- there is no value, more than one, or one that is no number
abbrev pub IsNoNumber : (run : List ℕ) → Type 0
IsNoNumber run = (n : ℕ) → IsNumber n run → ⊥

-- it was not answered with one number
abbrev pub IsNoNumberOf : Reference → Outcome → Type 0
IsNoNumberOf r how = (n : ℕ) → IsNumberOf r how n → ⊥

-- an Abort came
abbrev pub is_aborted : Outcome → Bool
is_aborted (Answered r) = false
is_aborted (Rejected reason) = false
is_aborted (Aborted reason) = true
is_aborted TimedOut = false
is_aborted Expired = false
is_aborted (Refused fault) = false
is_aborted NoEnding = false
is_aborted NoLink = false

-- neither an Abort nor objects came
pub record IsFailed (r : Reference) (how : Outcome) : Type 0 where
  pub whole : is_aborted how ≡ false
  pub none : AreNoObjectsOf r how

-- the objects with which the read was answered; or an Abort came, so the list is read in parts
abbrev pub IsStep : Reference → Outcome → ListStep → Type 0
IsStep r how (step.Objects objects) = AreObjectsOf r how (map object_identifier_view objects.items)
IsStep r how step.InParts = is_aborted how ≡ true
IsStep r how step.Failed = IsFailed r how
