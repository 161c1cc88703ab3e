-- The result of reading a document.
use Rattle.std.specs.Prelude.{◌≡◌, ⊤, ℕ, Bool, true, false, if◌then◌else◌, IsUtf8, List, map, Option, Some, None, Result, Ok, Err}
use Rattle.std.specs.Global.{Vec}
use Rattle.std.specs.Option.{option_map}
use Rattle.std.specs.String.{string_bytes}
use Rattle.bac_value.specs.Views.{object_identifier_view}
use Rattle.bac_store.specs.declared.object.Object as code
use Rattle.bac_store.specs.declared.store.Store.{Store}
use Rattle.bac_store.specs.Described.{IsDescribedBy, IsDescriptionFault}
use Rattle.bac_store.specs.declared.description_fault.DescriptionFault.{DescriptionFault}
use Rattle.bac_store.specs.Made.{IsMadeOf}
use Rattle.bac_store.specs.Views.{object_view}
use Rattle.bac_store.specs.Stores.{Object}
use Rattle.toml.specs.Data.{Members}
use Rattle.toml.specs.Parse.{parse_document}
use Rattle.bac_objects.specs.Described.{is_described}
use Rattle.bac_objects.specs.Described.{objects_in as described_in}
use Rattle.bac_objects.specs.Objects.{Fault, objects_in}
use Rattle.bac_objects.specs.Views.{flaw_view}
use Rattle.bac_objects.specs.declared.problem.Problem.{Problem}
use Rattle.bac_objects.specs.declared.fault.ObjectFault.{ObjectFault}
use Rattle.bac_objects.specs.declared.fault.ObjectFault.TheVariants as object_fault
use Rattle.bac_objects.specs.declared.fault.Place.{Place}
use Rattle.bac_objects.specs.declared.fault.DocumentFault.{DocumentFault}
use Rattle.bac_objects.specs.declared.fault.DocumentFault.TheVariants as fault

abbrev pub fault_view : Place → Problem → Fault
fault_view place problem =
    record {
      object = place.object;
      flaw = record { id = option_map object_identifier_view place.id; key = string_bytes place.key; problem = problem };
    }

-- the result of reading objects: what is expected, the first fault, or a failed allocation
abbrev pub ReadsDocument : {A B : Type 0} → (A → B) → Result A DocumentFault → Result B Fault → Type 0
ReadsDocument view (Ok x) read = read ≡ Ok (view x)
ReadsDocument view (Err (fault.Wrong place problem)) read = read ≡ Err (fault_view place problem)
ReadsDocument view (Err (fault.NoToml line error)) read = ⊥
ReadsDocument view (Err (fault.Refused r)) read = ⊥
ReadsDocument view (Err fault.NoMemory) read = ⊤

-- the fault in an object's table, with the number of the object
abbrev pub IsInObject : ℕ → ObjectFault → DocumentFault → Type 0
IsInObject n (object_fault.Flaw f) (fault.Wrong place problem) = fault_view place problem ≡ record { object = n; flaw = flaw_view f }
IsInObject n (object_fault.Flaw f) (fault.NoToml line error) = ⊥
IsInObject n (object_fault.Flaw f) (fault.Refused r) = ⊥
IsInObject n (object_fault.Flaw f) fault.NoMemory = ⊤
IsInObject n object_fault.NoMemory e = e ≡ fault.NoMemory

-- ---- the store

abbrev pub IsMeant : Result (List Object) Fault → Store → Type 0
IsMeant (Ok objects) s = IsMadeOf objects s
IsMeant (Err f) s = ⊥

-- the store of the objects of a table, its first fault, or a failed allocation
abbrev pub IsReadTable : Members → Result Store DocumentFault → Type 0
IsReadTable ms (Ok s) = IsMeant (objects_in ms) s
IsReadTable ms (Err (fault.Wrong place problem)) = objects_in ms ≡ Err (fault_view place problem)
IsReadTable ms (Err (fault.NoToml line error)) = ⊥
IsReadTable ms (Err (fault.Refused r)) = ⊥
IsReadTable ms (Err fault.NoMemory) = ⊤

-- the store that the objects of a table describe, its first fault, why they do not describe one, or a failed allocation
abbrev pub AreDescribing : Result (List Object) Fault → Store → Type 0
AreDescribing (Ok objects) s = IsDescribedBy objects s
AreDescribing (Err f) s = ⊥

abbrev pub AreRefused : Result (List Object) Fault → DescriptionFault → Type 0
AreRefused (Ok objects) e = IsDescriptionFault objects e
AreRefused (Err f) e = ⊥

abbrev pub IsDescribedTable : Members → Result Store DocumentFault → Type 0
IsDescribedTable ms (Ok s) = AreDescribing (described_in ms) s
IsDescribedTable ms (Err (fault.Wrong place problem)) = described_in ms ≡ Err (fault_view place problem)
IsDescribedTable ms (Err (fault.NoToml line error)) = ⊥
IsDescribedTable ms (Err (fault.Refused r)) = AreRefused (described_in ms) r.fault
IsDescribedTable ms (Err fault.NoMemory) = ⊤

abbrev pub IsTable : Bool → Members → Result Store DocumentFault → Type 0
IsTable true ms r = IsDescribedTable ms r
IsTable false ms r = IsReadTable ms r

abbrev pub IsReadOf : Option Members → Result Store DocumentFault → Type 0
IsReadOf (Some ms) r = IsTable (is_described ms) ms r
IsReadOf None r = ⊥

-- the same for a text, which may be no TOML in UTF-8
abbrev pub IsRead : (text : List ℕ) → Result Store DocumentFault → Type 0
IsRead text (Err (fault.NoToml line error)) = IsUtf8 text → parse_document text ≡ None
IsRead text (Err fault.NoMemory) = ⊤
IsRead text (Err (fault.Wrong place problem)) = IsUtf8 text × IsReadOf (parse_document text) (Err (fault.Wrong place problem))
IsRead text (Err (fault.Refused r)) = IsUtf8 text × IsReadOf (parse_document text) (Err (fault.Refused r))
IsRead text (Ok s) = IsUtf8 text × IsReadOf (parse_document text) (Ok s)

-- ---- the objects of the store

-- the objects of a table, in the order of the document, or its first fault
abbrev pub objects_by : Bool → Members → Result (List Object) Fault
objects_by described ms = if described then described_in ms else objects_in ms

abbrev pub AreReadTable : Members → Result (Vec code.Object) DocumentFault → Type 0
AreReadTable ms r = ReadsDocument (λ v. map object_view v.items) r (objects_by (is_described ms) ms)

abbrev pub AreReadOf : Option Members → Result (Vec code.Object) DocumentFault → Type 0
AreReadOf (Some ms) r = AreReadTable ms r
AreReadOf None r = ⊥

-- the same for a text, which may be no TOML in UTF-8
abbrev pub AreRead : (text : List ℕ) → Result (Vec code.Object) DocumentFault → Type 0
AreRead text (Err (fault.NoToml line error)) = IsUtf8 text → parse_document text ≡ None
AreRead text (Err fault.NoMemory) = ⊤
AreRead text (Err (fault.Wrong place problem)) = IsUtf8 text × AreReadOf (parse_document text) (Err (fault.Wrong place problem))
AreRead text (Err (fault.Refused r)) = ⊥
AreRead text (Ok v) = IsUtf8 text × AreReadOf (parse_document text) (Ok v)
