-- The results of readers in code that may allocate.
use Rattle.std.specs.Prelude.{◌≡◌, ⊤, List, ℕ, Option, Result, Ok, Err}
use Rattle.bac_value.specs.Value.{ObjectId}
use Rattle.bac_objects.specs.declared.fault.ValueFault.{ValueFault}
use Rattle.bac_objects.specs.declared.fault.ValueFault.TheVariants.{Wrong, NoMemory}
use Rattle.bac_objects.specs.declared.fault.ObjectFault.{ObjectFault}
use Rattle.bac_objects.specs.declared.fault.ObjectFault.TheVariants as object_fault
use Rattle.bac_objects.specs.Objects.{Flaw}
use Rattle.bac_objects.specs.Views.{flaw_view}
use Rattle.bac_objects.specs.declared.problem.Problem.{Problem}

-- what is expected, unless an allocation failed
abbrev pub Reads : {A B : Type 0} → (A → B) → Result A ValueFault → Result B Problem → Type 0
Reads view (Ok x) read = read ≡ Ok (view x)
Reads view (Err (Wrong p)) read = read ≡ Err p
Reads view (Err NoMemory) read = ⊤

-- the same for a reader of an object's table
abbrev pub ReadsObject : {A B : Type 0} → (A → B) → Result A ObjectFault → Result B Flaw → Type 0
ReadsObject view (Ok x) read = read ≡ Ok (view x)
ReadsObject view (Err (object_fault.Flaw f)) read = read ≡ Err (flaw_view f)
ReadsObject view (Err object_fault.NoMemory) read = ⊤

-- the fault of a value, at a key of an object
abbrev pub IsAt : Option ObjectId → (key : List ℕ) → ValueFault → ObjectFault → Type 0
IsAt id key (Wrong p) (object_fault.Flaw f) = flaw_view f ≡ record { id = id; key = key; problem = p }
IsAt id key (Wrong p) object_fault.NoMemory = ⊥
IsAt id key NoMemory (object_fault.Flaw f) = ⊥
IsAt id key NoMemory object_fault.NoMemory = ⊤
