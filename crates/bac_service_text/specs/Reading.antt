-- What a call answers that reads words.
use Rattle.std.specs.Prelude.{◌≡◌, ⊤, Option, Some, None, Result, Ok, Err}
use Rattle.bac_service_text.specs.declared.form_fault.FormFault.{FormFault}
use Rattle.bac_service_text.specs.declared.form_fault.FormFault.TheVariants.{NoForm, NoMemory}

-- the value that is wanted; or a fault: there is none, or memory ran out
abbrev pub Reads : {A B : Type 0} → (A → B) → Result A FormFault → (wanted : Option B) → Type 0
Reads view (Ok x) wanted = wanted ≡ Some (view x)
Reads view (Err NoForm) wanted = wanted ≡ None
Reads view (Err NoMemory) wanted = ⊤
