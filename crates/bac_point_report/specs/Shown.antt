-- The values of a property as people write them.
use Rattle.std.specs.Prelude.{ℕ, List}
use Rattle.bac_point_text.specs.ListAlone.{IsListAlone}
use Rattle.bac_point_text.specs.PropertyNames.{enumeration_of}
use Rattle.bac_service.specs.Values.{Reference}

-- each alone, with the names that the values of the property have
abbrev pub IsShown : Reference → (run text : List ℕ) → Type 0
IsShown r run text = IsListAlone (enumeration_of r.object.kind r.property) run text
