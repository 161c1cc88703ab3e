-- The frames of a transaction, and what is wrong with them.
use Rattle.std.specs.Prelude.{ℕ, List, [], ◌∷◌, map, Option, Some, None}
use Rattle.bac_explain.specs.Texts.{finding_text}
use Rattle.bac_explain.specs.declared.finding.Finding.{Finding}
use Rattle.bac_explain.specs.declared.step.Step.{Step}
use Rattle.serde_json.specs.Data.{Data, array, number, string, unsigned}
use Rattle.serde_json.specs.View.{items_of}

-- their numbers
abbrev pub frame_form : Step → Data
frame_form s = number (unsigned s.frame)

abbrev pub frames_form : List Step → Data
frames_form steps = array (items_of (map frame_form steps))

-- what is wrong with one of them, before the others
abbrev pub before : Option Finding → List Data → List Data
before None others = others
before (Some finding) others = string (finding_text finding) ∷ others

abbrev pub findings_in : List Step → List Data
findings_in [] = []
findings_in (s ∷ steps) = before s.finding (findings_in steps)

abbrev pub findings_form : List Step → Data
findings_form steps = array (items_of (findings_in steps))
