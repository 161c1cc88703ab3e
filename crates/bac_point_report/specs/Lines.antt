-- A value, or why there is none, on a line.
use Rattle.std.specs.Prelude.{ℕ, List, [], ◌∷◌, ◌++◌, Option, Some, None, codes, decimal}
use Rattle.bac_service.specs.Values.{Reference}
use Rattle.bac_value_text.specs.Texts.{object_text, property_text}
use Rattle.bac_ask_report.specs.Records.{Outcome}
use Rattle.bac_point_report.specs.Advice.{advice_line}
use Rattle.bac_point_report.specs.Outcomes.{failure_words}

-- in brackets, where there is one
abbrev pub index_text : Option ℕ → List ℕ
index_text None = []
index_text (Some index) = codes "[" ++ decimal index ++ codes "]"

-- a property, and its index
abbrev pub element_text : Reference → List ℕ
element_text r = property_text r.property ++ index_text r.index

abbrev pub names_text : (separator : ℕ) → Reference → List ℕ
names_text separator r = (object_text r.object ++ separator ∷ []) ++ element_text r

-- the names before a value
abbrev pub front_text : Option Reference → List ℕ
front_text None = []
front_text (Some r) = names_text 9 r ++ 9 ∷ []

abbrev pub value_line : Option Reference → (value : List ℕ) → List ℕ
value_line named value = (front_text named ++ value) ++ 10 ∷ []

abbrev pub failure_line : Reference → Outcome → List ℕ
failure_line r how = ((names_text 32 r ++ codes ": ") ++ failure_words how) ++ 10 ∷ []

abbrev pub failure_lines : Reference → Outcome → List ℕ
failure_lines r how = failure_line r how ++ advice_line r how
