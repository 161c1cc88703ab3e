-- The table of a device's points.
use Rattle.std.specs.Prelude.{◌≡◌, ℕ, Bool, true, false, ◌==◌, ◌&&◌, List, [], ◌∷◌, ◌++◌, Option, Some, None, map}
use Rattle.std.specs.List.{flat_map}
use Rattle.bac_value.specs.Value.{ObjectId}
use Rattle.bac_value_text.specs.Texts.{object_text}
use Rattle.bac_service.specs.Replies as plain
use Rattle.bac_service.specs.Values.{Reference}
use Rattle.bac_service.specs.Values.Request.{ReadProperty}
use Rattle.bac_point_report.specs.Outcomes.{failure_words, values_of}
use Rattle.bac_point_report.specs.Shown.{IsShown}
use Rattle.bac_ask_report.specs.Records.{Outcome, Answered, Rejected, Aborted, TimedOut, Expired, Refused, NoEnding, NoLink}

-- a property as a whole
abbrev pub point_reference : ObjectId → (property : ℕ) → Reference
point_reference object property = record { object = object; property = property; index = None }

-- object-name, present-value, units, description and status-flags
abbrev pub COLUMNS : List ℕ
COLUMNS = 77 ∷ 85 ∷ 117 ∷ 28 ∷ 111 ∷ []

abbrev pub point_references : ObjectId → List Reference
point_references object = map (point_reference object) COLUMNS

-- the object has no such property: error class property, code unknown-property
abbrev pub is_unknown : plain.Reply → Bool
is_unknown plain.Reply.Simple = false
is_unknown (plain.Reply.Complex c) = false
is_unknown (plain.Reply.Error class code) = (class == 2) && (code == 32)
is_unknown (plain.Reply.Reject reason) = false

abbrev pub is_absent : Outcome → Bool
is_absent (Answered r) = is_unknown r
is_absent (Rejected reason) = false
is_absent (Aborted reason) = false
is_absent TimedOut = false
is_absent Expired = false
is_absent (Refused fault) = false
is_absent NoEnding = false
is_absent NoLink = false

-- the cell of a property that got no value: empty if there is no such property, otherwise why
abbrev pub IsWithout : (absent : Bool) → Outcome → (text : List ℕ) → (is_faulty : Bool) → Type 0
IsWithout true how text is_faulty = (text ≡ []) × (is_faulty ≡ false)
IsWithout false how text is_faulty = (text ≡ failure_words how) × (is_faulty ≡ true)

abbrev pub IsCellWithout : Outcome → (text : List ℕ) → (is_faulty : Bool) → Type 0
IsCellWithout how text is_faulty = IsWithout (is_absent how) how text is_faulty

-- its values alone, where it got some
abbrev pub IsCellOf : Option (List ℕ) → Reference → Outcome → (text : List ℕ) → (is_faulty : Bool) → Type 0
IsCellOf (Some run) r how text is_faulty = IsShown r run text × (is_faulty ≡ false)
IsCellOf None r how text is_faulty = IsCellWithout how text is_faulty

abbrev pub IsCell : Reference → Outcome → (text : List ℕ) → (is_faulty : Bool) → Type 0
IsCell r how text is_faulty = IsCellOf (values_of (ReadProperty r) how) r how text is_faulty

abbrev pub behind_tab : List ℕ → List ℕ
behind_tab cell = 9 ∷ cell

-- the object, and its cells with tabs before them
abbrev pub point_line : ObjectId → (cells : List (List ℕ)) → List ℕ
point_line object cells = (object_text object ++ flat_map behind_tab cells) ++ 10 ∷ []
