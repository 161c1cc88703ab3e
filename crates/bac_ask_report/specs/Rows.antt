-- Rows of CSV: fields with commas between them; one with a comma, a quote or the end of a line in it stands in quotes, each quote in it twice (RFC 4180).
use Rattle.std.specs.Prelude.{◌≡◌, ℕ, Bool, true, false, List, [], ◌∷◌, codes, drop, if◌then◌else◌, Option, Some, None, unwrap_or}
use Rattle.csv.specs.Writing.{default_writer, row_text}
use Rattle.serde_json.specs.Data.{Data, Items, no_items, item, null, boolean, number, string, array, object}
use Rattle.serde_json.specs.Find.{get}
use Rattle.bac_json.specs.Values.{AreElementForms}
use Rattle.bac_json_report.specs.Lines.{IsJsonText}
use Rattle.bac_text.specs.Peers.{peer_text}
use Rattle.bac_value_text.specs.Texts.{object_text}
use Rattle.bac_ask_report.specs.Answers.{Answer, answer_of}
use Rattle.bac_ask_report.specs.Answers.Answer.{Values, Other, File, Written, Done, Fault, Reason, Nothing}
use Rattle.bac_ask_report.specs.CellTexts.{cell_text}
use Rattle.bac_ask_report.specs.declared.cell_text.CellText.{CellText}
use Rattle.bac_ask_report.specs.Questions.{object_asked, property_asked, property_column}
use Rattle.bac_ask_report.specs.Records.{AskRecord, LineName, Unnamed, Without, Named}
use Rattle.bac_moment.specs.Times.{IsTextOf}

-- ---- the kind and the value

-- a text as it is, null as nothing, all else as JSON has it
abbrev pub IsCell : Data → List ℕ → Type 0
IsCell null text = text ≡ []
IsCell (boolean b) text = IsJsonText (boolean b) text
IsCell (number n) text = IsJsonText (number n) text
IsCell (string s) text = text ≡ s
IsCell (array ds) text = IsJsonText (array ds) text
IsCell (object ms) text = IsJsonText (object ms) text

abbrev pub is_number : Data → Bool
is_number null = false
is_number (boolean b) = false
is_number (number n) = true
is_number (string s) = false
is_number (array ds) = false
is_number (object ms) = false

abbrev pub zip : Option Data → Option Data → Option (Data × Data)
zip None d = None
zip (Some c) None = None
zip (Some c) (Some d) = Some (c, d)

-- the kind and the value of the only element, where it is a value
abbrev pub sole_value : Items → Option (Data × Data)
sole_value no_items = None
sole_value (item d no_items) = zip (get (codes "kind") d) (get (codes "value") d)
sole_value (item d (item e es)) = None

-- what `bac ask --text` prints behind the word `answered`
abbrev pub behind_answered : (words : List ℕ) → List ℕ
behind_answered words = drop 9 words

-- the kind and the value, and whether that is a number
pub record Cells : Type 0 where
  pub kind : List ℕ
  pub value : List ℕ
  pub is_number : Bool

abbrev pub no_cells : Cells
no_cells = record { kind = []; value = []; is_number = false }

-- in words, without a kind
abbrev pub word_cells : (words : List ℕ) → Cells
word_cells words = record { kind = []; value = behind_answered words; is_number = false }

-- of one value its kind, and the value; of more or none the words
abbrev pub AreSoleCells : Option (Data × Data) → (words : List ℕ) → Cells → Type 0
AreSoleCells None words c = c ≡ word_cells words
AreSoleCells (Some p) words c = IsCell p.0 c.kind × IsCell p.1 c.value × (c.is_number ≡ is_number p.1)

pub record AreValueCells (run words : List ℕ) (c : Cells) : Type 0 where
  pub values : Items
  pub are : AreElementForms values run
  pub cells : AreSoleCells (sole_value values) words c

abbrev pub AreCells : Answer → (words : List ℕ) → Cells → Type 0
AreCells (Values run) words c = AreValueCells run words c
AreCells Other words c = c ≡ word_cells words
AreCells (File end start octets) words c = c ≡ word_cells words
AreCells (Written start) words c = c ≡ word_cells words
AreCells Done words c = c ≡ no_cells
AreCells (Fault class code) words c = c ≡ no_cells
AreCells (Reason reason) words c = c ≡ no_cells
AreCells Nothing words c = c ≡ no_cells

-- ---- the status

-- `answered`, or in words why there is no value
abbrev pub status_cell : Answer → (words : List ℕ) → List ℕ
status_cell (Values run) words = codes "answered"
status_cell Other words = codes "answered"
status_cell (File end start octets) words = codes "answered"
status_cell (Written start) words = codes "answered"
status_cell Done words = codes "answered"
status_cell (Fault class code) words = behind_answered words
status_cell (Reason reason) words = words
status_cell Nothing words = words

-- ---- rows

-- the names of the columns; the last one is there only where a line of the list has a name
abbrev pub name_header : (has_names : Bool) → List (List ℕ)
name_header has_names = if has_names then codes "name" ∷ [] else []

abbrev pub header : (has_names : Bool) → List (List ℕ)
header has_names =
    codes "time" ∷ codes "peer" ∷ codes "object" ∷ codes "property" ∷ codes "kind" ∷ codes "value" ∷ codes "status" ∷ name_header has_names

abbrev pub header_text : (has_names : Bool) → List ℕ
header_text has_names = row_text default_writer (header has_names)

-- the name of the line, where a line of the list has one
abbrev pub name_fields : CellText → LineName → List (List ℕ)
name_fields t Unnamed = []
name_fields t Without = [] ∷ []
name_fields t (Named name) = cell_text t name ∷ []

-- a number as it is
abbrev pub value_field : CellText → Cells → List ℕ
value_field t c = if c.is_number then c.value else cell_text t c.value

abbrev pub fields_of : CellText → AskRecord → (time : List ℕ) → Cells → List (List ℕ)
fields_of t r time c =
    time ∷ peer_text r.peer ∷ object_text (object_asked r.request) ∷ property_column (property_asked r.request) ∷ c.kind ∷ value_field t c
    ∷ status_cell (answer_of r.request r.outcome) r.words ∷ name_fields t r.name

-- the row of an ask
pub record IsRow (t : CellText) (r : AskRecord) (text : List ℕ) : Type 0 where
  pub time : Option (List ℕ)
  pub time_of : IsTextOf r.time time
  pub cells : Cells
  pub are : AreCells (answer_of r.request r.outcome) r.words cells
  pub is : text ≡ row_text default_writer (fields_of t r (unwrap_or time []) cells)
