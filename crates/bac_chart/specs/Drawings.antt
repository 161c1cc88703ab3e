-- What is printed of marks.
use Rattle.std.specs.Prelude.{ℕ, zero, suc, ◌+◌, Bool, true, false, nat_eq, if◌then◌else◌, List, [], ◌++◌, length, take, drop, slice_get, codes, decimal, Option, Some, None}
use Rattle.bac_chart.specs.Lines.{Line, line_of}
use Rattle.bac_chart.specs.Marks.{Mark}
use Rattle.bac_chart.specs.Rows.{filled, row_text}
use Rattle.bac_chart.specs.declared.drawing.ChartFormat.{ChartFormat}
use Rattle.bac_chart.specs.declared.drawing.ChartFormat.TheVariants as form

-- ---- in Mermaid

-- an arrow that reaches its node, or one that is lost
abbrev pub arrow_text : (is_lost : Bool) → List ℕ
arrow_text false = codes "->>n"
arrow_text true = codes "-xn"

-- between which nodes, or at which one
abbrev pub ends_text : Line → List ℕ
ends_text l =
    if nat_eq l.from l.to then codes "    Note over n" ++ decimal l.from else
    codes "    n" ++ (decimal l.from ++ (arrow_text l.is_lost ++ decimal l.to))

abbrev pub mermaid_text : Line → List ℕ
mermaid_text l = ends_text l ++ (codes ": " ++ (decimal l.moment ++ (codes " ms: " ++ (l.words ++ codes "\n"))))

-- ---- the head: the name of each node

abbrev pub node_name : (node : ℕ) → List ℕ
node_name node = codes "node " ++ decimal node

abbrev pub participant_text : (node : ℕ) → List ℕ
participant_text node = codes "    participant n" ++ (decimal node ++ (codes " as node " ++ (decimal node ++ codes "\n")))

-- the name of a node, of so many
abbrev pub name_text : ChartFormat → (nodes node : ℕ) → List ℕ
name_text form.Chart nodes node = filled (nat_eq (node + 1) nodes) (node_name node)
name_text form.Mermaid nodes node = participant_text node

-- of the first so many nodes
abbrev pub names_text : ChartFormat → (nodes count : ℕ) → List ℕ
names_text f nodes zero = []
names_text f nodes (suc node) = names_text f nodes node ++ name_text f nodes node

abbrev pub head_text : ChartFormat → (nodes : ℕ) → List ℕ
head_text form.Chart nodes = codes "      ms  " ++ (names_text form.Chart nodes nodes ++ codes "\n")
head_text form.Mermaid nodes = codes "sequenceDiagram\n" ++ names_text form.Mermaid nodes nodes

-- ---- all of it

abbrev pub line_text : ChartFormat → (nodes : ℕ) → Line → List ℕ
line_text form.Chart nodes l = row_text nodes l
line_text form.Mermaid nodes l = mermaid_text l

abbrev pub optional_text : ChartFormat → (nodes : ℕ) → Option Line → List ℕ
optional_text f nodes None = []
optional_text f nodes (Some l) = line_text f nodes l

-- the mark at a place among all
abbrev pub mark_text : ChartFormat → (nodes : ℕ) → List Mark → (place : ℕ) → Option Mark → List ℕ
mark_text f nodes marks place None = []
mark_text f nodes marks place (Some m) = optional_text f nodes (line_of (take place marks) m (drop (place + 1) marks))

-- the first so many marks
abbrev pub marks_text : ChartFormat → (nodes : ℕ) → List Mark → (count : ℕ) → List ℕ
marks_text f nodes marks zero = []
marks_text f nodes marks (suc place) = marks_text f nodes marks place ++ mark_text f nodes marks place (slice_get marks place)

abbrev pub drawing_text : ChartFormat → (nodes : ℕ) → List Mark → List ℕ
drawing_text f nodes marks = head_text f nodes ++ marks_text f nodes marks (length marks)
