-- A line of a chart as a row of characters: a cell for each node, which begins with the node's line.
use Rattle.std.specs.Prelude.{ℕ, zero, suc, ◌+◌, Bool, true, false, ◌&&◌, nat_eq, nat_lt, if◌then◌else◌, List, [], ◌++◌, length, take, drop, codes, decimal}
use Rattle.bac_chart.specs.Lines.{Line}

-- as wide as a cell, 41 characters
abbrev pub blank : List ℕ
blank = codes "                                         "

-- as wide as a cell without the ends of an arrow, 37 characters
abbrev pub dashes : List ℕ
dashes = codes "-------------------------------------"

-- filled up to the width of a cell; the last cell of a row ends with its text
abbrev pub filled : (is_last : Bool) → List ℕ → List ℕ
filled true text = text
filled false text = text ++ drop (length text) blank

-- what happens at a node
abbrev pub note_cell : (here : Bool) → (words : List ℕ) → List ℕ
note_cell false words = codes "|"
note_cell true words = codes "| " ++ words

-- where an arrow ends, to the right and to the left
abbrev pub right_end : (is_lost : Bool) → List ℕ
right_end false = codes ">"
right_end true = codes "x"

abbrev pub left_end : (is_lost : Bool) → List ℕ
left_end false = codes "|<-"
left_end true = codes "|x-"

-- the end of the cell of a node: there the arrow reaches the next node, or goes on
abbrev pub cell_end : (reaches is_lost : Bool) → List ℕ
cell_end false is_lost = codes "-"
cell_end true is_lost = right_end is_lost

abbrev pub cell_start : (to_right is_lost : Bool) → List ℕ
cell_start true is_lost = codes "|--"
cell_start false is_lost = left_end is_lost

-- the cell in which an arrow begins on the left: as much of its words as there is room for
abbrev pub first_cell : (to_right reaches is_lost : Bool) → (words : List ℕ) → List ℕ
first_cell to_right reaches is_lost words =
    cell_start to_right is_lost ++ (take 37 (words ++ dashes) ++ cell_end reaches is_lost)

-- a cell that an arrow goes through
abbrev pub middle_cell : (reaches is_lost : Bool) → List ℕ
middle_cell reaches is_lost = codes "---" ++ (dashes ++ cell_end reaches is_lost)

-- of an arrow between two nodes
abbrev pub arrow_cell : (node : ℕ) → Line → List ℕ
arrow_cell node l =
    let to_right = nat_lt l.from l.to in
    let reaches = to_right && nat_eq (node + 1) l.to in
    let left = if to_right then l.from else l.to in
    let right = if to_right then l.to else l.from in
    if nat_eq node left then first_cell to_right reaches l.is_lost l.words else
    if nat_lt left node && nat_lt node right then middle_cell reaches l.is_lost else codes "|"

abbrev pub cell_text : (node : ℕ) → Line → List ℕ
cell_text node l = if nat_eq l.from l.to then note_cell (nat_eq node l.from) l.words else arrow_cell node l

-- the cell of a node, of so many
abbrev pub cell : (nodes : ℕ) → Line → (node : ℕ) → List ℕ
cell nodes l node = filled (nat_eq (node + 1) nodes) (cell_text node l)

-- the cells of the first so many nodes
abbrev pub cells : (nodes : ℕ) → Line → (count : ℕ) → List ℕ
cells nodes l zero = []
cells nodes l (suc node) = cells nodes l node ++ cell nodes l node

abbrev pub moment_words : ℕ → List ℕ
moment_words moment = decimal moment ++ codes "  "

-- a moment stands in front, to the right of ten characters
abbrev pub moment_text : ℕ → List ℕ
moment_text moment = drop (length (moment_words moment)) (codes "          ") ++ moment_words moment

abbrev pub row_text : (nodes : ℕ) → Line → List ℕ
row_text nodes l = moment_text l.moment ++ (cells nodes l nodes ++ codes "\n")
