-- A script as a whole: what its first line sets, and what the lines after it say.
use Rattle.std.specs.Prelude.{◌≡◌, ◌≤◌, ℕ, ◌+◌, ◌*◌, Bool, true, false, ◌&&◌, not, if◌then◌else◌, List, [], ◌∷◌, ⊤, Option, Some, None, Result, Ok, Err}
use Rattle.std.specs.Prelude.{slice_get}
use Rattle.std.specs.Option.{option_map}
use Rattle.bac_apdu.specs.Apdu.{Limits}
use Rattle.bac_simulate.specs.Lines as line
use Rattle.bac_simulate.specs.Lines.{setting_at, statement_at}
use Rattle.bac_text.specs.Notes.{read_of}
use Rattle.bac_value_text.specs.Numbers.{◌>>=◌}
use Rattle.bac_service_text.specs.declared.form_fault.FormFault.{FormFault}
use Rattle.bac_service_text.specs.declared.form_fault.FormFault.TheVariants as form_fault
use Rattle.bac_world.specs.Node.{Node}
use Rattle.bac_world.specs.World.{peer_at}
use Rattle.bac_store.specs.AtNode as at_node
use Rattle.bac_simulate.specs.Happenings.{Happening}
use Rattle.bac_simulate.specs.declared.script.ScriptFault.{ScriptFault}
use Rattle.bac_simulate.specs.declared.script.ScriptFault.TheVariants as fault

-- what a line says: an event is to happen; a copy counts as lost, which is a note of the script alone; it is a note for people; a node's clock begins so, which
-- is said of the whole script; or from then on a node's clock goes on by so many parts while a million parts of real time pass
pub data ScriptLine : Type 0 where
  Happens : Happening → ScriptLine
  Lost : (copy : ℕ) → ScriptLine
  Note : ScriptLine
  Began : (node start : ℕ) → ScriptLine
  Paced : (node rate : ℕ) → ScriptLine

-- `first` is the number of the first of those lines
pub record Script : Type 0 where
  pub setting : line.Setting
  pub first : ℕ
  pub lines : List ScriptLine

-- APDUs of 1,476 octets, and any number of segments, by their codes (clause 20.1.2)
abbrev pub most_limits : Limits
most_limits = record { max_apdu = 5; takes_segments = true; max_segments = 7 }

-- the link of no node
abbrev pub nowhere : List ℕ
nowhere = 0 ∷ 0 ∷ 0 ∷ 0 ∷ 0 ∷ 0 ∷ []

-- what nodes take of APDUs, by their numbers
abbrev pub NodeLimits : Type 0
NodeLimits = (node : ℕ) → Limits

-- what a node takes as a server: segmented requests whatever its SA bit says of its replies; where there is no such node, the most
abbrev pub limits_of : Option Node → Limits
limits_of None = most_limits
limits_of (Some n) = record (n.settings.limits) { takes_segments = true }

-- what these nodes take
abbrev pub limits_in : List Node → NodeLimits
limits_in nodes node = limits_of (slice_get nodes node)

-- what a step says; an ask goes by what the server takes
abbrev pub said_by : NodeLimits → line.Statement → ScriptLine
said_by limits (line.Statement.Ask client server request) = Happens (Happening.Ask client server (limits server) request)
said_by limits (line.Statement.Deliver copy) = Happens (Happening.Deliver copy)
said_by limits (line.Statement.Lose copy) = Lost copy
said_by limits (line.Statement.Noise node octets) = Happens (Happening.Noise node nowhere octets)
said_by limits (line.Statement.Tick node) = Happens (Happening.Tick node)
said_by limits (line.Statement.Advance by) = Happens (Happening.Advance by)
said_by limits (line.Statement.SetProperty node object property octets) = Happens (Happening.Change node (at_node.Change.Value object property octets))
said_by limits (line.Statement.SetFile node object octets) = Happens (Happening.Change node (at_node.Change.File object octets))
said_by limits (line.Statement.Restart node) = Happens (Happening.Restart node None)
said_by limits (line.Statement.Begin node) = Happens (Happening.Begin node)
said_by limits (line.Statement.BeginAgain node) = Happens (Happening.BeginAgain node 0 None)
said_by limits (line.Statement.Stranger node link octets) = Happens (Happening.Stranger node link octets)
said_by limits (line.Statement.AskStranger client link request) = Happens (Happening.AskStranger client (peer_at link) most_limits request)
said_by limits (line.Statement.Clock node start) = Began node start
said_by limits (line.Statement.Pace node rate) = Paced node rate

-- ---- the head of a script, in which clocks may begin: lines of clocks and notes, before its first event

abbrev pub is_of_head : ScriptLine → Bool
is_of_head (Happens event) = false
is_of_head (Lost copy) = false
is_of_head Note = true
is_of_head (Began node start) = true
is_of_head (Paced node rate) = true

-- by the line a clock begins
abbrev pub is_start : ScriptLine → Bool
is_start (Happens event) = false
is_start (Lost copy) = false
is_start Note = false
is_start (Began node start) = true
is_start (Paced node rate) = false

-- elsewhere such a line is of no form
abbrev pub admitted : (in_head : Bool) → ScriptLine → Option ScriptLine
admitted in_head said = if is_start said && not in_head then None else Some said

-- whether the next line is in the head too
abbrev pub head_after : (in_head : Bool) → Option ScriptLine → Bool
head_after in_head None = in_head
head_after in_head (Some said) = in_head && is_of_head said

-- by what is to be read of a line
abbrev pub said_in : (in_head : Bool) → NodeLimits → (read : Option (List ℕ)) → Option ScriptLine
said_in in_head limits None = Some Note
said_in in_head limits (Some l) = option_map (said_by limits) (statement_at l) >>= admitted in_head

abbrev pub said_at : (notes in_head : Bool) → NodeLimits → (line : List ℕ) → Option ScriptLine
said_at notes in_head limits l = said_in in_head limits (read_of notes l)

-- what a line says before what those say that follow; or the number of the line, which is of no form
abbrev pub before_others : Option ScriptLine → (number : ℕ) → Result (List ScriptLine) ℕ → Result (List ScriptLine) ℕ
before_others None number others = Err number
before_others (Some said) number (Ok lines) = Ok (said ∷ lines)
before_others (Some said) number (Err bad) = Err bad

-- what lines say of which the first has that number; or the number of the first line of no form
abbrev pub said_from : (notes in_head : Bool) → NodeLimits → (number : ℕ) → List (List ℕ) → Result (List ScriptLine) ℕ
said_from notes in_head limits number [] = Ok []
said_from notes in_head limits number (l ∷ lines) =
    before_others (said_at notes in_head limits l) number
    (said_from notes (head_after in_head (said_at notes in_head limits l)) limits (number + 1) lines)

-- with what the line of that number sets
abbrev pub with_setting : (number : ℕ) → Option line.Setting → Result (List ScriptLine) ℕ → Result Script ℕ
with_setting number None lines = Err number
with_setting number (Some setting) (Ok lines) = Ok (record { setting = setting; first = number + 1; lines = lines })
with_setting number (Some setting) (Err bad) = Err bad

-- by what is to be read of the line of that number, and by the script of the lines behind it alone
abbrev pub script_by : (number : ℕ) → (read : Option (List ℕ)) → (behind : Result (List ScriptLine) ℕ) → (others : Result Script ℕ) → Result Script ℕ
script_by number None behind others = others
script_by number (Some l) behind others = with_setting number (setting_at l) behind

-- the script of lines of which the first has that number, behind any notes; or the number of the first line of no form
abbrev pub script_from : (notes : Bool) → (number : ℕ) → List (List ℕ) → Result Script ℕ
script_from notes number [] = Err number
script_from notes number (l ∷ lines) =
    script_by number (read_of notes l) (said_from notes true (λ node. most_limits) (number + 1) lines) (script_from notes (number + 1) lines)

-- lines are counted from 1
abbrev pub script_of : (notes : Bool) → List (List ℕ) → Result Script ℕ
script_of notes lines = script_from notes 1 lines

-- ---- what calls answer that read them

-- why nothing is read: of the first bad line, by its number; or memory ran out
abbrev pub IsNotRead : {B : Type 0} → ScriptFault → (wanted : Result B ℕ) → Type 0
IsNotRead (fault.Line number) wanted = wanted ≡ Err number
IsNotRead fault.NoMemory wanted = ⊤

-- the value that is wanted, or why there is none
abbrev pub Reads : {A B : Type 0} → (A → B) → Result A ScriptFault → (wanted : Result B ℕ) → Type 0
Reads view (Ok x) wanted = wanted ≡ Ok (view x)
Reads view (Err f) wanted = IsNotRead f wanted

-- of the line with that number
abbrev pub ReadsAt : {A B : Type 0} → (A → B) → Result A ScriptFault → (number : ℕ) → (wanted : Option B) → Type 0
ReadsAt view (Ok x) number wanted = wanted ≡ Some (view x)
ReadsAt view (Err (fault.Line bad)) number wanted = (wanted ≡ None) × (bad ≡ number)
ReadsAt view (Err fault.NoMemory) number wanted = ⊤

abbrev pub fault_at : (number : ℕ) → FormFault → ScriptFault
fault_at number form_fault.NoForm = fault.Line number
fault_at number form_fault.NoMemory = fault.NoMemory

-- ---- what every setting has

-- up to 16 nodes, windows of 1 to 64 segments, and few enough later copies that no number of a segment is misread
pub record IsModest (s : line.Setting) : Type 0 where
  pub nodes : s.nodes ≤ 16
  pub least : 1 ≤ s.window
  pub most : s.window ≤ 64
  pub bound : s.overtake + 2 * s.window ≤ 255
