-- What is printed of a script's events, one after the other, and the status.
use Rattle.std.specs.Prelude.{◌≡◌, ◌<◌, ◌≤◌, ◌⊎◌, ℕ, ◌+◌, Bool, true, false, List, [], ◌∷◌, ◌++◌, length, ⊤, Option, Some, None, Result, Ok, Err, slice_get}
use Rattle.std.specs.Io.KnownBytes.{Keeps}
use Rattle.bac_requester.specs.declared.ask_fault.AskFault.{AskFault}
use Rattle.bac_journal.specs.Clocks.{drift_of, paced}
use Rattle.bac_world.specs.ReusingWorlds.{WorldStepSo}
use Rattle.bac_network.specs.Faults.{fault_number}
use Rattle.bac_network.specs.Histories.{WorldView, as_world, reuses_of}
use Rattle.bac_network.specs.Steps.{IsFault, RefusesChange, Tells}
use Rattle.bac_network.specs.declared.fault.PaceFault.{PaceFault}
use Rattle.bac_network.specs.declared.fault.PaceFault.TheVariants as pace_fault
use Rattle.bac_network.specs.declared.fault.WorldFault.{WorldFault}
use Rattle.bac_network.specs.declared.fault.WorldFault.TheVariants as world_fault
use Rattle.bac_store.specs.AtNode.{change_fault_number}
use Rattle.bac_store.specs.declared.change_fault.ChangeFault.{ChangeFault}
use Rattle.bac_commands.specs.Facts.{fault_line, refused_line}
use Rattle.bac_text.specs.Lines.{lines_of}
use Rattle.bac_text.specs.Statuses.{IsFailure}
use Rattle.bac_text.specs.Texts.{AppendsText}
use Rattle.bac_text.specs.declared.status.Status.{Status}
use Rattle.bac_text.specs.declared.status.Status.TheVariants as status
use Rattle.bac_simulate.specs.Happenings.{Happening, event_at, time_after}
use Rattle.bac_simulate.specs.Houses.{script_world}
use Rattle.bac_simulate.specs.Scripts.{Script, ScriptLine, Happens, Lost, Note, Began, Paced, limits_in, said_from, script_of}
use Rattle.bac_simulate.specs.Printed.{lost_line, outcome_text, paced_line}
use Rattle.bac_simulate.specs.declared.script.ScriptFault.{ScriptFault}
use Rattle.bac_simulate.specs.declared.script.ScriptFault.TheVariants as fault

-- ---- events

-- which lists say what comes of a line: of an event that happens, of a change that its node's store refuses, of a copy that counts as lost, of a clock that
-- goes so fast from then on, and of a fault that ends the script at a line
pub record Printing (A : Type 0) : Type 1 where
  pub went : Option AskFault → Happening → (old new : WorldView) → List A → Type 0
  pub refused : ChangeFault → Happening → (old : WorldView) → List A → Type 0
  pub lost : (old : WorldView) → (copy : ℕ) → List A → Type 0
  pub clock : (old : WorldView) → (node rate : ℕ) → List A → Type 0
  pub ended : (line fault : ℕ) → List A → Type 0

-- an event happened, and this is printed of it
pub record Happened {A : Type 0} (t : Printing A) (event : Happening) (old new : WorldView) (said : List A) : Type 0 where
  pub told : Option AskFault
  pub went : WorldStepSo old.overtake (reuses_of old) (as_world old) (event_at old.time event) (as_world new)
  pub tells : Tells told (as_world old) (event_at old.time event) (as_world new)
  pub overtake : new.overtake ≡ old.overtake
  pub reuses : new.reuses ≡ old.reuses
  pub time : new.time ≡ time_after event old.time
  pub is : t.went told event old new said

-- the event was a change with that fault, which is printed; nothing changed
pub record TurnedDown {A : Type 0} (t : Printing A) (event : Happening) (old new : WorldView) (said : List A) : Type 0 where
  pub fault : ChangeFault
  pub why : RefusesChange (as_world old) (event_at old.time event) fault
  pub same : new ≡ old
  pub is : t.refused fault event old said

-- a copy that was sent counts as lost: that is printed, and nothing changed
pub record CountedLost {A : Type 0} (t : Printing A) (copy : ℕ) (old new : WorldView) (said : List A) : Type 0 where
  pub sent : copy < length old.copies
  pub same : new ≡ old
  pub is : t.lost old copy said

-- that node's clock began so, with the script: nothing is printed of it, and nothing changed
pub record ClockBegan {A : Type 0} (node : ℕ) (old new : WorldView) (said : List A) : Type 0 where
  pub there : node < length old.nodes
  pub same : new ≡ old
  pub is : said ≡ []

-- from now on that node's clock goes on by so many parts while a million of real time pass, within the pace of the world's clocks: that is printed, and nothing
-- else changed
pub record WasPaced {A : Type 0} (t : Printing A) (node rate : ℕ) (old new : WorldView) (said : List A) : Type 0 where
  pub slow : 1000000 ≤ rate + drift_of old.time.own
  pub fast : rate ≤ 1000000 + drift_of old.time.own
  pub same : as_world new ≡ as_world old
  pub overtake : new.overtake ≡ old.overtake
  pub reuses : new.reuses ≡ old.reuses
  pub time : new.time ≡ record (old.time) { own = paced node rate old.time.own }
  pub is : t.clock old node rate said

-- the script goes on after the line
abbrev pub Passed : {A : Type 0} → Printing A → ScriptLine → (old new : WorldView) → List A → Type 0
Passed t (Happens event) old new said = Happened t event old new said ⊎ TurnedDown t event old new said
Passed t (Lost copy) old new said = CountedLost t copy old new said
Passed t Note old new said = (new ≡ old) × (said ≡ [])
Passed t (Began node start) old new said = ClockBegan node old new said
Passed t (Paced node rate) old new said = WasPaced t node rate old new said

-- the fault of a change; any other ends a script
abbrev pub change_fault_in : WorldFault → Option ChangeFault
change_fault_in world_fault.NoSuchNode = None
change_fault_in world_fault.NoSuchDatagram = None
change_fault_in world_fault.NodeLink = None
change_fault_in world_fault.TooSoon = None
change_fault_in world_fault.ClockEnd = None
change_fault_in (world_fault.BadChange why) = Some why
change_fault_in world_fault.NoMemory = None

-- the event of that line did not happen, nothing changed, and the number of the fault is printed
pub record Failed {A : Type 0} (t : Printing A) (line : ℕ) (event : Happening) (old new : WorldView) (said : List A) : Type 0 where
  pub fault : WorldFault
  pub ends : change_fault_in fault ≡ None
  pub why : IsFault fault old.overtake (as_world old) (event_at old.time event)
  pub same : new ≡ old
  pub is : t.ended line (fault_number fault) said

-- there is no such copy that could count as lost
pub record NotSent {A : Type 0} (t : Printing A) (line copy : ℕ) (old new : WorldView) (said : List A) : Type 0 where
  pub none : length old.copies ≤ copy
  pub same : new ≡ old
  pub is : t.ended line (fault_number world_fault.NoSuchDatagram) said

-- there is no such node whose clock could begin
pub record HasNoClock {A : Type 0} (t : Printing A) (line node : ℕ) (old new : WorldView) (said : List A) : Type 0 where
  pub none : length old.nodes ≤ node
  pub same : new ≡ old
  pub is : t.ended line (fault_number world_fault.NoSuchNode) said

-- the number of the fault of a clock that keeps its pace
abbrev pub pace_fault_number : PaceFault → ℕ
pace_fault_number pace_fault.NoSuchNode = 1
pace_fault_number pace_fault.BadPace = 11

-- there is no such node, or its clock would go faster or slower than the world's clocks may
abbrev pub IsPaceFault : PaceFault → (node rate : ℕ) → WorldView → Type 0
IsPaceFault pace_fault.NoSuchNode node rate w = slice_get w.nodes node ≡ None
IsPaceFault pace_fault.BadPace node rate w = (rate + drift_of w.time.own < 1000000) ⊎ (1000000 + drift_of w.time.own < rate)

-- the clock goes on as it did, nothing changed, and the number of the fault is printed
pub record NotPaced {A : Type 0} (t : Printing A) (line node rate : ℕ) (old new : WorldView) (said : List A) : Type 0 where
  pub fault : PaceFault
  pub why : IsPaceFault fault node rate old
  pub same : new ≡ old
  pub is : t.ended line (pace_fault_number fault) said

-- the script ends at that line
abbrev pub Stopped : {A : Type 0} → Printing A → (line : ℕ) → ScriptLine → (old new : WorldView) → List A → Type 0
Stopped t line (Happens event) old new said = Failed t line event old new said
Stopped t line (Lost copy) old new said = NotSent t line copy old new said
Stopped t line Note old new said = ⊥
Stopped t line (Began node start) old new said = HasNoClock t line node old new said
Stopped t line (Paced node rate) old new said = NotPaced t line node rate old new said

abbrev pub Steps : {A : Type 0} → Printing A → (line : ℕ) → (passed : Bool) → ScriptLine → (old new : WorldView) → List A → Type 0
Steps t line true said old new told = Passed t said old new told
Steps t line false said old new told = Stopped t line said old new told

-- what lines say, of which the first has that number, came one after the other, all of it or up to the first that could not; and that was printed
abbrev pub Runs : {A : Type 0} → Printing A → (line : ℕ) → List ScriptLine → (all : Bool) → (old new : WorldView) → List A → Type 0
Runs t line [] true old new told = (new ≡ old) × (told ≡ [])
Runs t line [] false old new told = ⊥
Runs {A} t line (said ∷ lines) true old new told = (mid : WorldView) × (first : List A) × (rest : List A) × Passed t said old mid first
    × Runs t (line + 1) lines true mid new rest × (told ≡ first ++ rest)
Runs {A} t line (said ∷ lines) false old new told = Stopped t line said old new told
    ⊎ ((mid : WorldView) × (first : List A) × (rest : List A) × Passed t said old mid first
    × Runs t (line + 1) lines false mid new rest × (told ≡ first ++ rest))

-- ---- in lines of text

abbrev pub in_text : Printing ℕ
in_text =
    record {
      went = λ told event old new text. text ≡ outcome_text told (length old.log) (length old.copies) new;
      refused = λ why event old text. text ≡ refused_line (change_fault_number why);
      lost = λ old copy text. text ≡ lost_line copy;
      clock = λ old node rate text. text ≡ paced_line node rate;
      ended = λ line fault text. text ≡ fault_line line fault;
    }

abbrev pub IsStep : (line : ℕ) → (passed : Bool) → ScriptLine → (old new : WorldView) → (text : List ℕ) → Type 0
IsStep line passed said old new text = Steps in_text line passed said old new text

abbrev pub IsRun : (line : ℕ) → List ScriptLine → (all : Bool) → (old new : WorldView) → (text : List ℕ) → Type 0
IsRun line lines all old new text = Runs in_text line lines all old new text

-- ---- scripts

-- the events of a script happened in the network that it sets, and that was printed
abbrev pub Ran : Script → (all : Bool) → (old new : Option (List ℕ)) → Type 0
Ran s all old new = (last : WorldView) × AppendsText old new (IsRun s.first s.lines all (script_world s.setting s.lines) last)

abbrev pub status_of : (all : Bool) → Status
status_of true = status.Done
status_of false = status.Faulty

-- of a run that was printed so far as the output took it, and of the output's flush
abbrev pub IsEnd : {A B E : Type 0} → Result Bool E → Result A B → Status → Type 0
IsEnd (Ok all) (Ok flushed) end = end ≡ status_of all
IsEnd (Ok all) (Err e) end = IsFailure end
IsEnd (Err e) flushed end = IsFailure end

-- of octets that are no script, and of memory that was refused
abbrev pub status_for : ScriptFault → Status
status_for (fault.Line number) = status.CommandLine
status_for fault.NoMemory = status.Memory

-- what was printed of the script of some octets, by the status: a script with a bad line prints nothing
abbrev pub Reports : Result Script ℕ → (old new : Option (List ℕ)) → Status → Type 0
Reports (Ok s) old new status.Done = Ran s true old new
Reports (Ok s) old new status.Faulty = Ran s false old new
Reports (Ok s) old new status.CommandLine = ⊥
Reports (Ok s) old new status.Output = ⊤
Reports (Ok s) old new status.Memory = ⊤
Reports (Err bad) old new status.Done = ⊥
Reports (Err bad) old new status.Faulty = ⊥
Reports (Err bad) old new status.CommandLine = Keeps old new
Reports (Err bad) old new status.Output = ⊥
Reports (Err bad) old new status.Memory = Keeps old new

-- what came of the events of some lines, the first of which has that number, in a world that was handed in, by the status: where a line is bad, nothing
abbrev pub Goes : (line : ℕ) → Result (List ScriptLine) ℕ → (first last : WorldView) → (old new : Option (List ℕ)) → Status → Type 0
Goes line (Ok lines) first last old new status.Done = AppendsText old new (IsRun line lines true first last)
Goes line (Ok lines) first last old new status.Faulty = AppendsText old new (IsRun line lines false first last)
Goes line (Ok lines) first last old new status.CommandLine = ⊥
Goes line (Ok lines) first last old new status.Output = ⊤
Goes line (Ok lines) first last old new status.Memory = ⊤
Goes line (Err bad) first last old new status.Done = ⊥
Goes line (Err bad) first last old new status.Faulty = ⊥
Goes line (Err bad) first last old new status.CommandLine = Keeps old new × (last ≡ first)
Goes line (Err bad) first last old new status.Output = ⊥
Goes line (Err bad) first last old new status.Memory = Keeps old new × (last ≡ first)

-- of the octets of lines that are counted from 1
abbrev pub SimulatesIn : (text : List ℕ) → (first last : WorldView) → (old new : Option (List ℕ)) → Status → Type 0
SimulatesIn text first last old new end = Goes 1 (said_from false false (limits_in first.nodes) 1 (lines_of text)) first last old new end

-- the input could not be read
abbrev pub IsUnread : Status → Type 0
IsUnread status.Done = ⊥
IsUnread status.Faulty = ⊥
IsUnread status.CommandLine = ⊤
IsUnread status.Output = ⊥
IsUnread status.Memory = ⊤

-- where the octets of the input are known: what its script reports, or that it could not be read, and nothing was printed
abbrev pub SimulatesAs : (notes : Bool) → (input : Option (List ℕ)) → (old new : Option (List ℕ)) → Status → Type 0
SimulatesAs notes None old new end = ⊤
SimulatesAs notes (Some text) old new end = Reports (script_of notes (lines_of text)) old new end ⊎ (Keeps old new × IsUnread end)

-- each line is one of the script
abbrev pub Simulates : (input : Option (List ℕ)) → (old new : Option (List ℕ)) → Status → Type 0
Simulates input old new end = SimulatesAs false input old new end
