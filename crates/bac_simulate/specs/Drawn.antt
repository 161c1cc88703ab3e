-- What a script's run is shown as.
use Rattle.std.specs.Prelude.{◌≡◌, ℕ, ◌+◌, Bool, true, false, List, [], ◌∷◌, map, ⊤, ◌⊎◌, Option, Some, None, Result, Ok, Err}
use Rattle.std.specs.Io.KnownBytes.{Keeps}
use Rattle.bac_chart.specs.Drawings.{drawing_text}
use Rattle.bac_chart.specs.Marks.{Mark}
use Rattle.bac_chart.specs.declared.drawing.ChartFormat.TheVariants as form
use Rattle.bac_network.specs.Histories.{WorldView}
use Rattle.bac_simulate.specs.Views.{setting_view}
use Rattle.bac_text.specs.Lines.{lines_of}
use Rattle.bac_text.specs.Texts.{AppendsText}
use Rattle.bac_text.specs.declared.status.Status.{Status}
use Rattle.bac_text.specs.declared.status.Status.TheVariants as status
use Rattle.bac_simulate.specs.Captures.{capture_of}
use Rattle.bac_simulate.specs.Houses.{script_world}
use Rattle.bac_simulate.specs.Moments.{ms_now, parts_in}
use Rattle.bac_simulate.specs.Runs.{IsUnread, Runs, Printing}
use Rattle.bac_simulate.specs.Scripts.{Script, ScriptLine, most_limits, said_from, script_of, with_setting}
use Rattle.bac_simulate.specs.Traces.{change_marks, event_marks, paced_mark}
use Rattle.bac_simulate.specs.Views.{line_view}
use Rattle.bac_simulate.specs.Told.{told_in}
use Rattle.bac_simulate.specs.declared.event_style.EventStyle.{EventStyle}
use Rattle.bac_simulate.specs.declared.event_style.EventStyle.TheVariants as style
use Rattle.bac_simulate.specs.declared.script.FirstLine.{FirstLine}
use Rattle.bac_simulate.specs.declared.read_script.ReadScript.{ReadScript}
use Rattle.bac_simulate.specs.declared.view.View.{View}
use Rattle.bac_simulate.specs.declared.view.View.TheVariants as view

-- a lost copy and a fault are drawn as nothing
abbrev pub in_marks : Printing Mark
in_marks =
    record {
      went = λ told event old new marks. marks ≡ event_marks told event old new;
      refused = λ why event old marks. marks ≡ change_marks why event old;
      lost = λ old copy marks. marks ≡ [];
      clock = λ old node rate marks. marks ≡ paced_mark (ms_now old) node rate ∷ [];
      ended = λ line fault marks. marks ≡ [];
    }

-- a drawing of what came of the lines in a network of so many nodes, or the copies that there are in the world in the end; what is printed in words is no
-- drawing
abbrev pub shown_text : View → (nodes : ℕ) → List Mark → (last : WorldView) → List ℕ
shown_text view.Text nodes marks last = []
shown_text view.Objects nodes marks last = []
shown_text view.Chart nodes marks last = drawing_text form.Chart nodes marks
shown_text view.Mermaid nodes marks last = drawing_text form.Mermaid nodes marks
shown_text view.Capture nodes marks last = capture_of (parts_in last) last.copies

-- what lines say came in a network of so many nodes, all of it or up to the first that could not, and that is drawn
pub record IsDrawn (v : View) (nodes first : ℕ) (lines : List ScriptLine) (all : Bool) (world : WorldView) (text : List ℕ) : Type 0 where
  pub last : WorldView
  pub marks : List Mark
  pub ran : Runs in_marks first lines all world last marks
  pub is : text ≡ shown_text v nodes marks last

-- likewise, and that is printed in words, or as objects of JSON
abbrev pub IsTold : EventStyle → (first : ℕ) → List ScriptLine → (all : Bool) → (world : WorldView) → (text : List ℕ) → Type 0
IsTold s first lines all world text = (last : WorldView) × Runs (told_in s) first lines all world last text

abbrev pub IsShown : View → (nodes first : ℕ) → List ScriptLine → (all : Bool) → (world : WorldView) → (text : List ℕ) → Type 0
IsShown view.Text nodes first lines all world text = IsTold style.Words first lines all world text
IsShown view.Objects nodes first lines all world text = IsTold style.Objects first lines all world text
IsShown view.Chart nodes first lines all world text = IsDrawn view.Chart nodes first lines all world text
IsShown view.Mermaid nodes first lines all world text = IsDrawn view.Mermaid nodes first lines all world text
IsShown view.Capture nodes first lines all world text = IsDrawn view.Capture nodes first lines all world text

abbrev pub ShowsScript : View → Script → (all : Bool) → (text : List ℕ) → Type 0
ShowsScript v s all text = IsShown v s.setting.nodes s.first s.lines all (script_world s.setting s.lines) text

-- what was printed of the script of some octets, by the status: a script with a bad line prints nothing
abbrev pub Shows : View → Result Script ℕ → (old new : Option (List ℕ)) → Status → Type 0
Shows v (Ok s) old new status.Done = AppendsText old new (ShowsScript v s true)
Shows v (Ok s) old new status.Faulty = AppendsText old new (ShowsScript v s false)
Shows v (Ok s) old new status.CommandLine = ⊥
Shows v (Ok s) old new status.Output = ⊤
Shows v (Ok s) old new status.Memory = ⊤
Shows v (Err bad) old new status.Done = ⊥
Shows v (Err bad) old new status.Faulty = ⊥
Shows v (Err bad) old new status.CommandLine = Keeps old new
Shows v (Err bad) old new status.Output = ⊥
Shows v (Err bad) old new status.Memory = Keeps old new

-- where the octets of the input are known: what its script shows, or that it could not be read, and nothing was printed
abbrev pub ShowsAs : View → (notes : Bool) → (input : Option (List ℕ)) → (old new : Option (List ℕ)) → Status → Type 0
ShowsAs v notes None old new end = ⊤
ShowsAs v notes (Some text) old new end = Shows v (script_of notes (lines_of text)) old new end ⊎ (Keeps old new × IsUnread end)

-- ---- what is read of a script

-- behind its first line
abbrev pub rest_of : (notes : Bool) → FirstLine → Result Script ℕ
rest_of notes f =
    with_setting f.number (Some (setting_view f.setting)) (said_from notes true (λ node. most_limits) (f.number + 1) (lines_of f.rest.now))

pub record IsRead (wanted : Result Script ℕ) (r : ReadScript) : Type 0 where
  pub script : Script
  pub is : wanted ≡ Ok script
  pub nodes : r.nodes ≡ script.setting.nodes
  pub world : r.world ≡ script_world script.setting script.lines
  pub first : r.before + 1 ≡ script.first
  pub lines : map line_view r.lines.items ≡ script.lines
