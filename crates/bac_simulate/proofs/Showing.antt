-- What a status says of a script whose run is shown.
use Rattle.std.proofs.Common.{◌≡◌, ℕ, ◌+◌, true, false, Bool, List, [], map, Option, Some, None, IfOk, IfSome, Result, Ok, Err, inl, inr, refl, sym, ap}
use Rattle.std.proofs.Common.{subst, ◌∙◌}
use Rattle.std.specs.Io.KnownBytes.{Appends, Keeps}
use Rattle.bac_chart.specs.Views.{mark_view}
use Rattle.bac_chart.specs.declared.mark.Mark as code
use Rattle.bac_network.specs.Histories.{WorldView}
use Rattle.bac_simulate.specs.Lines.{Setting}
use Rattle.bac_simulate.specs.Views.{setting_view}
use Rattle.bac_text.specs.Lines.{lines_of}
use Rattle.bac_text.specs.Statuses.{IsFailure}
use Rattle.bac_text.specs.Texts.{AppendsText}
use Rattle.bac_text.specs.declared.status.Status.{Status}
use Rattle.bac_text.specs.declared.status.Status.TheVariants as status
use Rattle.bac_simulate.specs.Drawn.{in_marks, rest_of, shown_text, IsDrawn, IsRead, IsShown, IsTold, Shows, ShowsAs, ShowsScript}
use Rattle.bac_simulate.specs.Houses.{script_world, world_set}
use Rattle.bac_simulate.specs.Runs.{IsEnd, IsUnread, Runs, status_for, status_of}
use Rattle.bac_simulate.specs.Scripts.{IsNotRead, Script, ScriptLine, limits_in, most_limits, said_from, script_of, with_setting}
use Rattle.bac_simulate.specs.Traces.{AppendsMarks}
use Rattle.bac_simulate.specs.Views.{line_view}
use Rattle.bac_simulate.specs.Told.{told_in}
use Rattle.bac_simulate.specs.declared.event_style.EventStyle.{EventStyle}
use Rattle.bac_simulate.specs.declared.script.ScriptFault.{ScriptFault}
use Rattle.bac_simulate.specs.declared.script.ScriptFault.TheVariants as fault
use Rattle.bac_simulate.specs.declared.script.FirstLine.{FirstLine}
use Rattle.bac_simulate.specs.declared.read_script.ReadScript.{ReadScript}
use Rattle.bac_simulate.specs.declared.view.View.{View}
use Rattle.bac_simulate.proofs.Limits.{events_of_houses}
use Rattle.bac_simulate.proofs.Reported.{kept, keeps_itself}

-- ---- a script that was read

-- what is shown of it is shown of the script
same_script : (v : View) (s : Script) (nodes first : ℕ) (lines : List ScriptLine) (all : Bool) (world : WorldView) (text : List ℕ)
    → nodes ≡ s.setting.nodes → first ≡ s.first → lines ≡ s.lines → world ≡ script_world s.setting s.lines
    → IsShown v nodes first lines all world text → ShowsScript v s all text
same_script v s nodes first lines all world text ns fs ls ws shown =
    subst (λ (w : WorldView). IsShown v s.setting.nodes s.first s.lines all w text) ws
    (subst (λ (l : List ScriptLine). IsShown v s.setting.nodes s.first l all world text) ls
    (subst (λ (n : ℕ). IsShown v s.setting.nodes n lines all world text) fs
    (subst (λ (n : ℕ). IsShown v n first lines all world text) ns shown)))

ended : (v : View) (s : Script) (all : Bool) (a b c : Option (List ℕ)) → AppendsText a b (ShowsScript v s all) → Keeps b c
    → Shows v (Ok s) a c (status_of all)
ended v s true a b c printed same = (printed.0, (printed.1.0, kept a b c printed.0 printed.1.1 same))
ended v s false a b c printed same = (printed.0, (printed.1.0, kept a b c printed.0 printed.1.1 same))

failed : (v : View) (s : Script) (a c : Option (List ℕ)) (end : Status) → IsFailure end → Shows v (Ok s) a c end
failed v s a c status.Done f = absurd f
failed v s a c status.Faulty f = absurd f
failed v s a c status.CommandLine f = absurd f
failed v s a c status.Output f = tt
failed v s a c status.Memory f = tt

went : {A B E : Type 0} (v : View) (s : Script) (r : ReadScript) (run : Result Bool E) (flush : Result A B) (a b c : Option (List ℕ)) (end : Status)
    → r.nodes ≡ s.setting.nodes → r.before + 1 ≡ s.first → map line_view r.lines.items ≡ s.lines → r.world ≡ script_world s.setting s.lines
    → IsEnd run flush end → IfOk run (λ all. AppendsText a b (IsShown v r.nodes (r.before + 1) (map line_view r.lines.items) all r.world)) → Keeps b c
    → Shows v (Ok s) a c end
went v s r (Ok all) (Ok x) a b c end ns fs ls ws ends printed same =
    subst (Shows v (Ok s) a c) (sym ends)
    (ended v s all a b c
    (printed.0, (same_script v s r.nodes (r.before + 1) (map line_view r.lines.items) all r.world printed.0 ns fs ls ws printed.1.0, printed.1.1)) same)
went v s r (Ok all) (Err e) a b c end ns fs ls ws ends printed same = failed v s a c end ends
went v s r (Err e) flush a b c end ns fs ls ws ends printed same = failed v s a c end ends

pub shown : {A B E : Type 0} (v : View) (wanted : Result Script ℕ) (r : ReadScript) (run : Result Bool E) (flush : Result A B) (a b c : Option (List ℕ))
    → (end : Status) → IsRead wanted r → IsEnd run flush end
    → IfOk run (λ all. AppendsText a b (IsShown v r.nodes (r.before + 1) (map line_view r.lines.items) all r.world)) → Keeps b c → Shows v wanted a c end
shown v wanted r run flush a b c end read ends printed same =
    subst (λ (w : Result Script ℕ). Shows v w a c end) (sym read.is)
    (went v read.script r run flush a b c end read.nodes read.first read.lines read.world ends printed same)

-- ---- octets that are no script

starved : (v : View) (wanted : Result Script ℕ) (a : Option (List ℕ)) → Shows v wanted a a status.Memory
starved v (Ok s) a = tt
starved v (Err bad) a = keeps_itself a

pub not_read : (v : View) (f : ScriptFault) (wanted : Result Script ℕ) (a : Option (List ℕ)) (end : Status) → IsNotRead f wanted → end ≡ status_for f
    → Shows v wanted a a end
not_read v (fault.Line number) wanted a end bad is =
    subst (Shows v wanted a a) (sym is)
    (subst (λ (w : Result Script ℕ). Shows v w a a status.CommandLine) (sym bad) (keeps_itself a))
not_read v fault.NoMemory wanted a end bad is = subst (Shows v wanted a a) (sym is) (starved v wanted a)

-- ---- inputs

pub taken : (v : View) (notes : Bool) (input : Option (List ℕ)) (held text : List ℕ) (a b : Option (List ℕ)) (end : Status) → text ≡ held
    → IfSome input (λ octets. held ≡ octets) → Shows v (script_of notes (lines_of text)) a b end → ShowsAs v notes input a b end
taken v notes None held text a b end same is shows = tt
taken v notes (Some octets) held text a b end same is shows =
    inl (subst (λ (t : List ℕ). Shows v (script_of notes (lines_of t)) a b end) (same ∙ is) shows)

pub not_taken : (v : View) (notes : Bool) (input a : Option (List ℕ)) (end : Status) → IsUnread end → ShowsAs v notes input a a end
not_taken v notes None a end unread = tt
not_taken v notes (Some octets) a end unread = inr (keeps_itself a, unread)

-- ---- what is read behind the first line

pub rest_read : (notes : Bool) (f : FirstLine) (world : WorldView) (r : ReadScript) (held : List ScriptLine) → world ≡ world_set (setting_view f.setting)
    → said_from notes true (limits_in world.nodes) (f.number + 1) (lines_of f.rest.now) ≡ Ok (map line_view r.lines.items)
    → r.nodes ≡ f.setting.nodes → held ≡ map line_view r.lines.items → r.world ≡ script_world (setting_view f.setting) held → r.before ≡ f.number
    → IsRead (rest_of notes f) r
rest_read notes f world r held set said nodes same made before =
    let s : Setting = setting_view f.setting in
    let n = f.number + 1 in
    let lines = lines_of f.rest.now in
    let read : said_from notes true (λ node. most_limits) n lines ≡ Ok (map line_view r.lines.items)
    = sym (events_of_houses notes true s.window 0 s.nodes n lines)
    ∙ (ap (λ (w : WorldView). said_from notes true (limits_in w.nodes) n lines) (sym set) ∙ said) in
    record {
      script = record { setting = s; first = n; lines = map line_view r.lines.items };
      is = ap (with_setting f.number (Some s)) read;
      nodes = nodes;
      world = made ∙ ap (script_world s) same;
      first = ap (λ (k : ℕ). k + 1) before;
      lines = refl;
    }

-- of a bad line, or where memory ran out
bad_line : (number first : ℕ) (s : Setting) (read : Result (List ScriptLine) ℕ) → read ≡ Err number → with_setting first (Some s) read ≡ Err number
bad_line number first s read is = ap (with_setting first (Some s)) is

pub rest_not_read : (notes : Bool) (f : FirstLine) (world : WorldView) (why : ScriptFault) → world ≡ world_set (setting_view f.setting)
    → IsNotRead why (said_from notes true (limits_in world.nodes) (f.number + 1) (lines_of f.rest.now)) → IsNotRead why (rest_of notes f)
rest_not_read notes f world (fault.Line number) set bad =
    let s : Setting = setting_view f.setting in
    let n = f.number + 1 in
    let lines = lines_of f.rest.now in
    bad_line number f.number s (said_from notes true (λ node. most_limits) n lines)
    (sym (events_of_houses notes true s.window 0 s.nodes n lines)
    ∙ (ap (λ (w : WorldView). said_from notes true (limits_in w.nodes) n lines) (sym set) ∙ bad))
rest_not_read notes f world fault.NoMemory set bad = tt

pub same_read : (wanted other : Result Script ℕ) (r : ReadScript) → wanted ≡ other → IsRead other r → IsRead wanted r
same_read wanted other r is read = subst (λ (w : Result Script ℕ). IsRead w r) (sym is) read

pub same_not_read : (wanted other : Result Script ℕ) (why : ScriptFault) → wanted ≡ other → IsNotRead why other → IsNotRead why wanted
same_not_read wanted other why is read = subst (IsNotRead why) (sym is) read

-- ---- a run that is shown

pub run_shown : (v : View) (nodes first : ℕ) (lines : List ScriptLine) (all : Bool) (world last : WorldView) (marks : List code.Mark) (a b : Option (List ℕ))
    → AppendsMarks [] marks (Runs in_marks first lines all world last) → Appends a b (shown_text v nodes (map mark_view marks) last)
    → AppendsText a b (IsDrawn v nodes first lines all world)
run_shown v nodes first lines all world last marks a b traced printed = (
  shown_text v nodes (map mark_view marks) last,
  (
    record {
      last = last;
      marks = map mark_view marks;
      ran = subst (Runs in_marks first lines all world last) (sym traced.1.1) traced.1.0;
      is = refl;
    },
    printed,
  ),
)

-- ---- a run that is told

pub run_told : {E : Type 0} (s : EventStyle) (run : Result Bool E) (first : ℕ) (held lines : List ScriptLine) (world last : WorldView)
    → (a b : Option (List ℕ)) → held ≡ lines → IfOk run (λ all. AppendsText a b (Runs (told_in s) first held all world last))
    → IfOk run (λ all. AppendsText a b (IsTold s first lines all world))
run_told s (Ok all) first held lines world last a b same told =
    (told.0, ((last, subst (λ (l : List ScriptLine). Runs (told_in s) first l all world last told.0) same told.1.0), told.1.1))
run_told s (Err e) first held lines world last a b same told = tt
