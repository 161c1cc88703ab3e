-- What the status says of lines, of a script, and of the octets of an input.
use Rattle.std.proofs.Common.{◌≡◌, ℕ, ◌+◌, true, false, Bool, List, map, Option, Some, None, IfOk, IfSome, Result, Ok, Err, inl, inr, refl, sym, ap, subst, ◌∙◌}
use Rattle.std.specs.Io.KnownBytes.{Appends, Keeps}
use Rattle.bac_network.specs.Histories.{WorldView}
use Rattle.bac_text.specs.Lines.{lines_of}
use Rattle.bac_text.specs.Statuses.{IsFailure}
use Rattle.bac_text.specs.Texts.{AppendsText}
use Rattle.bac_text.specs.declared.status.Status.{Status}
use Rattle.bac_text.specs.declared.status.Status.TheVariants as status
use Rattle.bac_simulate.specs.Drawn.{IsRead}
use Rattle.bac_simulate.specs.Houses.{script_world}
use Rattle.bac_simulate.specs.Runs.{Goes, IsEnd, IsRun, IsUnread, Reports, SimulatesAs, status_for, status_of}
use Rattle.bac_simulate.specs.Scripts.{IsNotRead, Script, ScriptLine, script_of}
use Rattle.bac_simulate.specs.Views.{line_view}
use Rattle.bac_simulate.specs.declared.read_script.ReadScript.{ReadScript}
use Rattle.bac_simulate.specs.declared.script.ScriptFault.{ScriptFault}
use Rattle.bac_simulate.specs.declared.script.ScriptFault.TheVariants as fault

pub kept : (a b c : Option (List ℕ)) (text : List ℕ) → Appends a b text → Keeps b c → Appends a c text
kept None b c text p q = tt
kept (Some xs) None c text p q = absurd p
kept (Some xs) (Some ys) None text p q = absurd q
kept (Some xs) (Some ys) (Some zs) text p q = q ∙ p

pub keeps_itself : (a : Option (List ℕ)) → Keeps a a
keeps_itself None = tt
keeps_itself (Some xs) = refl

-- ---- events that happened in a world

flushed : (all : Bool) (line : ℕ) (events : List ScriptLine) (first last : WorldView) (a b c : Option (List ℕ))
    → AppendsText a b (IsRun line events all first last) → Keeps b c → Goes line (Ok events) first last a c (status_of all)
flushed true line events first last a b c printed same = (printed.0, (printed.1.0, kept a b c printed.0 printed.1.1 same))
flushed false line events first last a b c printed same = (printed.0, (printed.1.0, kept a b c printed.0 printed.1.1 same))

failed : (end : Status) (line : ℕ) (events : List ScriptLine) (first last : WorldView) (a b : Option (List ℕ)) → IsFailure end
    → Goes line (Ok events) first last a b end
failed status.Done line events first last a b f = absurd f
failed status.Faulty line events first last a b f = absurd f
failed status.CommandLine line events first last a b f = absurd f
failed status.Output line events first last a b f = tt
failed status.Memory line events first last a b f = tt

pub gone : {A B E : Type 0} → (run : Result Bool E) (flush : Result A B) (line : ℕ) (events : List ScriptLine) (first last : WorldView)
    → (a b c : Option (List ℕ)) (end : Status) → IsEnd run flush end → IfOk run (λ all. AppendsText a b (IsRun line events all first last)) → Keeps b c
    → Goes line (Ok events) first last a c end
gone (Ok all) (Ok x) line events first last a b c end ends printed same =
    subst (Goes line (Ok events) first last a c) (sym ends) (flushed all line events first last a b c printed same)
gone (Ok all) (Err e) line events first last a b c end ends printed same = failed end line events first last a c ends
gone (Err e) flush line events first last a b c end ends printed same = failed end line events first last a c ends

pub as_read : (read : Result (List ScriptLine) ℕ) (line : ℕ) (events others : List ScriptLine) (first last : WorldView) (a b : Option (List ℕ)) (end : Status)
    → others ≡ events → read ≡ Ok events → Goes line (Ok others) first last a b end → Goes line read first last a b end
as_read read line events others first last a b end same is goes =
    subst (λ (r : Result (List ScriptLine) ℕ). Goes line r first last a b end) (ap Ok same ∙ sym is) goes

starved_of : (read : Result (List ScriptLine) ℕ) (line : ℕ) (w : WorldView) (a : Option (List ℕ)) → Goes line read w w a a status.Memory
starved_of (Ok events) line w a = tt
starved_of (Err bad) line w a = (keeps_itself a, refl)

bad_line_of : (read : Result (List ScriptLine) ℕ) (bad line : ℕ) (w : WorldView) (a : Option (List ℕ)) → read ≡ Err bad
    → Goes line read w w a a status.CommandLine
bad_line_of read bad line w a is = subst (λ (r : Result (List ScriptLine) ℕ). Goes line r w w a a status.CommandLine) (sym is) (keeps_itself a, refl)

pub not_read : (f : ScriptFault) (read : Result (List ScriptLine) ℕ) (line : ℕ) (w : WorldView) (a : Option (List ℕ)) (end : Status) → IsNotRead f read
    → end ≡ status_for f → Goes line read w w a a end
not_read (fault.Line number) read line w a end bad is = subst (Goes line read w w a a) (sym is) (bad_line_of read number line w a bad)
not_read fault.NoMemory read line w a end bad is = subst (Goes line read w w a a) (sym is) (starved_of read line w a)

-- ---- in the network of a script

reports : (s : Script) (last : WorldView) (a b : Option (List ℕ)) (end : Status)
    → Goes s.first (Ok s.lines) (script_world s.setting s.lines) last a b end → Reports (Ok s) a b end
reports s last a b status.Done goes = (last, goes)
reports s last a b status.Faulty goes = (last, goes)
reports s last a b status.CommandLine goes = absurd goes
reports s last a b status.Output goes = tt
reports s last a b status.Memory goes = tt

pub reported : (wanted : Result Script ℕ) (r : ReadScript) (a b : Option (List ℕ)) (end : Status) → IsRead wanted r
    → (last : WorldView) × Goes (r.before + 1) (Ok (map line_view r.lines.items)) r.world last a b end → Reports wanted a b end
reported wanted r a b end read goes =
    let s = read.script in
    let last = goes.0 in
    subst (λ (w : Result Script ℕ). Reports w a b end) (sym read.is)
    (reports s last a b end
    (subst (λ (w : WorldView). Goes s.first (Ok s.lines) w last a b end) read.world
    (subst (λ (l : List ScriptLine). Goes s.first (Ok l) r.world last a b end) read.lines
    (subst (λ (n : ℕ). Goes n (Ok (map line_view r.lines.items)) r.world last a b end) read.first goes.1))))

pub with_lines : (line : ℕ) (lines held : List ScriptLine) (first last : WorldView) (a b : Option (List ℕ)) (end : Status) → held ≡ lines
    → Goes line (Ok held) first last a b end → (w : WorldView) × Goes line (Ok lines) first w a b end
with_lines line lines held first last a b end same goes = (last, subst (λ (l : List ScriptLine). Goes line (Ok l) first last a b end) same goes)

-- ---- octets that are no script, and memory that was refused

refused : (read : Result Script ℕ) (bad : ℕ) (a : Option (List ℕ)) → read ≡ Err bad → Reports read a a status.CommandLine
refused read bad a is = subst (λ (r : Result Script ℕ). Reports r a a status.CommandLine) (sym is) (keeps_itself a)

starved : (read : Result Script ℕ) (a : Option (List ℕ)) (end : Status) → end ≡ status.Memory → Reports read a a end
starved (Ok s) a end is = subst (Reports (Ok s) a a) (sym is) tt
starved (Err bad) a end is = subst (Reports (Err bad) a a) (sym is) (keeps_itself a)

pub no_script : (f : ScriptFault) (read : Result Script ℕ) (a : Option (List ℕ)) (end : Status) → IsNotRead f read → end ≡ status_for f
    → Reports read a a end
no_script (fault.Line number) read a end bad is = subst (Reports read a a) (sym is) (refused read number a bad)
no_script fault.NoMemory read a end bad is = starved read a end is

-- ---- inputs

pub taken : (notes : Bool) (input : Option (List ℕ)) (held text : List ℕ) (a b : Option (List ℕ)) (end : Status) → text ≡ held
    → IfSome input (λ octets. held ≡ octets) → Reports (script_of notes (lines_of text)) a b end → SimulatesAs notes input a b end
taken notes None held text a b end same is reports = tt
taken notes (Some octets) held text a b end same is reports =
    inl (subst (λ (t : List ℕ). Reports (script_of notes (lines_of t)) a b end) (same ∙ is) reports)

pub not_taken : (notes : Bool) (input a : Option (List ℕ)) (end : Status) → IsUnread end → SimulatesAs notes input a a end
not_taken notes None a end unread = tt
not_taken notes (Some octets) a end unread = inr (keeps_itself a, unread)
