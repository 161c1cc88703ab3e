-- The events of a script's lines, one after the other.
use Rattle.std.proofs.Common.{◌≡◌, ℕ, ◌+◌, Bool, true, List, [], ◌∷◌, ◌++◌, Option, Some, None, Result, Ok, Err, refl, sym, ap, ◌∙◌, append_assoc, append-nil}
use Rattle.bac_simulate.specs.Lines.{Setting, setting_at}
use Rattle.bac_text.specs.Notes.{read_of}
use Rattle.bac_simulate.specs.Scripts.{NodeLimits, Script, ScriptLine, before_others, head_after, most_limits, said_at, said_from, script_by, script_from}
use Rattle.bac_simulate.specs.Scripts.{with_setting}

-- what the other lines give, after these events
abbrev pub after : List ScriptLine → Result (List ScriptLine) ℕ → Result (List ScriptLine) ℕ
after events (Ok others) = Ok (events ++ others)
after events (Err bad) = Err bad

pub after_none : (others : Result (List ScriptLine) ℕ) → after [] others ≡ others
after_none (Ok events) = refl
after_none (Err bad) = refl

joined : (events : List ScriptLine) (e : ScriptLine) (number : ℕ) (others : Result (List ScriptLine) ℕ)
    → after events (before_others (Some e) number others) ≡ after (events ++ e ∷ []) others
joined events e number (Ok others) = ap Ok (sym (append_assoc events (e ∷ []) others))
joined events e number (Err bad) = refl

parted : (notes head : Bool) (limits : NodeLimits) (events : List ScriptLine) (number : ℕ) (lines : List (List ℕ)) (line : List ℕ) (others : List (List ℕ))
    → (o : Option ScriptLine) → lines ≡ line ∷ others → said_at notes head limits line ≡ o
    → after events (before_others o number (said_from notes (head_after head o) limits (number + 1) others)) ≡ after events (said_from notes head limits number lines)
parted notes head limits events number lines line others o is at =
    sym (ap (λ (p : Option ScriptLine). after events (before_others p number (said_from notes (head_after head p) limits (number + 1) others))) at)
    ∙ sym (ap (λ (l : List (List ℕ)). after events (said_from notes head limits number l)) is)

-- a line that says an event
pub one_more : (notes head : Bool) (limits : NodeLimits) (events : List ScriptLine) (number : ℕ) (lines : List (List ℕ)) (line : List ℕ) (others : List (List ℕ))
    → (e : ScriptLine) (next : Bool) (all : Result (List ScriptLine) ℕ)
    → lines ≡ line ∷ others → said_at notes head limits line ≡ Some e → next ≡ head_after head (Some e)
    → after events (said_from notes head limits number lines) ≡ all
    → after (events ++ e ∷ []) (said_from notes next limits (number + 1) others) ≡ all
one_more notes head limits events number lines line others e next all is at on before =
    ap (λ (h : Bool). after (events ++ e ∷ []) (said_from notes h limits (number + 1) others)) on
    ∙ (sym (joined events e number (said_from notes (head_after head (Some e)) limits (number + 1) others))
    ∙ (parted notes head limits events number lines line others (Some e) is at ∙ before))

-- one that says none
pub bad_line : (notes head : Bool) (limits : NodeLimits) (events : List ScriptLine) (number : ℕ) (lines : List (List ℕ)) (line : List ℕ) (others : List (List ℕ))
    → (all : Result (List ScriptLine) ℕ)
    → lines ≡ line ∷ others → said_at notes head limits line ≡ None → after events (said_from notes head limits number lines) ≡ all → all ≡ Err number
bad_line notes head limits events number lines line others all is at before =
    sym before ∙ sym (parted notes head limits events number lines line others None is at)

-- none
pub no_more : (notes head : Bool) (limits : NodeLimits) (events : List ScriptLine) (number : ℕ) (lines : List (List ℕ)) (all : Result (List ScriptLine) ℕ)
    → lines ≡ [] → after events (said_from notes head limits number lines) ≡ all → all ≡ Ok events
no_more notes head limits events number lines all is before =
    sym before ∙ (ap (λ (l : List (List ℕ)). after events (said_from notes head limits number l)) is ∙ ap Ok (append-nil events))

-- ---- the first line that is no note

at_first : (notes : Bool) (number : ℕ) (lines : List (List ℕ)) (first : List ℕ) (others : List (List ℕ)) (read : Option (List ℕ)) → lines ≡ first ∷ others
    → read_of notes first ≡ read → script_from notes number lines
    ≡ script_by number read (said_from notes true (λ node. most_limits) (number + 1) others) (script_from notes (number + 1) others)
at_first notes number lines first others read is at =
    ap (script_from notes number) is
    ∙ ap (λ (r : Option (List ℕ)). script_by number r (said_from notes true (λ node. most_limits) (number + 1) others) (script_from notes (number + 1) others)) at

-- a note
pub passed_over : (notes : Bool) (number : ℕ) (lines : List (List ℕ)) (first : List ℕ) (others : List (List ℕ)) (all : Result Script ℕ) → lines ≡ first ∷ others
    → read_of notes first ≡ None → script_from notes number lines ≡ all → script_from notes (number + 1) others ≡ all
passed_over notes number lines first others all is at before = sym (at_first notes number lines first others None is at) ∙ before

-- a line that sets something, or is of no form
pub set_by : (notes : Bool) (number : ℕ) (lines : List (List ℕ)) (first : List ℕ) (others : List (List ℕ)) (line : List ℕ) (o : Option Setting)
    (all : Result Script ℕ) → lines ≡ first ∷ others → read_of notes first ≡ Some line → setting_at line ≡ o → script_from notes number lines ≡ all
    → all ≡ with_setting number o (said_from notes true (λ node. most_limits) (number + 1) others)
set_by notes number lines first others line o all is at sets before =
    sym before ∙ (at_first notes number lines first others (Some line) is at
    ∙ ap (λ (p : Option Setting). with_setting number p (said_from notes true (λ node. most_limits) (number + 1) others)) sets)

pub no_lines : (notes : Bool) (number : ℕ) (lines : List (List ℕ)) (all : Result Script ℕ) → lines ≡ [] → script_from notes number lines ≡ all → all ≡ Err number
no_lines notes number lines all is before = sym before ∙ ap (script_from notes number) is
