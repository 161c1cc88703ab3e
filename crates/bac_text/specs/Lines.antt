-- The lines of a capture, and which of them are good.
use Rattle.std.specs.Prelude.{◌≡◌, ℕ, suc, nat_lt, ◌==◌, Bool, true, false, List, [], ◌∷◌, length, if◌then◌else◌, Option, Some, None}
use Rattle.bac_text.specs.declared.fault.LineFault.TheVariants.{NoCaptureLine, MomentGoesBack, Datagram}
use Rattle.bac_text.specs.declared.fault.LineVerdict.{LineVerdict}
use Rattle.bac_text.specs.declared.fault.LineVerdict.TheVariants.{Good, Note, Bad}
use Rattle.std.specs.Option.{option_map}
use Rattle.bac_text.specs.declared.lines.TheConstants as code
use Rattle.bac_value_text.specs.Splits.{onto_first}
use Rattle.bac_text.specs.Capture.{capture_at}
use Rattle.bac_text.specs.Faults.{function_in}
use Rattle.bac_text.specs.Notes.{read_of}
use Rattle.bac_text.specs.Layers.{IsFine, IsAtFault}

-- ---- lines

-- a line ends at this octet, which the last may lack
abbrev pub LINE_END : ℕ
LINE_END = 10

abbrev pub is_line_end : ℕ → Bool
is_line_end octet = octet == LINE_END

-- most octets of a capture line, without its end, as the code states them
abbrev pub LINE_LIMIT : ℕ
LINE_LIMIT = code.LINE_LIMIT

-- the octets of the first line
abbrev pub line_in : List ℕ → List ℕ
line_in [] = []
line_in (octet ∷ octets) = if octet == LINE_END then [] else octet ∷ line_in octets

-- the lines of an input, without their ends
abbrev pub lines_of : List ℕ → List (List ℕ)
lines_of [] = []
lines_of (octet ∷ octets) = if octet == LINE_END then [] ∷ lines_of octets else onto_first octet (lines_of octets)

-- ---- what a line is

-- where the line is not too long
abbrev pub unless_long : {A : Type 0} → (line : List ℕ) → (long : A) → (short : A) → A
unless_long line long short = if nat_lt LINE_LIMIT (length line) then long else short

-- the moment and the datagram of a capture line; None of a line of another form; and None where the line is a note
abbrev pub CaptureLine : Type 0
CaptureLine = Option (Option (ℕ × List ℕ))

abbrev pub short_capture_at : (notes : Bool) → List ℕ → CaptureLine
short_capture_at notes line = unless_long line (Some None) (option_map capture_at (read_of notes line))

-- ---- what is wrong with a line

-- the datagram has no fault, or that one
abbrev pub IsVerdict : List ℕ → LineVerdict → Type 0
IsVerdict datagram Good = IsFine datagram
IsVerdict datagram Note = ⊥
IsVerdict datagram (Bad NoCaptureLine) = ⊥
IsVerdict datagram (Bad MomentGoesBack) = ⊥
IsVerdict datagram (Bad (Datagram fault function)) = IsAtFault datagram fault × (function ≡ function_in datagram)

-- a line whose moment goes back is judged by that alone, and the greatest moment stays
abbrev pub IsJudgedIn : (goes_back : Bool) → ℕ → List ℕ → ℕ → LineVerdict → ℕ → Type 0
IsJudgedIn true moment datagram latest verdict next = (verdict ≡ Bad MomentGoesBack) × (next ≡ latest)
IsJudgedIn false moment datagram latest verdict next = IsVerdict datagram verdict × (next ≡ moment)

-- what is wrong with a line, where the greatest moment of the capture lines before it is `latest`; from here on it is `next`
abbrev pub IsJudged : CaptureLine → ℕ → LineVerdict → ℕ → Type 0
IsJudged None latest verdict next = (verdict ≡ Note) × (next ≡ latest)
IsJudged (Some None) latest verdict next = (verdict ≡ Bad NoCaptureLine) × (next ≡ latest)
IsJudged (Some (Some line)) latest verdict next = IsJudgedIn (nat_lt line.0 latest) line.0 line.1 latest verdict next

-- ---- what is wrong with each of the lines, where the greatest moment before them is `latest`

abbrev pub AreJudged : (notes : Bool) → List (List ℕ) → ℕ → List LineVerdict → Type 0
AreJudged notes [] latest verdicts = verdicts ≡ []
AreJudged notes (line ∷ lines) latest [] = ⊥
AreJudged notes (line ∷ lines) latest (verdict ∷ verdicts) =
    (next : ℕ) × (IsJudged (short_capture_at notes line) latest verdict next × AreJudged notes lines next verdicts)

-- how many lines are good
abbrev pub good_among : List LineVerdict → ℕ
good_among [] = 0
good_among (Good ∷ verdicts) = suc (good_among verdicts)
good_among (Note ∷ verdicts) = good_among verdicts
good_among (Bad fault ∷ verdicts) = good_among verdicts

-- how many are bad; the others are notes
abbrev pub bad_among : List LineVerdict → ℕ
bad_among [] = 0
bad_among (Good ∷ verdicts) = bad_among verdicts
bad_among (Note ∷ verdicts) = bad_among verdicts
bad_among (Bad fault ∷ verdicts) = suc (bad_among verdicts)
