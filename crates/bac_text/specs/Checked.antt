-- What `bac check` prints of a capture, and how it ends.
use Rattle.std.specs.Prelude.{ℕ, Bool, true, false, ◌+◌, ◌-◌, ◌++◌, List, [], ◌∷◌, length, codes, decimal, ⊤, Option, Some, None}
use Rattle.std.specs.Io.KnownBytes.{Appends}
use Rattle.bac_text.specs.declared.fault.LineVerdict.{LineVerdict}
use Rattle.bac_text.specs.declared.fault.LineVerdict.TheVariants.{Good, Note, Bad}
use Rattle.bac_text.specs.declared.status.Status.{Status}
use Rattle.bac_text.specs.declared.status.Status.TheVariants.{Done, Faulty, CommandLine, Output, Memory}
use Rattle.bac_text.specs.Lines.{lines_of, AreJudged, good_among, bad_among}
use Rattle.bac_text.specs.Statuses.{IsTallied}
use Rattle.bac_text.specs.Texts.{line_fault_text, line_end}

-- of the line with that number, in words or not: nothing where it is good, or a note
abbrev pub verdict_text : (in_words : Bool) → ℕ → LineVerdict → List ℕ
verdict_text in_words number Good = []
verdict_text in_words number Note = []
verdict_text in_words number (Bad fault) = (codes "line " ++ (decimal number ++ (codes ": " ++ line_fault_text in_words fault))) ++ line_end

-- of the lines after so many
abbrev pub verdicts_text : (in_words : Bool) → ℕ → List LineVerdict → List ℕ
verdicts_text in_words before [] = []
verdicts_text in_words before (verdict ∷ verdicts) = verdict_text in_words (before + 1) verdict ++ verdicts_text in_words (before + 1) verdicts

-- how many lines there are, and how many of them are good and bad; where notes are taken, the other lines are notes
abbrev pub tally_text : (notes : Bool) → (lines good bad : ℕ) → List ℕ
tally_text true lines good bad =
    (codes "lines=" ++ (decimal lines ++ (codes " good=" ++ (decimal good ++ (codes " bad=" ++ (decimal bad
    ++ (codes " notes=" ++ decimal (lines - (good + bad)))))))))
    ++ line_end
tally_text false lines good bad =
    (codes "lines=" ++ (decimal lines ++ (codes " good=" ++ (decimal good ++ (codes " bad=" ++ decimal bad))))) ++ line_end

-- what is printed of a capture, in words or not, and the status: each line's verdict, and then the counts
pub record IsChecked (in_words notes : Bool) (capture : List ℕ) (old new : Option (List ℕ)) (status : Status) : Type 0 where
  pub verdicts : List LineVerdict
  pub judged : AreJudged notes (lines_of capture) 0 verdicts
  pub printed : Appends old new (verdicts_text in_words 0 verdicts ++ tally_text notes (length verdicts) (good_among verdicts) (bad_among verdicts))
  pub tallied : IsTallied (bad_among verdicts) status

-- the same where the octets of the input are known
abbrev pub IsCheckOf : (in_words notes : Bool) → Option (List ℕ) → Option (List ℕ) → Option (List ℕ) → Status → Type 0
IsCheckOf in_words notes None old new status = ⊤
IsCheckOf in_words notes (Some capture) old new status = IsChecked in_words notes capture old new status

-- where the command ends with 0 or 1, the whole capture was checked, with notes or without; the other statuses say nothing of it
abbrev pub IsReportAs : (in_words notes : Bool) → Option (List ℕ) → Option (List ℕ) → Option (List ℕ) → Status → Type 0
IsReportAs in_words notes capture old new Done = IsCheckOf in_words notes capture old new Done
IsReportAs in_words notes capture old new Faulty = IsCheckOf in_words notes capture old new Faulty
IsReportAs in_words notes capture old new CommandLine = ⊤
IsReportAs in_words notes capture old new Output = ⊤
IsReportAs in_words notes capture old new Memory = ⊤

-- each line is one of the capture, and faults are printed by number
abbrev pub IsReportOf : Option (List ℕ) → Option (List ℕ) → Option (List ℕ) → Status → Type 0
IsReportOf capture old new status = IsReportAs false false capture old new status
