-- What the steps of checking a capture do, where the octets of the input are known.
use Rattle.std.specs.Prelude.{◌≡◌, ℕ, Bool, ◌+◌, ◌++◌, List, [], ◌∷◌, length, ⊤, Option, Some, None}
use Rattle.std.specs.Io.KnownBytes.{Appends, Keeps}
use Rattle.bac_text.specs.declared.tally.LineTally.{LineTally}
use Rattle.bac_text.specs.declared.fault.LineVerdict.{LineVerdict}
use Rattle.bac_text.specs.Checked.{verdict_text, verdicts_text}
use Rattle.bac_text.specs.Lines.{lines_of, short_capture_at, IsJudged, AreJudged, good_among, bad_among}

-- how many lines there are so far, how many of them are good and bad, and the greatest moment of the capture lines
pub record Count : Type 0 where
  pub lines : ℕ
  pub good : ℕ
  pub bad : ℕ
  pub latest : ℕ

abbrev pub count_of : LineTally → Count
count_of t = record { lines = t.lines; good = t.good; bad = t.bad; latest = t.latest }

-- a line was judged and counted, and its verdict printed
pub record IsCounted (in_words notes : Bool) (line : List ℕ) (old new : Option (List ℕ)) (before after : Count) : Type 0 where
  pub verdict : LineVerdict
  pub judged : IsJudged (short_capture_at notes line) before.latest verdict after.latest
  pub printed : Appends old new (verdict_text in_words (before.lines + 1) verdict)
  pub lines : after.lines ≡ before.lines + 1
  pub good : after.good ≡ before.good + good_among (verdict ∷ [])
  pub bad : after.bad ≡ before.bad + bad_among (verdict ∷ [])

-- the first line was taken and counted
pub record IsNextCounted (in_words notes : Bool) (octets : List ℕ) (left old new : Option (List ℕ)) (before after : Count) : Type 0 where
  pub line : List ℕ
  pub rest : List ℕ
  pub lines : lines_of octets ≡ line ∷ lines_of rest
  pub is : left ≡ Some rest
  pub counted : IsCounted in_words notes line old new before after

-- the input goes from the first argument to the second, the output from the third to the fourth
abbrev pub IsStep : (in_words notes : Bool) → Option (List ℕ) → Option (List ℕ) → Option (List ℕ) → Option (List ℕ) → Count → Option Count → Type 0
IsStep in_words notes None left old new before after = ⊤
IsStep in_words notes (Some octets) left old new before None = (octets ≡ []) × Keeps old new
IsStep in_words notes (Some octets) left old new before (Some after) = IsNextCounted in_words notes octets left old new before after

-- some lines were counted, and the others stand before
pub record IsSoFar (in_words notes : Bool) (octets : List ℕ) (left old new : Option (List ℕ)) (tally : Count) : Type 0 where
  pub verdicts : List LineVerdict
  pub rest : List ℕ
  pub is : left ≡ Some rest
  pub judged : (more : List LineVerdict) → AreJudged notes (lines_of rest) tally.latest more → AreJudged notes (lines_of octets) 0 (verdicts ++ more)
  pub printed : Appends old new (verdicts_text in_words 0 verdicts)
  pub lines : tally.lines ≡ length verdicts
  pub good : tally.good ≡ good_among verdicts
  pub bad : tally.bad ≡ bad_among verdicts

abbrev pub AreSoFar : (in_words notes : Bool) → Option (List ℕ) → Option (List ℕ) → Option (List ℕ) → Option (List ℕ) → Count → Type 0
AreSoFar in_words notes None left old new tally = ⊤
AreSoFar in_words notes (Some octets) left old new tally = IsSoFar in_words notes octets left old new tally

-- all lines were counted, and their verdicts printed
pub record IsCountOf (in_words notes : Bool) (octets : List ℕ) (old new : Option (List ℕ)) (tally : Count) : Type 0 where
  pub verdicts : List LineVerdict
  pub judged : AreJudged notes (lines_of octets) 0 verdicts
  pub printed : Appends old new (verdicts_text in_words 0 verdicts)
  pub lines : tally.lines ≡ length verdicts
  pub good : tally.good ≡ good_among verdicts
  pub bad : tally.bad ≡ bad_among verdicts

abbrev pub AreCounted : (in_words notes : Bool) → Option (List ℕ) → Option (List ℕ) → Option (List ℕ) → Count → Type 0
AreCounted in_words notes None old new tally = ⊤
AreCounted in_words notes (Some octets) old new tally = IsCountOf in_words notes octets old new tally
