-- Which line of a chart a mark is, where other marks come before and after it.
use Rattle.std.specs.Prelude.{ℕ, Bool, true, false, nat_eq, if◌then◌else◌, List, [], ◌++◌, codes, decimal, Option, Some, None}
use Rattle.bac_chart.specs.Marks.{Arrow, Mark, Sent, Came, Note, comes}

-- an arrow between two nodes; or at one node, where both are one, what happens there
pub record Line : Type 0 where
  pub moment : ℕ
  pub from : ℕ
  pub to : ℕ
  pub is_lost : Bool
  pub words : List ℕ

-- a datagram that comes to its node later than it was sent
abbrev pub sent_words : (same : Bool) → (sent : ℕ) → List ℕ
sent_words true sent = []
sent_words false sent = codes " sent at " ++ decimal sent

-- a datagram that has come before
abbrev pub again_words : (again : Bool) → List ℕ
again_words false = []
again_words true = codes " again"

-- its number, how it comes, and what it is
abbrev pub coming_words : (again : Bool) → (moment : ℕ) → Arrow → List ℕ
coming_words again moment a =
    decimal a.number ++ (again_words again ++ (sent_words (nat_eq moment a.sent) a.sent ++ (codes " " ++ a.words)))

abbrev pub lost_words : Arrow → List ℕ
lost_words a = decimal a.number ++ (codes " lost " ++ a.words)

abbrev pub lost_line : Arrow → Line
lost_line a = record { moment = a.sent; from = a.from; to = a.to; is_lost = true; words = lost_words a }

abbrev pub coming_line : (again : Bool) → (moment : ℕ) → Arrow → Line
coming_line again moment a =
    record { moment = moment; from = a.from; to = a.to; is_lost = false; words = coming_words again moment a }

abbrev pub note_line : (moment node : ℕ) → (words : List ℕ) → Line
note_line moment node words = record { moment = moment; from = node; to = node; is_lost = false; words = words }

-- a datagram is drawn where it comes, each time that it does; where it never comes, it is drawn as lost where it was sent
abbrev pub line_of : (before : List Mark) → Mark → (after : List Mark) → Option Line
line_of before (Sent a) after = if comes a.number after then None else Some (lost_line a)
line_of before (Came moment a) after = Some (coming_line (comes a.number before) moment a)
line_of before (Note moment node words) after = Some (note_line moment node words)
