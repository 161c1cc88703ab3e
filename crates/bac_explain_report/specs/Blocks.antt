-- The lines of a transaction.
use Rattle.std.specs.Prelude.{◌≡◌, ℕ, ◌-◌, ◌==◌, Bool, List, [], ◌∷◌, ◌++◌, codes, decimal, Option, Some, None, if◌then◌else◌}
use Rattle.bac_explain.specs.Keys.{Key}
use Rattle.bac_explain.specs.Sent.{SentView}
use Rattle.bac_explain.specs.Tables.{ClosedView}
use Rattle.bac_explain.specs.Transactions.{TransactionView}
use Rattle.bac_moment.specs.Times.{IsTextOf}
use Rattle.bac_explain_report.specs.AnswerWords as answer
use Rattle.bac_explain_report.specs.Endings.{answer_ending, reply_name}
use Rattle.bac_explain_report.specs.FramesLines.{frames_line}
use Rattle.bac_explain_report.specs.Keys.{key_text}
use Rattle.bac_explain_report.specs.RequestWords as request

-- how often the first APDU was seen, if more than once, and how many further segments, if any
abbrev pub times_text : ℕ → List ℕ
times_text times = if times == 1 then [] else codes " times=" ++ decimal times

abbrev pub more_text : ℕ → List ℕ
more_text segments = if segments == 0 then [] else codes " more-segments=" ++ decimal segments

abbrev pub counts_text : SentView → List ℕ
counts_text s = times_text s.times ++ more_text s.segments

-- a moment beyond the year 9999 has no text
abbrev pub time_word : Option (List ℕ) → List ℕ
time_word None = codes "-"
time_word (Some time) = time

abbrev pub key_part : Key → SentView → List ℕ
key_part k s = codes " " ++ (key_text k ++ (counts_text s ++ codes " "))

-- when the request was first seen, its transaction, and how often it was seen
pub record IsAskedFront (k : Key) (s : SentView) (text : List ℕ) : Type 0 where
  pub time : Option (List ℕ)
  pub is_time : IsTextOf (Some s.moment) time
  pub is : text ≡ time_word time ++ key_part k s

-- so, and what it asks for
pub record IsAskedLine (k : Key) (s : SentView) (text : List ℕ) : Type 0 where
  pub front : List ℕ
  pub is_front : IsAskedFront k s front
  pub words : List ℕ
  pub are : request.AreOctetsWords s.octets words
  pub is : text ≡ (front ++ words) ++ (10 ∷ [])

-- whether the reply is whole, or only its beginning was seen
abbrev pub answer_name : SentView → List ℕ
answer_name s = if s.whole then reply_name (answer_ending s.octets) else codes "began"

abbrev pub answered_front : (asked : ℕ) → SentView → List ℕ
answered_front asked s =
    codes "  " ++ (answer_name s ++ (codes " after=" ++ (decimal (s.moment - asked) ++ (codes "ms" ++ (counts_text s ++ codes " ")))))

-- the reply: its delay in milliseconds, how often it was seen, and what it says
pub record IsAnsweredLine (asked : ℕ) (s : SentView) (text : List ℕ) : Type 0 where
  pub words : List ℕ
  pub are : answer.AreOctetsWords s.octets words
  pub is : text ≡ (answered_front asked s ++ words) ++ (10 ∷ [])

abbrev pub IsAnswerLineIn : (asked : ℕ) → Option SentView → List ℕ → Type 0
IsAnswerLineIn asked None text = text ≡ []
IsAnswerLineIn asked (Some s) text = IsAnsweredLine asked s text

abbrev pub IsAnswerLine : TransactionView → List ℕ → Type 0
IsAnswerLine t text = IsAnswerLineIn t.request.moment t.answer text

abbrev pub naks_text : ℕ → List ℕ
naks_text naks = if naks == 0 then [] else codes "  negative SegmentACKs=" ++ (decimal naks ++ codes "\n")

-- the end of the reply was not seen, perhaps because the server aborted it
abbrev pub part_text : (broken_off : Bool) → List ℕ
part_text broken_off = if broken_off then codes "  aborted by the server\n" else codes "  incomplete answer\n"

abbrev pub rest_text : (broken_off : Bool) → Option SentView → List ℕ
rest_text broken_off None = codes "  unanswered\n"
rest_text broken_off (Some s) = if s.whole then [] else part_text broken_off

-- the client gave up, or no whole reply was seen
abbrev pub end_text : TransactionView → List ℕ
end_text t = if t.gave_up then codes "  given up by the client\n" else rest_text t.broken_off t.answer

abbrev pub tail_text : TransactionView → List ℕ
tail_text t = naks_text t.naks ++ end_text t

-- the lines up to the answer
pub record IsBlockFront (c : ClosedView) (text : List ℕ) : Type 0 where
  pub asked : List ℕ
  pub answer : List ℕ
  pub is_asked : IsAskedLine c.key c.transaction.request asked
  pub is_answer : IsAnswerLine c.transaction answer
  pub is : text ≡ asked ++ answer

pub record IsBlock (c : ClosedView) (text : List ℕ) : Type 0 where
  pub front : List ℕ
  pub is_front : IsBlockFront c front
  pub is : text ≡ front ++ tail_text c.transaction

-- with the frames below the answer
pub record IsFramedBlock (c : ClosedView) (text : List ℕ) : Type 0 where
  pub front : List ℕ
  pub is_front : IsBlockFront c front
  pub is : text ≡ (front ++ frames_line c.transaction.steps) ++ tail_text c.transaction
