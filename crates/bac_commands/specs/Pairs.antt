-- Two nodes in one process: what the first of them asks, what is printed, and the status.
use Rattle.std.specs.Prelude.{◌≡◌, ℕ, negsuc, Bool, true, false, ◌&&◌, List, [], ◌∷◌, Option, None}
use Rattle.std.specs.Io.KnownBytes.{Appends}
use Rattle.bac_service.specs.Values.{Request}
use Rattle.bac_service.specs.Values.Request.{ReadProperty, WriteFile}
use Rattle.bac_service.specs.Values.WriteAccess.{WriteStream}
use Rattle.bac_text.specs.declared.status.Status.{Status}
use Rattle.bac_driver.specs.Asking.{Question}
use Rattle.bac_driver.specs.Pairs.{Pair, PairEnds}
use Rattle.bac_driver.specs.declared.question.AskEnd.{AskEnd}
use Rattle.bac_commands.specs.Questions.{peer_at, question_for}
use Rattle.bac_commands.specs.Reports.{end_line, is_answered}
use Rattle.bac_commands.specs.Statuses.{ByStatus}

-- AABBCC appended to file 1 (position -1 appends, clause 14.2)
abbrev pub append_request : Request
append_request = WriteFile (record { kind = 10; instance = 1 }) (WriteStream (negsuc 0) (170 ∷ 187 ∷ 204 ∷ []))

-- the present-value of analog-input 5
abbrev pub read_request : Request
read_request = ReadProperty (record { object = record { kind = 0; instance = 5 }; property = 85; index = None })

-- the first node asked, for at most so many turns, and how that ended was printed
pub record PairText (answered : Bool) (q : Question) (old new : Pair) (text text_after : Option (List ℕ)) : Type 0 where
  pub end : AskEnd
  pub ends : PairEnds q end 10000 old new
  pub printed : Appends text text_after (end_line end)
  pub is : is_answered end ≡ answered

-- both asks of the second node's address, one after the other
pub record TwoTexts (answered : Bool) (old new : Pair) (text text_after : Option (List ℕ)) : Type 0 where
  pub appended : Bool
  pub read : Bool
  pub middle : Pair
  pub between : Option (List ℕ)
  pub appends : PairText appended (question_for (peer_at old.second.node.link) append_request) old middle text between
  pub reads : PairText read (question_for (peer_at old.second.node.link) read_request) middle new between text_after
  pub both : answered ≡ appended && read

abbrev pub ReportsPair : Status → (old new : Pair) → (text text_after : Option (List ℕ)) → Type 0
ReportsPair s old new text after = ByStatus s (TwoTexts true old new text after) (TwoTexts false old new text after) ⊥
