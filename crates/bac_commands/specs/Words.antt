-- How an ask ended, in words.
use Rattle.std.specs.Prelude.{◌≡◌, ℕ, List, codes, Option, None}
use Rattle.bac_service.specs.Values.{Reference, Request}
use Rattle.bac_service_text.specs.Answers.{AreAnswerWords}
use Rattle.bac_service_text.specs.Dispatch.{property_read}
use Rattle.bac_service_text.specs.Reasons.{aborted_words, rejected_words}
use Rattle.bac_transaction.specs.Meanings.{Ending}
use Rattle.bac_transaction.specs.Meanings.Ending.{Answered, Rejected, Aborted, TimedOut, Expired}
use Rattle.bac_requester.specs.TransactionViews.{ending_view}
use Rattle.bac_commands.specs.FaultWords.{refused_words}
use Rattle.bac_driver.specs.declared.question.AskEnd.{AskEnd}
use Rattle.bac_driver.specs.declared.question.AskEnd.TheVariants as end

-- with the property that was asked for, where one was
abbrev pub AreTicketWords : (asked : Option Reference) → Ending → List ℕ → Type 0
AreTicketWords asked (Answered r) words = AreAnswerWords asked r words
AreTicketWords asked (Rejected reason) words = words ≡ rejected_words reason
AreTicketWords asked (Aborted reason) words = words ≡ aborted_words reason
AreTicketWords asked TimedOut words = words ≡ codes "timed-out"
AreTicketWords asked Expired words = words ≡ codes "expired"

-- the same where it is not known what was asked for
abbrev pub AreEndingWords : Ending → List ℕ → Type 0
AreEndingWords how words = AreTicketWords None how words

-- how the ask of a request ended
abbrev pub AreEndWords : Request → AskEnd → List ℕ → Type 0
AreEndWords request (end.Ended how) words = AreTicketWords (property_read request) (ending_view how) words
AreEndWords request (end.Refused why) words = words ≡ refused_words why
AreEndWords request end.NoEnding words = words ≡ codes "no ending"
