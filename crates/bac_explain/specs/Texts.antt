-- The texts for what is wrong.
use Rattle.std.specs.Prelude.{ℕ, List, codes}
use Rattle.bac_explain.specs.declared.finding.Finding.{Finding}
use Rattle.bac_explain.specs.declared.finding.Finding.TheVariants.{AnswerToNoRequest, OtherService, AnotherAnswer, PerformedTwice, InvokeIdReused, InvokeIdConfused}
use Rattle.bac_explain.specs.declared.finding.Finding.TheVariants.{SentTooOften, SegmentMissing, BeyondWindow, SegmentSentTooOften, OldCopy, NegativeAck}

abbrev pub finding_text : Finding → List ℕ
finding_text AnswerToNoRequest = codes "an answer to no request"
finding_text OtherService = codes "an answer of another service"
finding_text AnotherAnswer = codes "another answer than before"
finding_text PerformedTwice = codes "an append performed twice"
finding_text InvokeIdReused = codes "another request with the invoke ID of an earlier one"
finding_text InvokeIdConfused =
    codes "another request with the invoke ID of an earlier one, whose answer this stack's server would send"
finding_text SentTooOften = codes "a request sent more than four times"
finding_text SegmentMissing = codes "a segment before it is missing"
finding_text BeyondWindow = codes "a segment beyond the window"
finding_text SegmentSentTooOften = codes "a segment sent more than four times"
finding_text OldCopy = codes "a copy older than 5 s"
finding_text NegativeAck = codes "a negative SegmentACK"
