-- Asks whose ends are printed as records: objects of JSON, or rows of CSV.
use Rattle.std.specs.Prelude.{◌≡◌, ℕ, ◌-◌, Bool, List, length, take, Option, Some, None}
use Rattle.std.specs.Io.KnownBytes.{Appends}
use Rattle.bac_ask_report.specs.Objects.{IsObject}
use Rattle.bac_ask_report.specs.Records.{AskRecord, Outcome, Outcome as outcome}
use Rattle.bac_ask_report.specs.Rows.{IsRow, header_text}
use Rattle.bac_commands.specs.AskEnds.{PrintsEnd}
use Rattle.bac_commands.specs.Reports.{is_success}
use Rattle.bac_commands.specs.Words.{AreEndWords}
use Rattle.bac_commands.specs.declared.online.output_format.OutputFormat.{OutputFormat}
use Rattle.bac_driver.specs.Asking.{Question}
use Rattle.bac_driver.specs.declared.question.AskEnd.{AskEnd}
use Rattle.bac_driver.specs.declared.question.AskEnd.TheVariants as end
use Rattle.bac_json_report.specs.Lines.{IsLineOf}
use Rattle.bac_environment.specs.QuestionLines.{Asker}
use Rattle.bac_requester.specs.Faults.{ask_fault_number}
use Rattle.bac_requester.specs.declared.ending.Ending.{Ending}
use Rattle.bac_requester.specs.declared.ending.Ending.TheVariants as ending
use Rattle.bac_service.specs.Values.{Request}
use Rattle.bac_service.specs.Views.{owned_reply_view}
use Rattle.bac_asking.specs.declared.recording.RecordForm.{RecordForm}
use Rattle.bac_asking.specs.declared.recording.RecordForm.TheVariants as form

-- ---- how an ask ended

abbrev pub outcome_of_ending : Ending → Outcome
outcome_of_ending (ending.Answered r) = outcome.Answered (owned_reply_view r)
outcome_of_ending (ending.Rejected reason) = outcome.Rejected reason
outcome_of_ending (ending.Aborted reason) = outcome.Aborted reason
outcome_of_ending ending.TimedOut = outcome.TimedOut
outcome_of_ending ending.Expired = outcome.Expired

abbrev pub outcome_of : AskEnd → Outcome
outcome_of (end.Ended how) = outcome_of_ending how
outcome_of (end.Refused why) = outcome.Refused (ask_fault_number why)
outcome_of end.NoEnding = outcome.NoEnding

-- the words of `ask --text`, and whether the ask succeeded
pub record AreWordsOf (strict : Bool) (request : Request) (end : AskEnd) (words : List ℕ) (succeeded : Bool) : Type 0 where
  pub are : AreEndWords request end words
  pub is : is_success strict request end ≡ succeeded

-- without the end of a line
abbrev pub without_end : List ℕ → List ℕ
without_end line = take (length line - 1) line

-- ---- records

abbrev pub record_of : (time : Option ℕ) → Asker → (round : Option ℕ) → Question → AskEnd → (words : List ℕ) → AskRecord
record_of time asker round q end words = record {
  time = time;
  line = asker.line;
  name = asker.name;
  round = round;
  peer = q.peer;
  request = q.request;
  outcome = outcome_of end;
  words = words;
}

abbrev pub IsRecordText : RecordForm → AskRecord → List ℕ → Type 0
IsRecordText form.Json r text = IsLineOf (IsObject r) text
IsRecordText (form.Csv texts) r text = IsRow texts r text

-- how an ask of a line, or of none, ended was printed as a record, with the words of `ask --text`; whether it succeeded
pub record PrintsRecord (form : RecordForm) (strict : Bool) (asker : Asker) (q : Question) (end : AskEnd) (succeeded : Bool) (old new : Option (List ℕ)) :
    Type 0 where
  pub time : Option ℕ
  pub round : Option ℕ
  pub words : List ℕ
  pub are : AreEndWords q.request end words
  pub text : List ℕ
  pub text_of : IsRecordText form (record_of time asker round q end words) text
  pub printed : Appends old new text
  pub is : is_success strict q.request end ≡ succeeded

-- or in that format
abbrev pub PrintsAsk : Option RecordForm → OutputFormat → Asker → Question → AskEnd → (succeeded : Bool) → (old new : Option (List ℕ)) → Type 0
PrintsAsk None output_format asker q end succeeded old new = PrintsEnd output_format q.request end succeeded old new
PrintsAsk (Some form) output_format asker q end succeeded old new = PrintsRecord form output_format.strict asker q end succeeded old new

-- what stands above records: of rows the names of their columns
abbrev pub PrintsHeader : Option RecordForm → (has_names : Bool) → (old new : Option (List ℕ)) → Type 0
PrintsHeader None has_names old new = new ≡ old
PrintsHeader (Some form.Json) has_names old new = new ≡ old
PrintsHeader (Some (form.Csv texts)) has_names old new = Appends old new (header_text has_names)
