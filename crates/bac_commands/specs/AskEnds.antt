-- How the end of an ask is printed, by the output_format in which that is wanted.
use Rattle.std.specs.Prelude.{◌≡◌, ℕ, Bool, true, false, List, ◌++◌, Option}
use Rattle.std.specs.Io.KnownBytes.{Appends}
use Rattle.bac_service.specs.Values.{Request}
use Rattle.bac_text.specs.Texts.{line_end}
use Rattle.bac_text.specs.declared.status.Status.{Status}
use Rattle.bac_driver.specs.Asking.{AskingEnds, Question}
use Rattle.bac_driver.specs.Runs.{Timed}
use Rattle.bac_driver.specs.declared.wait_limit.WaitLimit.{WaitLimit}
use Rattle.bac_driver.specs.declared.question.AskEnd.{AskEnd}
use Rattle.bac_commands.specs.FileOctets.{AreWritten, octets_of}
use Rattle.bac_commands.specs.Reports.{end_line, is_success, reply_of}
use Rattle.bac_commands.specs.Statuses.{ByStatus}
use Rattle.bac_commands.specs.Words.{AreEndWords}
use Rattle.bac_commands.specs.declared.online.output_format.OutputFormat.{OutputFormat}
use Rattle.bac_commands.specs.declared.online.output_format.Style.{Style}
use Rattle.bac_commands.specs.declared.online.output_format.Style.TheVariants as style

-- by a line of numbers and octets
pub record PrintsNumbers (strict : Bool) (request : Request) (end : AskEnd) (succeeded : Bool) (old new : Option (List ℕ)) : Type 0 where
  pub printed : Appends old new (end_line end)
  pub is : is_success strict request end ≡ succeeded

-- by a line of words
pub record PrintsWords (strict : Bool) (request : Request) (end : AskEnd) (succeeded : Bool) (old new : Option (List ℕ)) : Type 0 where
  pub words : List ℕ
  pub are : AreEndWords request end words
  pub printed : Appends old new (words ++ line_end)
  pub is : is_success strict request end ≡ succeeded

-- or by octets of a file alone; whether the ask succeeded
abbrev pub PrintsAs : Style → (strict : Bool) → Request → AskEnd → (succeeded : Bool) → (old new : Option (List ℕ)) → Type 0
PrintsAs style.Numbers strict request end succeeded old new = PrintsNumbers strict request end succeeded old new
PrintsAs style.Words strict request end succeeded old new = PrintsWords strict request end succeeded old new
PrintsAs style.Octets strict request end succeeded old new = AreWritten (octets_of (reply_of end)) succeeded old new

abbrev pub PrintsEnd : OutputFormat → Request → AskEnd → (succeeded : Bool) → (old new : Option (List ℕ)) → Type 0
PrintsEnd output_format request end succeeded old new = PrintsAs output_format.style output_format.strict request end succeeded old new

-- a node asked, for at most so many turns with that wait_limit, and how that ended was printed
pub record Asked (output_format : OutputFormat) (succeeded : Bool) (q : Question) (p : WaitLimit) (before after : Timed) (old new : Option (List ℕ)) : Type 0 where
  pub end : AskEnd
  pub ends : AskingEnds q end p 100000 before after
  pub told : PrintsEnd output_format q.request end succeeded old new

abbrev pub ReportsAsking : Status → OutputFormat → Question → WaitLimit → (before after : Timed) → (old new : Option (List ℕ)) → Type 0
ReportsAsking s output_format q p before after old new =
    ByStatus s (Asked output_format true q p before after old new) (Asked output_format false q p before after old new) ⊥
