-- What was printed of a buffered reader over a file that has read nothing yet was printed of the file.
use Rattle.std.proofs.Common.{◌≡◌, ◌∙◌, ℕ, Bool, true, false, List, [], Option, None, Some, refl, subst}
use Rattle.std.specs.Prelude.{IfSome}
use Rattle.bac_explain_report.specs.Charted.{IsReportIn}
use Rattle.bac_chart.specs.declared.drawing.ChartFormat.{ChartFormat}
use Rattle.bac_reading.specs.Copied.{AreDecodedOf, IfKnown}
use Rattle.bac_reading.specs.declared.copied.Copied.{Copied}
use Rattle.std.specs.Io.KnownBytes.{Keeps, prepend_known}
use Rattle.bac_text.specs.declared.status.Status.{Status}
use Rattle.bac_text.specs.declared.status.Status.TheVariants as status
use Rattle.bac_commands.specs.Statuses.{ByStatus}
use Rattle.bac_text.specs.DecodedLines.{AreDecoded}
use Rattle.bac_reading.specs.Decodings.{AreLayered}
use Rattle.bac_reading.specs.Files.{IsPrintedFile}
use Rattle.bac_reading.specs.Reports.{IsReport}
use Rattle.bac_reading.specs.declared.decoding.LayerForm.{LayerForm}
use Rattle.bac_reading.specs.declared.decoding.LayerForm.TheVariants.{Numbers, Objects, Words}
use Rattle.bac_reading.specs.declared.report.Report.{Report}
use Rattle.bac_reading.specs.declared.report.Report.TheVariants.{Chart, Check, CheckJson, CheckLines, CheckLinesJson, Explain, ExplainHtml, ExplainJson}

pub prepend_nothing : (known : Option (List ℕ)) → prepend_known [] known ≡ known
prepend_nothing None = refl
prepend_nothing (Some octets) = refl

-- what was read of a file at the path is so
pub printed_file : (IsAt : (path : List ℕ) → (content : Option (List ℕ)) → Type 0) (path : List ℕ) (read : Option (List ℕ))
    (Says : Option (List ℕ) → Type 0) (s : Status) → IsAt path read → Says read → IsPrintedFile IsAt path s Says
printed_file IsAt path read Says status.Done at told = record { content = read; at = at; says = told }
printed_file IsAt path read Says status.Faulty at told = record { content = read; at = at; says = told }
printed_file IsAt path read Says status.CommandLine at told = tt
printed_file IsAt path read Says status.Output at told = tt
printed_file IsAt path read Says status.Memory at told = tt

-- what is so at any status is so where a command ended with 0 or 1
pub at_any : (s : Status) (Says : Type 0) → Says → ByStatus s Says Says (Unit {0})
at_any status.Done Says is = is
at_any status.Faulty Says is = is
at_any status.CommandLine Says is = tt
at_any status.Output Says is = tt
at_any status.Memory Says is = tt

-- what is so there of a file at the path
pub ended_file : (IsAt : (path : List ℕ) → (content : Option (List ℕ)) → Type 0) (path : List ℕ) (read : Option (List ℕ))
    (Says : Option (List ℕ) → Type 0) (s : Status) → IsAt path read → ByStatus s (Says read) (Says read) (Unit {0}) → IsPrintedFile IsAt path s Says
ended_file IsAt path read Says status.Done at told = record { content = read; at = at; says = told }
ended_file IsAt path read Says status.Faulty at told = record { content = read; at = at; says = told }
ended_file IsAt path read Says status.CommandLine at told = tt
ended_file IsAt path read Says status.Output at told = tt
ended_file IsAt path read Says status.Memory at told = tt

-- what is so of an input whose next octets were looked at was so before
pub told_before : (old new : Option (List ℕ)) (Says : Option (List ℕ) → Type 0) → Keeps old new → Says None → Says new → Says old
told_before None new Says keeps unknown told = unknown
told_before (Some octets) None Says keeps unknown told = absurd keeps
told_before (Some octets) (Some left) Says keeps unknown told = subst (λ (o : List ℕ). Says (Some o)) keeps told

drawn_of_nothing : (pairs : Bool) (form : ChartFormat) (values : Bool) (also : Option ℕ) (old new : Option (List ℕ)) (s : Status)
    → IsReportIn pairs form values also None old new s
drawn_of_nothing true form values also old new s = tt
drawn_of_nothing false form values also old new s = tt

-- nothing is said of a capture whose octets are unknown
pub said_of_nothing : (report : Report) (also : Option ℕ) (old new : Option (List ℕ)) (s : Status) → IsReport report also None old new s
said_of_nothing (Check in_words) also old new s = tt
said_of_nothing CheckJson also old new s = tt
said_of_nothing (CheckLines in_words) also old new status.Done = tt
said_of_nothing (CheckLines in_words) also old new status.Faulty = tt
said_of_nothing (CheckLines in_words) also old new status.CommandLine = tt
said_of_nothing (CheckLines in_words) also old new status.Output = tt
said_of_nothing (CheckLines in_words) also old new status.Memory = tt
said_of_nothing CheckLinesJson also old new status.Done = tt
said_of_nothing CheckLinesJson also old new status.Faulty = tt
said_of_nothing CheckLinesJson also old new status.CommandLine = tt
said_of_nothing CheckLinesJson also old new status.Output = tt
said_of_nothing CheckLinesJson also old new status.Memory = tt
said_of_nothing (Explain options) also old new s = tt
said_of_nothing (ExplainJson options) also old new s = tt
said_of_nothing (ExplainHtml options) also old new s = tt
said_of_nothing (Chart options) also old new s = drawn_of_nothing options.pairs options.form options.values also old new s

-- nothing is said of the lines of an input of which nothing is known
lines_of_nothing : (in_words : Bool) (old new : Option (List ℕ)) (s : Status) → AreDecoded in_words None old new s
lines_of_nothing in_words old new status.Done = tt
lines_of_nothing in_words old new status.Faulty = tt
lines_of_nothing in_words old new status.CommandLine = tt
lines_of_nothing in_words old new status.Output = tt
lines_of_nothing in_words old new status.Memory = tt

-- nor of datagrams whose digits are
pub layered_of_nothing : (layers : LayerForm) (old new : Option (List ℕ)) (s : Status) → AreLayered layers None old new s
layered_of_nothing Numbers old new s = lines_of_nothing false old new s
layered_of_nothing Words old new s = lines_of_nothing true old new s
layered_of_nothing Objects old new status.Done = tt
layered_of_nothing Objects old new status.Faulty = tt
layered_of_nothing Objects old new status.CommandLine = tt
layered_of_nothing Objects old new status.Output = tt
layered_of_nothing Objects old new status.Memory = tt

-- what was printed as by one way was printed as by any equal one
pub decoded_as : (k l : Copied) (content old new : Option (List ℕ)) (s : Status) → k ≡ l → AreDecodedOf k content old new s → AreDecodedOf l content old new s
decoded_as k l content old new s is told = subst (λ (j : Copied). AreDecodedOf j content old new s) is told

-- what is known of a file's octets is said of what was read
pub copied_told : (read : Option (List ℕ)) (items text : List ℕ) (Says : List ℕ → Type 0) → IfSome read (λ octets. items ≡ octets) → text ≡ items → Says text
    → IfKnown read Says
copied_told None items text Says is same told = tt
copied_told (Some octets) items text Says is same told = subst Says (same ∙ is) told
