-- What `bac check` prints for a capture file, and its status.
use Rattle.std.specs.Prelude.{◌≡◌, ◌==◌, ℕ, zero, suc, ◌+◌, ◌++◌, Bool, true, false, if◌then◌else◌, List, [], slice_index, codes, decimal, Option, Some, None}
use Rattle.bac_capture.specs.declared.fault.FileFault.{FileFault}
use Rattle.bac_text.specs.declared.bvlc.BvlcFunction.{BvlcFunction}
use Rattle.bac_capture.specs.Blocks.{FrameView}
use Rattle.bac_text.specs.Bvlc.{function_of, function_name}
use Rattle.bac_capture.specs.FileReports.{Ending, no_heading}
use Rattle.bac_capture.specs.FileReports as report
use Rattle.bac_text.specs.Checked as lines
use Rattle.bac_text.specs.declared.status.Status.{Status}
use Rattle.bac_text.specs.Texts.{line_end}
use Rattle.bac_capture.specs.declared.check_fault.Verdict.{Verdict}
use Rattle.bac_capture.specs.declared.check_fault.Verdict.TheVariants.{Nothing, Good, Other, Bad}
use Rattle.bac_capture.specs.declared.check_fault.CapturedFault.TheVariants.{File}
use Rattle.bac_capture.specs.Counts.{Counts, OTHERS, no_frames, counted, IsTallied}
use Rattle.bac_capture.specs.Judged.{IsVerdict}
use Rattle.bac_capture.specs.CheckTexts.{frame_fault_text}
use Rattle.bac_capture.specs.Walks.{Prints}

-- for the frame with this number, from 1, in words or not: nothing unless it is bad
abbrev pub verdict_text : (in_words : Bool) → ℕ → Verdict → List ℕ
verdict_text in_words number Nothing = []
verdict_text in_words number Good = []
verdict_text in_words number (Other other) = []
verdict_text in_words number (Bad fault) = (codes "frame " ++ (decimal number ++ (codes ": " ++ frame_fault_text in_words fault))) ++ line_end

-- ---- counts

-- by the names in the standard
abbrev pub name_in : Option BvlcFunction → List ℕ
name_in None = codes "BACnet/IPv6"
name_in (Some function) = function_name function

-- the count of BVLLs of the function with this index, unless it is 0
abbrev pub other_text : (place count : ℕ) → List ℕ
other_text place count =
    if count == 0 then [] else (codes "other " ++ (name_in (function_of place) ++ (codes "=" ++ decimal count))) ++ line_end

-- for the first functions, up to this index
abbrev pub others_text : ℕ → List ℕ → List ℕ
others_text zero others = []
others_text (suc n) others = others_text n others ++ other_text n (slice_index others n)

-- in words they are all printed
abbrev pub named_text : (in_words : Bool) → List ℕ → List ℕ
named_text true others = others_text OTHERS others
named_text false others = []

-- in words the counts of BVLLs with other functions; then how many frames there are, and how many carry a good datagram, a bad one, and one
-- with another function; all others carry none
abbrev pub tally_text : (in_words : Bool) → Counts → List ℕ
tally_text in_words c =
    named_text in_words c.others ++ (codes "frames=" ++ (decimal c.frames ++ (codes " good=" ++ (decimal c.good ++ (codes " bad=" ++ (decimal c.bad
    ++ (codes " other=" ++ decimal c.other))))))) ++ line_end

-- ---- a file

-- the counts so far, and whether faults are printed in words, and counts of other functions by name
pub record Checking : Type 0 where
  pub in_words : Bool
  pub counts : Counts

abbrev pub nothing_checked : (in_words : Bool) → Checking
nothing_checked in_words = record { in_words = in_words; counts = no_frames }

-- a frame with this result is printed if it is bad, and counted
abbrev pub IsCounted : (in_words : Bool) → Verdict → Counts → (text : List ℕ) → (next : Counts) → Type 0
IsCounted in_words verdict counts text next = (text ≡ verdict_text in_words (counts.frames + 1) verdict) × (next ≡ counted counts verdict)

abbrev pub IsCountedIn : Verdict → Checking → (text : List ℕ) → (next : Checking) → Type 0
IsCountedIn verdict c text next = (next.in_words ≡ c.in_words) × IsCounted c.in_words verdict c.counts text next.counts

-- a frame is checked; `also` is a port in addition to the sixteen
pub record SeesFrame (also : Option ℕ) (frame : FrameView) (before : Checking) (text : List ℕ) (next : Checking) : Type 0 where
  pub verdict : Verdict
  pub judged : IsVerdict also frame verdict
  pub counted : IsCountedIn verdict before text next

-- the file cannot be read further: this is printed for the frame that would follow
abbrev pub BreaksFile : Prints FileFault Checking
BreaksFile fault before text next = IsCountedIn (Bad (File fault)) before text next

-- the counts are printed below the frames
abbrev pub EndsFile : Ending Checking
EndsFile c text status = (text ≡ tally_text c.in_words c.counts) × IsTallied c.counts.bad status

-- ---- any capture

-- any other input is checked as lines
abbrev pub ReportsLines : Checking → report.Other
ReportsLines c octets old new status = lines.IsReportAs c.in_words false octets old new status

-- a file is checked frame by frame, and any other input as lines
abbrev pub IsReportOf : Option ℕ → (in_words : Bool) → Option (List ℕ) → Option (List ℕ) → Option (List ℕ) → Status → Type 0
IsReportOf also in_words input old new status =
    report.IsReportOf Checking (SeesFrame also) BreaksFile no_heading EndsFile (ReportsLines (nothing_checked in_words)) (nothing_checked in_words) input old new status
