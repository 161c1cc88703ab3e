-- What `bac check --json` prints of a capture.
use Rattle.std.specs.Prelude.{◌≡◌, ℕ, ◌+◌, false, List, [], codes, Option, Some, None}
use Rattle.bac_capture.specs.declared.check_fault.CapturedFault.{CapturedFault}
use Rattle.bac_capture.specs.declared.check_fault.CapturedFault.TheVariants.{Datagram, File, Link, Packet}
use Rattle.bac_capture.specs.declared.check_fault.Verdict.{Verdict}
use Rattle.bac_capture.specs.declared.check_fault.Verdict.TheVariants.{Bad, Good, Nothing, Other}
use Rattle.bac_capture.specs.declared.fault.FileFault.{FileFault}
use Rattle.bac_capture.specs.Blocks.{FrameView}
use Rattle.bac_capture.specs.Counted.{counts_of}
use Rattle.bac_capture.specs.Counts.{Counts, IsTallied, counted, no_frames}
use Rattle.bac_capture.specs.FileReports.{no_heading}
use Rattle.bac_capture.specs.FileReports as report
use Rattle.bac_capture.specs.Judged.{IsVerdict}
use Rattle.bac_capture.specs.Texts.{file_fault_text, packet_fault_text}
use Rattle.bac_capture.specs.Walks.{Prints}
use Rattle.bac_json.specs.Forms.{optional_number}
use Rattle.bac_json_report.specs.CheckedLines.{AreChecked}
use Rattle.bac_json_report.specs.Faults.{fault_form, outer_fault_form}
use Rattle.bac_json_report.specs.Lines.{IsLineOf}
use Rattle.bac_json_report.specs.TimeForms.{IsTimeForm}
use Rattle.bac_json_report.specs.declared.file_check.FileCheck.{FileCheck}
use Rattle.bac_text.specs.declared.status.Status.{Status}
use Rattle.serde_json.specs.Data.{Data, member, no_members, number, object, string, unsigned}

-- ---- a bad frame

abbrev pub bad_frame_form : (frame : ℕ) → (moment : Option ℕ) → (time fault : Data) → Data
bad_frame_form frame moment time fault =
    object (member (codes "fault") fault (member (codes "frame") (number (unsigned frame)) (member (codes "moment") (optional_number moment)
    (member (codes "time") time (member (codes "type") (string (codes "fault")) no_members)))))

-- its moment in milliseconds and as text, where the file has one
pub record IsBadFrame (frame : ℕ) (moment : Option ℕ) (fault d : Data) : Type 0 where
  pub time : Data
  pub time_of : IsTimeForm moment time
  pub is : d ≡ bad_frame_form frame moment time fault

abbrev pub captured_form : CapturedFault → Data
captured_form Link = outer_fault_form (codes "frame") (codes "unknown link layer")
captured_form (Packet fault) = outer_fault_form (codes "frame") (packet_fault_text fault)
captured_form (Datagram fault function) = fault_form fault
captured_form (File fault) = outer_fault_form (codes "file") (file_fault_text fault)

abbrev pub verdict_fault : Verdict → Option Data
verdict_fault Nothing = None
verdict_fault Good = None
verdict_fault (Other other) = None
verdict_fault (Bad fault) = Some (captured_form fault)

-- for the frame with this number, from 1: nothing unless it is bad
abbrev pub IsFaultText : (place : ℕ) → (moment : Option ℕ) → Option Data → (text : List ℕ) → Type 0
IsFaultText place moment None text = text ≡ []
IsFaultText place moment (Some fault) text = IsLineOf (IsBadFrame place moment fault) text

-- ---- a file

abbrev pub count_of : FileCheck → Counts
count_of c = counts_of c.tally

-- a frame of this moment with this verdict is printed if it is bad, and counted
pub record IsCounted (moment : Option ℕ) (verdict : Verdict) (before : Counts) (text : List ℕ) (next : Counts) : Type 0 where
  pub text_of : IsFaultText (before.frames + 1) moment (verdict_fault verdict) text
  pub is : next ≡ counted before verdict

-- a frame is checked; `also` is a port in addition to the sixteen
pub record SeesFrame (also : Option ℕ) (frame : FrameView) (before : Counts) (text : List ℕ) (next : Counts) : Type 0 where
  pub verdict : Verdict
  pub judged : IsVerdict also frame verdict
  pub counted : IsCounted frame.moment verdict before text next

-- the file cannot be read further: this is printed for the frame that would follow, which has no moment
abbrev pub BreaksFile : Prints FileFault Counts
BreaksFile fault before text next = IsCounted None (Bad (File fault)) before text next

abbrev pub summary_form : Counts → Data
summary_form c =
    object (member (codes "bad") (number (unsigned c.bad)) (member (codes "frames") (number (unsigned c.frames))
    (member (codes "good") (number (unsigned c.good)) (member (codes "other") (number (unsigned c.other))
    (member (codes "type") (string (codes "summary")) no_members)))))

-- the counts are printed below the frames
pub record EndsFile (c : Counts) (text : List ℕ) (status : Status) : Type 0 where
  pub text_of : IsLineOf (λ d. d ≡ summary_form c) text
  pub tallied : IsTallied c.bad status

-- ---- any capture

-- a file is checked frame by frame, and any other input as lines
abbrev pub IsReportOf : Option ℕ → Option (List ℕ) → Option (List ℕ) → Option (List ℕ) → Status → Type 0
IsReportOf also input old new status =
    report.IsReportOf Counts (SeesFrame also) BreaksFile no_heading EndsFile (AreChecked false) no_frames input old new status
