-- Reports on captures: what is printed for the frames of a file, above them and below them, or for octets that are no file.
use Rattle.std.specs.Prelude.{ℕ, ◌++◌, List, [], take, ⊤, Option, Some, None}
use Rattle.std.specs.Io.KnownBytes.{Appends}
use Rattle.bac_capture.specs.declared.fault.FileFault.{FileFault}
use Rattle.bac_capture.specs.declared.form.FileSignature.{FileSignature}
use Rattle.bac_capture.specs.Begins.{begun_at}
use Rattle.bac_capture.specs.Blocks.{FrameView}
use Rattle.bac_capture.specs.Forms.{signature_of}
use Rattle.bac_capture.specs.Walks.{Prints, IsFileIn}
use Rattle.bac_text.specs.Statuses.{IfEnded}
use Rattle.bac_text.specs.declared.status.Status.{Status}

-- what is printed below the frames in a state, and the status
abbrev pub Ending : Type 0 → Type 1
Ending S = S → (text : List ℕ) → Status → Type 0

-- what is printed for octets that are no file, if they are known, and the status
abbrev pub Other : Type 1
Other = (octets : Option (List ℕ)) → (old : Option (List ℕ)) → (new : Option (List ℕ)) → Status → Type 0

-- nothing is printed above the frames
abbrev pub no_heading : {S : Type 0} → S → List ℕ
no_heading state = []

-- the command does not end with 0 or 1
abbrev pub no_report : Other
no_report octets old new status = ⊥

-- the text below the frames was printed
pub record IsEnding (S : Type 0) (Ends : Ending S) (state : S) (old new : Option (List ℕ)) (status : Status) : Type 0 where
  pub text : List ℕ
  pub ends : Ends state text status
  pub printed : Appends old new text

-- the heading was printed, then what there is to print of each frame of a file, and the end
pub record IsReported (S : Type 0) (Visits : Prints FrameView S) (Breaks : Prints FileFault S) (heading : S → List ℕ) (Ends : Ending S) (state : S)
    (signature : FileSignature) (file : List ℕ) (old new : Option (List ℕ)) (status : Status) : Type 0 where
  pub text : List ℕ
  pub final : S
  pub read : IsFileIn S Visits Breaks state (begun_at signature.format signature.order file) text final
  pub end : List ℕ
  pub ends : Ends final end status
  pub printed : Appends old new (heading state ++ (text ++ end))

abbrev pub IsFileReported : (S : Type 0) → Prints FrameView S → Prints FileFault S → (heading : S → List ℕ) → Ending S → S → FileSignature
    → (file old new : Option (List ℕ)) → Status → Type 0
IsFileReported S Visits Breaks heading Ends state signature None old new status = ⊤
IsFileReported S Visits Breaks heading Ends state signature (Some file) old new status =
    IsReported S Visits Breaks heading Ends state signature file old new status

abbrev pub IsReportIn : (S : Type 0) → Prints FrameView S → Prints FileFault S → (heading : S → List ℕ) → Ending S → Other → S → Option FileSignature
    → (octets old new : Option (List ℕ)) → Status → Type 0
IsReportIn S Visits Breaks heading Ends Others state None octets old new status = Others octets old new status
IsReportIn S Visits Breaks heading Ends Others state (Some signature) octets old new status =
    IsFileReported S Visits Breaks heading Ends state signature octets old new status

-- if the command ends with 0 or 1, all octets were reported on; the first four determine whether they are a file
abbrev pub IsReportOf : (S : Type 0) → Prints FrameView S → Prints FileFault S → (heading : S → List ℕ) → Ending S → Other → S
    → (octets old new : Option (List ℕ)) → Status → Type 0
IsReportOf S Visits Breaks heading Ends Others state None old new status = ⊤
IsReportOf S Visits Breaks heading Ends Others state (Some octets) old new status =
    IfEnded status (IsReportIn S Visits Breaks heading Ends Others state (signature_of (take 4 octets)) (Some octets) old new status)
