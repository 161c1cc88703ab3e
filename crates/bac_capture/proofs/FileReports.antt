-- Reports on captures whose first octets were read separately.
use Rattle.std.proofs.Common.{◌≡◌, ℕ, Bool, List, ◌++◌, take, drop, Option, Some, None, ap, subst, ◌∙◌, arith, length-take, take-append-drop}
use Rattle.std.specs.Fmt.{option_append}
use Rattle.std.specs.Io.KnownBytes.{Appends}
use Rattle.std.proofs.KnownBytes.{Appends-trans}
use Rattle.bac_capture.specs.declared.fault.FileFault.{FileFault}
use Rattle.bac_capture.specs.declared.form.FileSignature.{FileSignature}
use Rattle.bac_capture.specs.Blocks.{FrameView}
use Rattle.bac_capture.specs.FileReports.{Ending, Other, IsEnding, IsFileReported, IsReportIn, IsReportOf}
use Rattle.bac_capture.specs.Forms.{signature_of}
use Rattle.bac_capture.specs.Reports.{IsFileWalked}
use Rattle.bac_capture.specs.Runs.{RUN_LIMIT, IsRun}
use Rattle.bac_capture.specs.Walks.{Prints}
use Rattle.bac_capture.proofs.Runs.{take_all}
use Rattle.bac_text.specs.Statuses.{IfEnded}
use Rattle.bac_text.specs.declared.status.Status.{Status}
use Rattle.bac_text.specs.declared.status.Status.TheVariants as status

-- what holds in any case holds if the command ends with 0 or 1
pub if_ended : (s : Status) (Promise : Type 0) → Promise → IfEnded s Promise
if_ended status.Done Promise p = p
if_ended status.Faulty Promise p = p
if_ended status.CommandLine Promise p = tt
if_ended status.Output Promise p = tt
if_ended status.Memory Promise p = tt

module _ (S : Type 0) (Visits : Prints FrameView S) (Breaks : Prints FileFault S) (heading : S → List ℕ) (Ends : Ending S) (Others : Other) (state : S) where
  -- the heading was printed, then the frames, and then the end
  pub file_reported : (signature : FileSignature) (input a b c d : Option (List ℕ)) (final : S) (s : Status) (shown : List ℕ) → shown ≡ heading state
      → Appends a b shown → IsFileWalked S Visits Breaks signature input b c state final → IsEnding S Ends final c d s
      → IsFileReported S Visits Breaks heading Ends state signature input a d s
  file_reported signature None a b c d final s shown is headed walked end = tt
  file_reported signature (Some file) a b c d final s shown is headed walked end = record {
    text = walked.text;
    final = final;
    read = walked.read;
    end = end.text;
    ends = end.ends;
    printed = Appends-trans a b d _ _ (subst (Appends a b) is headed) (Appends-trans b c d _ _ walked.printed end.printed);
  }

  front_reported : (input left a b : Option (List ℕ)) (front shown : List ℕ) (w : Bool) (s : Status) → IsRun input left 4 front w → shown ≡ front
      → IfEnded s (IsReportIn S Visits Breaks heading Ends Others state (signature_of shown) (option_append (Some shown) left) a b s)
      → IsReportOf S Visits Breaks heading Ends Others state input a b s
  front_reported None left a b front shown w s run same report = tt
  front_reported (Some xs) left a b front shown w s run same report =
      let In : Option FileSignature → Option (List ℕ) → Type 0 =
      λ signature octets. IfEnded s (IsReportIn S Visits Breaks heading Ends Others state signature octets a b s) in
      let is : shown ≡ take 4 xs = same ∙ run.keeps ∙ take_all (take 4 xs) RUN_LIMIT (omega (arith, length-take 4 xs)) in
      let whole : shown ++ drop 4 xs ≡ xs = ap (λ (l : List ℕ). l ++ drop 4 xs) is ∙ take-append-drop 4 xs in
      let here = subst (λ (o : Option (List ℕ)). In (signature_of shown) (option_append (Some shown) o)) run.is report in
      subst (λ (l : List ℕ). In (signature_of l) (Some xs)) is (subst (λ (l : List ℕ). In (signature_of shown) (Some l)) whole here)

  -- the first octets were read, and then the report was on `whole`: those octets and all that are left
  pub found_reported : (input left whole a b : Option (List ℕ)) (front shown : List ℕ) (w : Bool) (s : Status) (found : Option FileSignature)
      → IsRun input left 4 front w → shown ≡ front → whole ≡ option_append (Some shown) left → found ≡ signature_of shown
      → IfEnded s (IsReportIn S Visits Breaks heading Ends Others state found whole a b s)
      → IsReportOf S Visits Breaks heading Ends Others state input a b s
  found_reported input left whole a b front shown w s found run same is found_is report =
      let In : Option FileSignature → Option (List ℕ) → Type 0 =
      λ signature octets. IfEnded s (IsReportIn S Visits Breaks heading Ends Others state signature octets a b s) in
      front_reported input left a b front shown w s run same
      (subst (λ (o : Option (List ℕ)). In (signature_of shown) o) is (subst (λ (f : Option FileSignature). In f whole) found_is report))
