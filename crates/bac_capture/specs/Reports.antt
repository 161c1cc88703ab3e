-- The effects of the steps of reading a capture file, if its octets are known.
use Rattle.std.specs.Prelude.{◌≡◌, ℕ, List, ⊤, Result, Ok, Err, Option, Some, None}
use Rattle.std.specs.Io.KnownBytes.{Appends, Keeps}
use Rattle.bac_capture.specs.declared.fault.FileFault.{FileFault}
use Rattle.bac_capture.specs.declared.form.FileSignature.{FileSignature}
use Rattle.bac_capture.specs.Begins.{begun_at}
use Rattle.bac_capture.specs.Blocks.{LayoutView, FrameView, BlockView, FrameBlock, SectionBlock, InterfaceBlock, OtherBlock, block_at, after}
use Rattle.bac_capture.specs.Files.{Record, Ended, Broken, Whole, record_at}
use Rattle.bac_capture.specs.declared.walk.Step.{Step}
use Rattle.bac_capture.specs.declared.walk.Step.TheVariants as step
use Rattle.bac_capture.specs.Walks.{Prints, AreRead, IsFileIn}

-- something was printed: the output changes from the first to the second, the state from the third to the fourth
pub record IsPrinted {X S : Type 0} (Says : Prints X S) (x : X) (old new : Option (List ℕ)) (before now : S) : Type 0 where
  pub text : List ℕ
  pub printed : Appends old new text
  pub says : Says x before text now

abbrev pub IsPassed : (S : Type 0) → (old new : Option (List ℕ)) → (before now : S) → Type 0
IsPassed S old new before now = Keeps old new × (now ≡ before)

abbrev pub IsBlockTaken : (S : Type 0) → Prints FrameView S → BlockView → (old new : Option (List ℕ)) → (before now : S) → Type 0
IsBlockTaken S Visits (FrameBlock frame) old new before now = IsPrinted Visits frame old new before now
IsBlockTaken S Visits (SectionBlock order) old new before now = IsPassed S old new before now
IsBlockTaken S Visits (InterfaceBlock interface) old new before now = IsPassed S old new before now
IsBlockTaken S Visits OtherBlock old new before now = IsPassed S old new before now

-- a block was handled: the layout is the next one, and a frame, if any, was seen
abbrev pub IsTaken : (S : Type 0) → Prints FrameView S → (layout next : LayoutView) → BlockView → (old new : Option (List ℕ)) → (before now : S) → Type 0
IsTaken S Visits layout next block old new before now = (next ≡ after layout block) × IsBlockTaken S Visits block old new before now

-- the file cannot be read further, and this was reported
abbrev pub IsBroken : (S : Type 0) → Prints FileFault S → FileFault → (old new : Option (List ℕ)) → (before now : S) → Step → Type 0
IsBroken S Breaks fault old new before now step.Ended = ⊥
IsBroken S Breaks fault old new before now step.Broken = IsPrinted Breaks fault old new before now
IsBroken S Breaks fault old new before now step.Taken = ⊥

abbrev pub IsGoodTaken : (S : Type 0) → Prints FrameView S → (layout next : LayoutView) → BlockView → (old new : Option (List ℕ)) → (before now : S) → Step → Type 0
IsGoodTaken S Visits layout next block old new before now step.Ended = ⊥
IsGoodTaken S Visits layout next block old new before now step.Broken = ⊥
IsGoodTaken S Visits layout next block old new before now step.Taken = IsTaken S Visits layout next block old new before now

abbrev pub IsWholeTaken : (S : Type 0) → Prints FrameView S → Prints FileFault S → (layout next : LayoutView) → Result BlockView FileFault
    → (old new : Option (List ℕ)) → (before now : S) → Step → Type 0
IsWholeTaken S Visits Breaks layout next (Err fault) old new before now s = IsBroken S Breaks fault old new before now s
IsWholeTaken S Visits Breaks layout next (Ok block) old new before now s = IsGoodTaken S Visits layout next block old new before now s

abbrev pub IsEnd : (S : Type 0) → (old new : Option (List ℕ)) → (before now : S) → Step → Type 0
IsEnd S old new before now step.Ended = IsPassed S old new before now
IsEnd S old new before now step.Broken = ⊥
IsEnd S old new before now step.Taken = ⊥

abbrev pub IsRecordTaken : (S : Type 0) → Prints FrameView S → Prints FileFault S → (layout next : LayoutView) → Record → (left old new : Option (List ℕ))
    → (before now : S) → Step → Type 0
IsRecordTaken S Visits Breaks layout next Ended left old new before now s = IsEnd S old new before now s
IsRecordTaken S Visits Breaks layout next (Broken fault) left old new before now s = IsBroken S Breaks fault old new before now s
IsRecordTaken S Visits Breaks layout next (Whole head body rest) left old new before now s =
    (left ≡ Some rest) × IsWholeTaken S Visits Breaks layout next (block_at layout head body) old new before now s

-- the input changes from the first to the second, the output from the third to the fourth
abbrev pub IsStep : (S : Type 0) → Prints FrameView S → Prints FileFault S → (layout next : LayoutView) → (input left old new : Option (List ℕ))
    → (before now : S) → Step → Type 0
IsStep S Visits Breaks layout next None left old new before now s = ⊤
IsStep S Visits Breaks layout next (Some octets) left old new before now s =
    IsRecordTaken S Visits Breaks layout next (record_at layout.form layout.order octets) left old new before now s

-- the rest of the file was read and reported
pub record IsWalkOf (S : Type 0) (Visits : Prints FrameView S) (Breaks : Prints FileFault S) (layout : LayoutView) (octets : List ℕ)
    (old new : Option (List ℕ)) (before final : S) : Type 0 where
  pub records : ℕ
  pub text : List ℕ
  pub read : AreRead records S Visits Breaks layout before octets text final
  pub printed : Appends old new text

abbrev pub AreWalked : (S : Type 0) → Prints FrameView S → Prints FileFault S → LayoutView → (input old new : Option (List ℕ)) → (before final : S) → Type 0
AreWalked S Visits Breaks layout None old new before final = ⊤
AreWalked S Visits Breaks layout (Some octets) old new before final = IsWalkOf S Visits Breaks layout octets old new before final

-- the same for a whole file
pub record IsFileWalkOf (S : Type 0) (Visits : Prints FrameView S) (Breaks : Prints FileFault S) (signature : FileSignature) (file : List ℕ)
    (old new : Option (List ℕ)) (before final : S) : Type 0 where
  pub text : List ℕ
  pub read : IsFileIn S Visits Breaks before (begun_at signature.format signature.order file) text final
  pub printed : Appends old new text

abbrev pub IsFileWalked : (S : Type 0) → Prints FrameView S → Prints FileFault S → FileSignature → (input old new : Option (List ℕ)) → (before final : S) → Type 0
IsFileWalked S Visits Breaks signature None old new before final = ⊤
IsFileWalked S Visits Breaks signature (Some file) old new before final = IsFileWalkOf S Visits Breaks signature file old new before final
