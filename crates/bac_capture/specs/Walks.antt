-- Passing over a capture file, record by record and block by block, and what a watcher prints of it: for a frame, and where the file cannot be
-- read further. What is printed is a text, and the watcher has a state that changes.
use Rattle.std.specs.Prelude.{◌≡◌, ℕ, zero, suc, ◌++◌, List, [], Result, Ok, Err}
use Rattle.bac_capture.specs.declared.fault.FileFault.{FileFault}
use Rattle.bac_capture.specs.Blocks.{LayoutView, FrameView, BlockView, FrameBlock, SectionBlock, InterfaceBlock, OtherBlock, block_at, after}
use Rattle.bac_capture.specs.Files.{Record, Ended, Broken, Whole, record_at}

-- what is printed for X, where the state changes from the first to the second
abbrev pub Prints : (X S : Type 0) → Type 1
Prints X S = X → S → (text : List ℕ) → S → Type 0

-- what is printed for the rest of a file: how to read it, the state, the octets that are left, the text, and the state at the end
abbrev pub Rest : Type 0 → Type 1
Rest S = LayoutView → S → List ℕ → List ℕ → S → Type 0

-- a frame is seen, and then the rest
pub record IsFrame (S : Type 0) (Visits : Prints FrameView S) (frame : FrameView) (state : S) (text : List ℕ) (Then : S → List ℕ → Type 0) : Type 0 where
  pub next : S
  pub first : List ℕ
  pub told : Visits frame state first next
  pub more : List ℕ
  pub is : text ≡ first ++ more
  pub then : Then next more

abbrev pub IsBlock : (S : Type 0) → Prints FrameView S → BlockView → S → (text : List ℕ) → (Then : S → List ℕ → Type 0) → Type 0
IsBlock S Visits (FrameBlock frame) state text Then = IsFrame S Visits frame state text Then
IsBlock S Visits (SectionBlock order) state text Then = Then state text
IsBlock S Visits (InterfaceBlock interface) state text Then = Then state text
IsBlock S Visits OtherBlock state text Then = Then state text

abbrev pub IsWhole : (S : Type 0) → Prints FrameView S → Prints FileFault S → LayoutView → S → Result BlockView FileFault → (rest text : List ℕ) → (final : S)
    → Rest S → Type 0
IsWhole S Visits Breaks layout state (Err fault) rest text final Then = Breaks fault state text final
IsWhole S Visits Breaks layout state (Ok block) rest text final Then = IsBlock S Visits block state text (λ s t. Then (after layout block) s rest t final)

abbrev pub IsNext : (S : Type 0) → Prints FrameView S → Prints FileFault S → LayoutView → S → Record → (text : List ℕ) → (final : S) → Rest S → Type 0
IsNext S Visits Breaks layout state Ended text final Then = ⊥
IsNext S Visits Breaks layout state (Broken fault) text final Then = Breaks fault state text final
IsNext S Visits Breaks layout state (Whole head body rest) text final Then = IsWhole S Visits Breaks layout state (block_at layout head body) rest text final Then

-- this many records and blocks are read one after the other, and then the file ends, or cannot be read further
abbrev pub AreRead : ℕ → (S : Type 0) → Prints FrameView S → Prints FileFault S → Rest S
AreRead zero S Visits Breaks layout state octets text final = (record_at layout.form layout.order octets ≡ Ended) × (text ≡ []) × (final ≡ state)
AreRead (suc n) S Visits Breaks layout state octets text final =
    IsNext S Visits Breaks layout state (record_at layout.form layout.order octets) text final (AreRead n S Visits Breaks)

-- a file whose header was read, or is invalid
abbrev pub IsFileIn : (S : Type 0) → Prints FrameView S → Prints FileFault S → S → Result (LayoutView × List ℕ) FileFault → (text : List ℕ) → (final : S) → Type 0
IsFileIn S Visits Breaks state (Err fault) text final = Breaks fault state text final
IsFileIn S Visits Breaks state (Ok begun) text final = (n : ℕ) × AreRead n S Visits Breaks begun.0 state begun.1 text final
