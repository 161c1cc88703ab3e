-- Laws of pieces and windows. The functions of src/laws.rt have them as contracts.
use Rattle.std.specs.Prelude.{◌≡◌, ◌≢◌, ℕ, ◌+◌, ◌%◌, ◌<◌, ◌≤◌, min, Bool, List, length, Some, Ok}
use Rattle.bac_segment.specs.Answers.{IsKept, Takes}
use Rattle.bac_segment.specs.Limits.{N_RETRY}
use Rattle.bac_segment.specs.Numbers.{IsInReach}
use Rattle.bac_segment.specs.Pieces.{piece_at}
use Rattle.bac_segment.specs.Window.{Outgoing, in_window, acknowledged, Incoming, Taking, takes, taken_back, parts_after, AreFirst}
use Rattle.bac_segment.specs.declared.incoming.Step.{Step}

-- all whole numbers in reach have different remainders
abbrev pub AreDifferent : (V W a : ℕ) → Type 0
AreDifferent V W a =
    (p q : ℕ) → IsInReach V W a p → IsInReach V W a q → p % 256 ≡ q % 256 → p ≡ q

-- of the pieces in reach, all but the expected one get a negative SegmentACK
abbrev pub TakesOnlyExpected : (V W : ℕ) → Incoming → Type 0
TakesOnlyExpected V W inc =
    (p : ℕ) (more : Bool) (octets : List ℕ) → IsInReach V W (length inc.parts) p → p ≢ length inc.parts
    → takes inc (p % 256) more octets ≡ Taking.Nak (record inc { unacknowledged = 0 })

-- whichever piece in reach arrives, the parts stay a prefix of the pieces
abbrev pub KeepsFirst : (V W : ℕ) → List (List ℕ) → Incoming → Type 0
KeepsFirst V W pieces inc =
    (p : ℕ) (more : Bool) → IsInReach V W (length inc.parts) p → p < length pieces → AreFirst pieces inc.parts
    → AreFirst pieces (parts_after inc (takes inc (p % 256) more (piece_at pieces p)))

-- of the pieces in reach, a SegmentACK of p that acknowledges something is for the window, and acknowledges up to p
abbrev pub AcknowledgesOnlyWindow : (V W own : ℕ) → Outgoing → Type 0
AcknowledgesOnlyWindow V W own out =
    (p window : ℕ) (next : Outgoing) → IsInReach V W out.first p → acknowledged own out (p % 256) window ≡ Some next
    → (out.first ≤ p) × (p < out.first + in_window out) × (next.first ≡ p + 1)

-- a SegmentACK of a piece of the window acknowledges up to that piece
abbrev pub AcknowledgesWindow : (own : ℕ) → Outgoing → Type 0
AcknowledgesWindow own out =
    (p window : ℕ) → out.first ≤ p → p < out.first + in_window out
    → acknowledged own out (p % 256) window ≡ Some (record out { first = p + 1; window = min window own; retries = N_RETRY })

-- removing a segment that was taken restores the receiver
abbrev pub IsUndone : Type 0
IsUndone =
    (before : Incoming) (number : ℕ) (more : Bool) (octets : List ℕ) (step : Step) (after : Incoming) → IsKept (takes before number more octets)
    → Takes (takes before number more octets) before (Ok step) after → taken_back before.unacknowledged after ≡ before
