-- Reports on inputs of lines: what is printed of each line, and below them. What is printed is a text, and the report has a state that changes.
use Rattle.std.specs.Prelude.{◌≡◌, ℕ, ◌++◌, Bool, true, false, List, [], ◌∷◌, ⊤, Option, Some, None}
use Rattle.std.specs.Io.KnownBytes.{Appends, Keeps}
use Rattle.bac_text.specs.Lines.{lines_of}
use Rattle.bac_text.specs.NextLine.{kept}
use Rattle.bac_text.specs.declared.status.Status.{Status}

-- what is printed of a line, where the state changes from the first to the second; of an overlong line its front is seen, of 132,001 octets
abbrev pub Prints : (S : Type 0) → Type 1
Prints S = (line : List ℕ) → S → (text : List ℕ) → S → Type 0

-- what is printed below the lines in a state, and the status
abbrev pub Ending : (S : Type 0) → Type 1
Ending S = S → (text : List ℕ) → Status → Type 0

-- a line is seen, and then the others
pub record IsLineSeen (S : Type 0) (Visits : Prints S) (line : List ℕ) (state : S) (text : List ℕ) (Then : S → List ℕ → Type 0) : Type 0 where
  pub next : S
  pub front : List ℕ
  pub told : Visits line state front next
  pub back : List ℕ
  pub is : text ≡ front ++ back
  pub then : Then next back

-- each line is seen, in order; this is printed, and that is the state then
abbrev pub AreSeen : (S : Type 0) → Prints S → List (List ℕ) → S → (text : List ℕ) → (final : S) → Type 0
AreSeen S Visits [] state text final = (text ≡ []) × (final ≡ state)
AreSeen S Visits (line ∷ lines) state text final = IsLineSeen S Visits (kept line) state text (λ next back. AreSeen S Visits lines next back final)

-- all lines were seen, and then the end was printed
pub record AreLinesReported (S : Type 0) (Visits : Prints S) (Ends : Ending S) (state : S) (input : List ℕ) (old new : Option (List ℕ)) (status : Status)
    : Type 0 where
  pub text : List ℕ
  pub final : S
  pub seen : AreSeen S Visits (lines_of input) state text final
  pub end : List ℕ
  pub ends : Ends final end status
  pub printed : Appends old new (text ++ end)

-- where the octets of the input are known
abbrev pub AreReported : (S : Type 0) → Prints S → Ending S → S → (input old new : Option (List ℕ)) → Status → Type 0
AreReported S Visits Ends state None old new status = ⊤
AreReported S Visits Ends state (Some input) old new status = AreLinesReported S Visits Ends state input old new status

-- ---- the steps

-- something was printed: the output changes from the first to the second, the state from the third to the fourth
pub record IsVisited {S : Type 0} (Visits : Prints S) (line : List ℕ) (old new : Option (List ℕ)) (before now : S) : Type 0 where
  pub text : List ℕ
  pub printed : Appends old new text
  pub told : Visits line before text now

pub record IsEnded {S : Type 0} (Ends : Ending S) (state : S) (old new : Option (List ℕ)) (status : Status) : Type 0 where
  pub text : List ℕ
  pub ends : Ends state text status
  pub printed : Appends old new text

-- the first line was taken and seen
pub record IsTaken (S : Type 0) (Visits : Prints S) (octets : List ℕ) (left old new : Option (List ℕ)) (before now : S) : Type 0 where
  pub line : List ℕ
  pub rest : List ℕ
  pub lines : lines_of octets ≡ line ∷ lines_of rest
  pub is : left ≡ Some rest
  pub visited : IsVisited Visits (kept line) old new before now

-- no line is left
pub record IsOver (S : Type 0) (octets : List ℕ) (old new : Option (List ℕ)) (before now : S) : Type 0 where
  pub none : octets ≡ []
  pub keeps : Keeps old new
  pub same : now ≡ before

-- whether there was a line; the input changes from the first to the second, the output from the third to the fourth
abbrev pub IsStep : (S : Type 0) → Prints S → (input left old new : Option (List ℕ)) → (before now : S) → (found : Bool) → Type 0
IsStep S Visits None left old new before now found = ⊤
IsStep S Visits (Some octets) left old new before now true = IsTaken S Visits octets left old new before now
IsStep S Visits (Some octets) left old new before now false = IsOver S octets old new before now

pub record AreAllSeen (S : Type 0) (Visits : Prints S) (input : List ℕ) (old new : Option (List ℕ)) (before final : S) : Type 0 where
  pub text : List ℕ
  pub seen : AreSeen S Visits (lines_of input) before text final
  pub printed : Appends old new text

abbrev pub AreVisited : (S : Type 0) → Prints S → (input old new : Option (List ℕ)) → (before final : S) → Type 0
AreVisited S Visits None old new before final = ⊤
AreVisited S Visits (Some input) old new before final = AreAllSeen S Visits input old new before final
