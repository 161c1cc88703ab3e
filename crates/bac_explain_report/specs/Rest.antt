-- The transactions that are open at the end.
use Rattle.std.specs.Prelude.{◌≡◌, ℕ, Bool, true, false, List, [], ◌∷◌, ◌++◌, Option, Some, None}
use Rattle.std.specs.Io.KnownBytes.{Appends}
use Rattle.bac_slots.specs.declared.slot.Slot.{Slot}
use Rattle.bac_explain.specs.Keys.{Key}
use Rattle.bac_explain.specs.Tables.{ClosedView, Transactions, closed_of}
use Rattle.bac_explain.specs.Transactions.{TransactionView}
use Rattle.bac_explain_report.specs.Accounts.{Account}
use Rattle.bac_explain_report.specs.Selections.{shown}
use Rattle.bac_explain_report.specs.Counting.{Sums, summed}
use Rattle.bac_explain_report.specs.declared.selection.ReportOptions.{ReportOptions}
use Rattle.bac_explain_report.specs.declared.selection.Selection.{Selection}

-- what is printed of a transaction, in one of the forms
abbrev pub Printing : Type 1
Printing = ClosedView → (text : List ℕ) → Type 0

abbrev pub IsOptional : Printing → Option ClosedView → List ℕ → Type 0
IsOptional IsOne None text = text ≡ []
IsOptional IsOne (Some c) text = IsOne c text

-- that of a transaction, if it passes
abbrev pub IsShown : Printing → Selection → Slot Key TransactionView → List ℕ → Type 0
IsShown IsOne f s text = IsOptional IsOne (shown f (Some (closed_of s))) text

-- that of the first of them, and then of the others
pub record IsFirst (IsOne : Printing) (f : Selection) (s : Slot Key TransactionView) (text : List ℕ) (AreOthers : List ℕ → Type 0) : Type 0 where
  pub first : List ℕ
  pub is_shown : IsShown IsOne f s first
  pub others : List ℕ
  pub is : text ≡ first ++ others
  pub are_others : AreOthers others

-- what is printed of those of these transactions that pass, in the order in which they began; the counts change from the first to the second
abbrev pub AreShown : Printing → Selection → Transactions → Sums → (text : List ℕ) → (final : Sums) → Type 0
AreShown IsOne f [] sums text final = (text ≡ []) × (final ≡ sums)
AreShown IsOne f (s ∷ slots) sums text final =
    IsFirst IsOne f s text (λ others. AreShown IsOne f slots (summed f (closed_of s) sums) others final)

-- ---- one after the other

-- a transaction was printed, if it passes
pub record IsPrinted (IsOne : Printing) (f : Selection) (s : Slot Key TransactionView) (old new : Option (List ℕ)) : Type 0 where
  pub text : List ℕ
  pub is_shown : IsShown IsOne f s text
  pub printed : Appends old new text

-- the next of them was printed, and there may be more; or there was none
abbrev pub IsStepIn : Printing → ReportOptions → Transactions → Sums → (next : Account) → (old new : Option (List ℕ)) → (more : Bool) → Type 0
IsStepIn IsOne o [] sums next old new true = ⊥
IsStepIn IsOne o [] sums next old new false = (next ≡ record { options = o; slots = []; sums = sums }) × (new ≡ old)
IsStepIn IsOne o (s ∷ slots) sums next old new true =
    (next ≡ record { options = o; slots = slots; sums = summed o.selection (closed_of s) sums }) × IsPrinted IsOne o.selection s old new
IsStepIn IsOne o (s ∷ slots) sums next old new false = ⊥

abbrev pub IsStep : Printing → (before next : Account) → (old new : Option (List ℕ)) → (more : Bool) → Type 0
IsStep IsOne before next old new more = IsStepIn IsOne before.options before.slots before.sums next old new more

-- all of them that pass were printed
pub record ArePrinted (IsOne : Printing) (before : Account) (final : Sums) (old new : Option (List ℕ)) : Type 0 where
  pub text : List ℕ
  pub are : AreShown IsOne before.options.selection before.slots before.sums text final
  pub printed : Appends old new text
