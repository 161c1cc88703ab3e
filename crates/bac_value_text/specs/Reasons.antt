-- Errors, and the reasons of Rejects and Aborts, as text (clauses 18 and 21).
use Rattle.std.specs.Prelude.{ℕ, List, ◌++◌, codes, decimal}
use Rattle.bac_value_text.specs.Names.{name_in}
use Rattle.bac_value_text.specs.AbortReasons.{ABORT_REASONS}
use Rattle.bac_value_text.specs.ErrorClasses.{ERROR_CLASSES}
use Rattle.bac_value_text.specs.ErrorCodes.{ERROR_CODES}
use Rattle.bac_value_text.specs.RejectReasons.{REJECT_REASONS}
use Rattle.bac_value_text.specs.Texts.{named_or_number}

-- each by its name if the standard has one
abbrev pub class_text : ℕ → List ℕ
class_text class = named_or_number (name_in ERROR_CLASSES class) class

abbrev pub code_text : ℕ → List ℕ
code_text code = named_or_number (name_in ERROR_CODES code) code

abbrev pub rejection_text : ℕ → List ℕ
rejection_text reason = named_or_number (name_in REJECT_REASONS reason) reason

abbrev pub aborting_text : ℕ → List ℕ
aborting_text reason = named_or_number (name_in ABORT_REASONS reason) reason

-- and its number
abbrev pub error_text : (class code : ℕ) → List ℕ
error_text class code =
    class_text class ++ (codes " " ++ (code_text code ++ (codes " (" ++ (decimal class ++ (codes ":" ++ (decimal code ++ codes ")"))))))

abbrev pub reject_text : (reason : ℕ) → List ℕ
reject_text reason = rejection_text reason ++ (codes " (" ++ (decimal reason ++ codes ")"))

abbrev pub abort_text : (reason : ℕ) → List ℕ
abort_text reason = aborting_text reason ++ (codes " (" ++ (decimal reason ++ codes ")"))
