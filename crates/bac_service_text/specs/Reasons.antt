-- Errors, Rejects and Aborts in words.
use Rattle.std.specs.Prelude.{ℕ, List, ◌++◌, codes}
use Rattle.bac_value_text.specs.Reasons.{abort_text, error_text, reject_text}

abbrev pub error_words : (class code : ℕ) → List ℕ
error_words class code = codes "error " ++ error_text class code

abbrev pub abort_words : (reason : ℕ) → List ℕ
abort_words reason = codes "abort " ++ abort_text reason

-- how an ask ended
abbrev pub rejected_words : (reason : ℕ) → List ℕ
rejected_words reason = codes "rejected " ++ reject_text reason

abbrev pub aborted_words : (reason : ℕ) → List ℕ
aborted_words reason = codes "aborted " ++ abort_text reason
