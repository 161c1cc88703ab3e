-- Printing the kinds of other functions one after the other.
use Rattle.std.proofs.Common.{◌≡◌, ◌+◌, ℕ, List, get_or, Option, sym, subst, add-one}
use Rattle.std.specs.Io.KnownBytes.{Appends}
use Rattle.std.proofs.KnownBytes.{Appends-trans}
use Rattle.bac_capture.specs.Checked.{other_text, others_text}

pub more_printed : (old mid new : Option (List ℕ)) (others : List ℕ) (n k : ℕ) → k ≡ n → Appends old mid (others_text n others)
    → Appends mid new (other_text n (get_or others k 0)) → Appends old new (others_text (n + 1) others)
more_printed old mid new others n k is told here =
    let last = subst (λ (m : ℕ). Appends mid new (other_text n (get_or others m 0))) is here in
    subst (λ (m : ℕ). Appends old new (others_text m others)) (sym (add-one n))
    (Appends-trans old mid new (others_text n others) (other_text n (get_or others n 0)) told last)
