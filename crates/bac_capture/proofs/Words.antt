-- The word at an offset, and the words after it.
use Rattle.std.proofs.Common.{◌≡◌, ℕ, suc, ◌+◌, ◌*◌, ◌<◌, ◌≤◌, List, [], ◌∷◌, length, drop, get_or, sym, ap, ◌∙◌, arith, refl}
use Rattle.std.proofs.Math.Seq.{drop-cons}
use Rattle.bac_capture.specs.Sums.{ones_sum, sum_from}

pub word_more : (sum : ℕ) (octets : List ℕ) (k : ℕ) → k + 1 < length octets
    → sum_from sum (drop k octets) ≡ sum_from (ones_sum sum (get_or octets k 0 * 256 + get_or octets (k + 1) 0)) (drop (k + 2) octets)
word_more sum octets k within =
    let one : k + 1 ≡ suc k = omega arith in
    let two : k + 2 ≡ suc (k + 1) = omega arith in
    let first = drop-cons octets k 0 (omega (arith, within)) in
    let second = drop-cons octets (k + 1) 0 within in
    ap (sum_from sum)
    (first ∙ ap (λ (l : List ℕ). get_or octets k 0 ∷ l)
    (ap (λ (n : ℕ). drop n octets) (sym one) ∙ (second ∙ ap (λ (n : ℕ). get_or octets (k + 1) 0 ∷ drop n octets) (sym two))))

-- no word is left
pub no_word_more : (sum : ℕ) (octets : List ℕ) → length octets < 2 → sum_from sum octets ≡ sum
no_word_more sum [] few = refl
no_word_more sum (x ∷ []) few = refl
no_word_more sum (x ∷ y ∷ octets) few = absurd (omega (arith, few))
