-- The first line of some octets, and the lines after it.
use Rattle.std.proofs.Common.{◌≡◌, ℕ, suc, ◌+◌, ◌<◌, nat_lt, Bool, true, false, not, cond, List, [], ◌∷◌, length, Some, None, take, drop}
use Rattle.std.proofs.Common.{rules, refl, ap, arith, if◌then◌else◌}
use Rattle.std.proofs.lemmas.Bool.Decides.{nat_tests}
use Rattle.std.proofs.lemmas.List.Sums.{prefix_len-le-length}
use Rattle.std.specs.List.{position, position_or_len}
use Rattle.bac_text.specs.Lines.{is_line_end, lines_of}
use Rattle.bac_value_text.specs.Splits.{onto_first}

abbrev first_end : List ℕ → ℕ
first_end = position_or_len is_line_end

before_step : (b : Bool) (x : ℕ) (xs : List ℕ) (n : ℕ) → (n < length xs → lines_of xs ≡ take n xs ∷ lines_of (drop (n + 1) xs))
    → cond (not b) (1 + n) 0 < suc (length xs)
    → (if b then [] ∷ lines_of xs else onto_first x (lines_of xs))
    ≡ take (cond (not b) (1 + n) 0) (x ∷ xs) ∷ lines_of (drop (cond (not b) (1 + n) 0 + 1) (x ∷ xs))
before_step true x xs n others within = refl
before_step false x xs n others within =
    let one : 1 + n ≡ suc n = search arith in
    let two : suc n + 1 ≡ suc (n + 1) = search arith in
    rw (one, two, others (search arith)) refl

-- an end parts the first line from the others
line_before : (text : List ℕ) → first_end text < length text → lines_of text ≡ take (first_end text) text ∷ lines_of (drop (first_end text + 1) text)
line_before [] within = absurd (search (arith, within))
line_before (x ∷ xs) within = before_step (is_line_end x) x xs (first_end xs) (line_before xs) within

last_step : (b : Bool) (x : ℕ) (xs : List ℕ) (n : ℕ) → (length xs ≡ n → 0 < length xs → lines_of xs ≡ xs ∷ [])
    → suc (length xs) ≡ cond (not b) (1 + n) 0
    → (if b then [] ∷ lines_of xs else onto_first x (lines_of xs)) ≡ (x ∷ xs) ∷ []
last_step true x xs n others all = absurd (search (arith, all))
last_step false x [] n others all = refl
last_step false x (y ∷ ys) n others all = ap (onto_first x) (others (search arith) (search arith))

-- octets without an end are one line
one_line : (text : List ℕ) → length text ≡ first_end text → 0 < length text → lines_of text ≡ text ∷ []
one_line [] all some = absurd (search (arith, some))
one_line (x ∷ xs) all some = last_step (is_line_end x) x xs (first_end xs) (one_line xs) all

-- what a search for the first end says
pub no_end : (text : List ℕ) → position is_line_end text ≡ None → 0 < length text → lines_of text ≡ text ∷ []
no_end text none some = go (nat_lt (first_end text) (length text)) refl none where
  go : (b : Bool) → nat_lt (first_end text) (length text) ≡ b → cond b (Some (first_end text)) None ≡ None → lines_of text ≡ text ∷ []
  go false test none = one_line text (grind (arith, nat_tests, test, prefix_len-le-length (λ x. not (is_line_end x)) text)) some
  go true test none = absurd (search (rules, none))

pub at_end : (text : List ℕ) (end : ℕ) → position is_line_end text ≡ Some end
    → (end < length text) × (lines_of text ≡ take end text ∷ lines_of (drop (end + 1) text))
at_end text end some = go (nat_lt (first_end text) (length text)) refl some where
  go : (b : Bool) → nat_lt (first_end text) (length text) ≡ b → cond b (Some (first_end text)) None ≡ Some end
      → (end < length text) × (lines_of text ≡ take end text ∷ lines_of (drop (end + 1) text))
  go true test some =
      let same : first_end text ≡ end = search (some) in
      let within : first_end text < length text = grind (arith, nat_tests, test) in
      rw (← same) (within, line_before text within)
  go false test some = absurd (search (rules, some))
