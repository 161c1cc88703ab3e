-- The first part of a text, and the other parts.
use Rattle.std.proofs.Common.{◌≡◌, ℕ, suc, ◌+◌, ◌<◌, nat_lt, Bool, true, false, not, cond, List, [], ◌∷◌, length, Some, None, take, drop}
use Rattle.std.proofs.Common.{rules, refl, arith, if◌then◌else◌}
use Rattle.std.proofs.lemmas.Bool.Decides.{nat_tests}
use Rattle.std.proofs.lemmas.List.Sums.{prefix_len-le-length}
use Rattle.std.specs.List.{position, position_or_len}
use Rattle.bac_value_text.specs.Splits.{onto_first, split_by}

module _ (is_separator : ℕ → Bool) where
  abbrev first : List ℕ → ℕ
  first = position_or_len is_separator

  abbrev parts : List ℕ → List (List ℕ)
  parts = split_by is_separator

  before_step : (b : Bool) (x : ℕ) (xs : List ℕ) (n : ℕ) → (n < length xs → parts xs ≡ take n xs ∷ parts (drop (n + 1) xs))
      → cond (not b) (1 + n) 0 < suc (length xs)
      → (if b then [] ∷ parts xs else onto_first x (parts xs))
      ≡ take (cond (not b) (1 + n) 0) (x ∷ xs) ∷ parts (drop (cond (not b) (1 + n) 0 + 1) (x ∷ xs))
  before_step true x xs n others within = refl
  before_step false x xs n others within =
      let one : 1 + n ≡ suc n = search arith in
      let two : suc n + 1 ≡ suc (n + 1) = search arith in
      rw (one, two, others (search arith)) refl

  -- a separator separates the first part from the others
  pub part_before : (text : List ℕ) → first text < length text → parts text ≡ take (first text) text ∷ parts (drop (first text + 1) text)
  part_before [] within = absurd (search (arith, within))
  part_before (x ∷ xs) within = before_step (is_separator x) x xs (first xs) (part_before xs) within

  last_step : (b : Bool) (x : ℕ) (xs : List ℕ) (n : ℕ) → (length xs ≡ n → parts xs ≡ xs ∷ [])
      → suc (length xs) ≡ cond (not b) (1 + n) 0
      → (if b then [] ∷ parts xs else onto_first x (parts xs)) ≡ (x ∷ xs) ∷ []
  last_step true x xs n others all = absurd (search (arith, all))
  last_step false x xs n others all = rw (others (search arith)) refl

  -- a text without a separator is one part
  pub one_part : (text : List ℕ) → length text ≡ first text → parts text ≡ text ∷ []
  one_part [] all = refl
  one_part (x ∷ xs) all = last_step (is_separator x) x xs (first xs) (one_part xs) all

  -- what a search for the first separator means
  pub no_separator : (text : List ℕ) → position is_separator text ≡ None → parts text ≡ text ∷ []
  no_separator text none = go (nat_lt (first text) (length text)) refl none where
    go : (b : Bool) → nat_lt (first text) (length text) ≡ b → cond b (Some (first text)) None ≡ None → parts text ≡ text ∷ []
    go false test none = one_part text (grind (arith, nat_tests, test, prefix_len-le-length (λ x. not (is_separator x)) text))
    go true test none = absurd (search (rules, none))

  pub at_separator : (text : List ℕ) (end : ℕ) → position is_separator text ≡ Some end
      → (end < length text) × (parts text ≡ take end text ∷ parts (drop (end + 1) text))
  at_separator text end some = go (nat_lt (first text) (length text)) refl some where
    go : (b : Bool) → nat_lt (first text) (length text) ≡ b → cond b (Some (first text)) None ≡ Some end
        → (end < length text) × (parts text ≡ take end text ∷ parts (drop (end + 1) text))
    go true test some =
        let same : first text ≡ end = search (some) in
        let within : first text < length text = grind (arith, nat_tests, test) in
        rw (← same) (within, part_before text within)
    go false test some = absurd (search (rules, some))
