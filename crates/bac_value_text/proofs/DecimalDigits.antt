-- Decimal digits are parsed as their number, and a printed number is parsed as itself.
use Rattle.std.proofs.Common.{◌≡◌, ℕ, ℤ, pos, negsuc, suc, ◌-◌, ◌^◌, ◌<◌, ◌≤◌, nat_lt, nat_le, true, false, Bool, ◌&&◌, ◌==◌, List, [], ◌∷◌, length, Option, Some, None, Result, Ok, Err}
use Rattle.std.proofs.Common.{rules, arith, refl, ap, if◌then◌else◌}
use Rattle.std.specs.Char.{is_ascii_digit}
use Rattle.std.specs.Fmt.{decimal, signed_decimal}
use Rattle.std.specs.List.{list_all}
use Rattle.std.specs.Result.{OkIff, result_ok}
use Rattle.std.specs.Str.Parse.{ParsesUnsigned}
use Rattle.std.proofs.lemmas.Bool.Decides.{nat_tests}
use Rattle.std.proofs.lemmas.Fmt.{decimal_nonempty, digits_decimal, digits_value-decimal}
use Rattle.std.proofs.lemmas.Str.Parse.{IsNumeralModel, numerals_by_fold, parse_digits}
use Rattle.bac_value.specs.Number.{distance}
use Rattle.bac_value_text.specs.Numbers.{number_on, number_of, number_up_to, is_minus, negative_of, positive_of, signed_of}

own : IsNumeralModel (λ ds. list_all is_ascii_digit ds ≡ true) (number_on 0)
own = numerals_by_fold _ (search rules) number_on (search rules)

abbrev kept : Bool → ℕ → Option ℕ
kept b n = if b then Some n else None

-- the result if two tests decide it
told : {E : Type 0} (r : Result ℕ E) (l n : ℕ) → OkIff r ((0 < l) × (n < 2 ^ 64)) n → result_ok r ≡ kept (nat_lt 0 l && nat_lt n (2 ^ 64)) n
told (Ok x) l n h =
    let some : nat_lt 0 l ≡ true = grind (arith, nat_tests, h) in
    let fits : nat_lt n (2 ^ 64) ≡ true = grind (arith, nat_tests, h) in
    rw (some, fits) (ap (λ (m : ℕ). kept true m) h.1)
told (Err e) l n h = go (nat_lt 0 l) (nat_lt n (2 ^ 64)) refl refl where
  go : (a b : Bool) → nat_lt 0 l ≡ a → nat_lt n (2 ^ 64) ≡ b → None ≡ kept (a && b) n
  go false b p q = refl
  go true false p q = refl
  go true true p q =
      let some : 0 < l = grind (arith, nat_tests, p) in
      let fits : n < 2 ^ 64 = grind (arith, nat_tests, q) in
      absurd (h (some, fits))

pub number_parsed : {E : Type 0} (bs : List ℕ) (r : Result ℕ E) → list_all is_ascii_digit bs ≡ true → ParsesUnsigned 64 10 bs r → result_ok r ≡ number_of bs
number_parsed bs r digits parsed = rw digits (told r (length bs) (number_on 0 bs) (parse_digits own 64 bs r parsed digits))

-- ---- what is printed

pub decimal_digits : (n : ℕ) → n < 2 ^ 64 → list_all is_ascii_digit (decimal n) ≡ true
decimal_digits n h = digits_decimal own n h

pub decimal_read : (n : ℕ) → n < 2 ^ 64 → number_of (decimal n) ≡ Some n
decimal_read n h =
    let some : nat_lt 0 (length (decimal n)) ≡ true = grind (arith, nat_tests, decimal_nonempty n h) in
    let fits : nat_lt n (2 ^ 64) ≡ true = grind (arith, nat_tests, h) in
    rw (digits_value-decimal own n h, decimal_digits n h, some, fits) refl

pub decimal_up_to : (most n : ℕ) → n < 2 ^ 64 → n ≤ most → number_up_to most (decimal n) ≡ Some n
decimal_up_to most n h small =
    let fits : nat_le n most ≡ true = grind (arith, nat_tests, small) in
    rw (decimal_read n h, fits) refl

digits_no_minus : (bs : List ℕ) → list_all is_ascii_digit bs ≡ true → is_minus bs ≡ false
digits_no_minus [] h = refl
digits_no_minus (x ∷ xs) h = go (x == 45) refl where
  go : (b : Bool) → (x == 45) ≡ b → (x == 45) ≡ false
  go false e = e
  go true e =
      let is : x ≡ 45 = grind (arith, nat_tests, e) in
      absurd (search (rules, rw is at h))

pub signed_read : (z : ℤ) → distance z < 2 ^ 63 → signed_of (signed_decimal z) ≡ Some z
unfolding negative_of positive_of
signed_read (pos n) h =
    rw (digits_no_minus (decimal n) (decimal_digits n (omega arith)), decimal_up_to (2 ^ 63 - 1) n (omega arith) (omega arith)) refl
signed_read (negsuc n) h = rw (decimal_up_to (2 ^ 63) (suc n) (omega arith) (omega arith)) refl
