-- Seconds as decimal numbers, read of their digits.
use Rattle.std.proofs.Common.{◌≡◌, ◌∙◌, ℕ, ◌<◌, ◌≤◌, ◌^◌, ◌*◌, ◌+◌, ◌-◌, Bool, true, false, List, [], ◌∷◌, length, get_or, min, nat_eq, refl, sym, ap, subst, arith, Option, Some, None}
use Rattle.std.proofs.lemmas.Bool.Decides.{nat_tests}
use Rattle.std.proofs.lemmas.Str.Parse.{without_leading_plus_none}
use Rattle.std.specs.Bool.{MatchBool}
use Rattle.std.specs.List.{after_first, before_first}
use Rattle.std.specs.Prelude.{MatchOption}
use Rattle.std.specs.Char.{digit_value}
use Rattle.std.specs.Str.Parse.{IsNumeral, digits_value, without_leading_plus}
use Rattle.bac_environment.proofs.Numerals.{one_number}
use Rattle.bac_environment.specs.Addresses.{IsCut, IsNoNumber, IsNumber, has_octet}
use Rattle.bac_asking.specs.Seconds.{AreDecimal, AreDigits, AreMilliseconds, AreNoSeconds, AreSeconds, AreWhole, GivesTime, is_point}

-- ---- digits alone

pub plus_no_digits : (text : List ℕ) → nat_eq (get_or text 0 0) 43 ≡ true → (number : ℕ) → AreDigits text number → ⊥
plus_no_digits [] plus number are = absurd (omega (arith, are.digits.0))
plus_no_digits (x ∷ text) plus number are =
    let is : x ≡ 43 = grind (arith, nat_tests, plus) in
    let low : digit_value 43 < 10 = subst (λ (c : ℕ). digit_value c < 10) is are.digits.1.0 in
    absurd (omega (arith, low))

same_text : (text : List ℕ) → nat_eq (get_or text 0 0) 43 ≡ false → without_leading_plus text ≡ text
same_text text missing = without_leading_plus_none text (λ e. absurd (grind (arith, nat_tests, missing, e)))

pub digits_without_plus : (text : List ℕ) (r : Option ℕ) → nat_eq (get_or text 0 0) 43 ≡ false → MatchOption r (IsNoNumber 64 text) (IsNumber 64 text)
    → MatchOption r ((number : ℕ) → AreDigits text number → ⊥) (AreDigits text)
digits_without_plus text None missing none = λ number are.
    none number
    (record {
      digits = subst (λ (t : List ℕ). IsNumeral 10 t) (sym (same_text text missing)) are.digits;
      is = ap (digits_value 10) (same_text text missing) ∙ are.is;
      fits = are.fits;
    })
digits_without_plus text (Some number) missing is =
    record {
      digits = subst (λ (t : List ℕ). IsNumeral 10 t) (same_text text missing) is.digits;
      is = sym (ap (digits_value 10) (same_text text missing)) ∙ is.is;
      fits = is.fits;
    }

one_of_digits : (text : List ℕ) (a b : ℕ) → AreDigits text a → AreDigits text b → a ≡ b
one_of_digits text a b one other = sym one.is ∙ other.is

-- ---- a text without a point

pub no_whole : (text : List ℕ) → IsNoNumber 64 text → (m : ℕ) → AreWhole text m → ⊥
no_whole text none m are = none are.seconds are.number

pub whole_given : (text : List ℕ) (seconds given : ℕ) → IsNumber 64 text seconds → given ≡ min (seconds * 1000) 18446744073709551615
    → GivesTime (AreWhole text) given
whole_given text seconds given number is =
    record { milliseconds = seconds * 1000; are = record { seconds = seconds; number = number; are = refl }; is = is }

one_whole : (text : List ℕ) (a b : ℕ) → AreWhole text a → AreWhole text b → a ≡ b
one_whole text a b one other =
    let same : one.seconds ≡ other.seconds = one_number 64 text one.seconds other.seconds one.number other.number in one.are ∙ ap (λ (n : ℕ). n * 1000) same ∙ sym other.are

-- ---- a text with a point

pub no_digits_before : (front back : List ℕ) → ((number : ℕ) → AreDigits front number → ⊥) → (m : ℕ) → AreDecimal front back m → ⊥
no_digits_before front back none m are = none are.seconds are.digits_before

pub no_digits_behind : (front back : List ℕ) → ((number : ℕ) → AreDigits back number → ⊥) → (m : ℕ) → AreDecimal front back m → ⊥
no_digits_behind front back none m are = none are.rest are.digits_behind

pub too_many_digits : (front back : List ℕ) → (0 < length back → length back ≤ 3 → ⊥) → (m : ℕ) → AreDecimal front back m → ⊥
too_many_digits front back none m are = none are.digits_behind.digits.0 are.few

pub decimal_given : (front back : List ℕ) (seconds rest each given : ℕ) → AreDigits front seconds → AreDigits back rest → length back ≤ 3
    → each ≡ 10 ^ (3 - length back) → given ≡ min (min (seconds * 1000) 18446744073709551615 + min (rest * each) 18446744073709551615) 18446744073709551615
    → GivesTime (AreDecimal front back) given
decimal_given front back seconds rest each given before behind few each_is is =
    let product : rest * each ≡ rest * 10 ^ (3 - length back) = ap (λ (e : ℕ). rest * e) each_is in
    record {
      milliseconds = seconds * 1000 + rest * each;
      are =
          record {
            seconds = seconds;
            rest = rest;
            digits_before = before;
            digits_behind = behind;
            few = few;
            are = ap (λ (p : ℕ). seconds * 1000 + p) product;
          };
      is = grind (arith, is);
    }

one_decimal : (front back : List ℕ) (a b : ℕ) → AreDecimal front back a → AreDecimal front back b → a ≡ b
one_decimal front back a b one other =
    let seconds : one.seconds ≡ other.seconds = one_of_digits front one.seconds other.seconds one.digits_before other.digits_before in
    let rest : one.rest ≡ other.rest = one_of_digits back one.rest other.rest one.digits_behind other.digits_behind in
    one.are
    ∙ ap (λ (s : ℕ). s * 1000 + one.rest * 10 ^ (3 - length back)) seconds
    ∙ ap (λ (r : ℕ). other.seconds * 1000 + r * 10 ^ (3 - length back)) rest
    ∙ sym other.are

-- ---- both

abbrev Read : (text : List ℕ) → Option ℕ → Type 0
Read text r = MatchOption r ((m : ℕ) → AreMilliseconds text m → ⊥) (GivesTime (AreMilliseconds text))

by_point : (b : Bool) (D W : ℕ → Type 0) (r : Option ℕ) → b ≡ true → MatchOption r ((m : ℕ) → D m → ⊥) (GivesTime D)
    → MatchOption r ((m : ℕ) → MatchBool b (D m) (W m) → ⊥) (GivesTime (λ m. MatchBool b (D m) (W m)))
by_point true D W None is told = told
by_point true D W (Some given) is told = record { milliseconds = told.milliseconds; are = told.are; is = told.is }
by_point false D W r is told = absurd cc

by_none : (b : Bool) (D W : ℕ → Type 0) (r : Option ℕ) → b ≡ false → MatchOption r ((m : ℕ) → W m → ⊥) (GivesTime W)
    → MatchOption r ((m : ℕ) → MatchBool b (D m) (W m) → ⊥) (GivesTime (λ m. MatchBool b (D m) (W m)))
by_none false D W None is told = told
by_none false D W (Some given) is told = record { milliseconds = told.milliseconds; are = told.are; is = told.is }
by_none true D W r is told = absurd cc

pub with_point : (text front back : List ℕ) (r : Option ℕ) → IsCut is_point text front back
    → MatchOption r ((m : ℕ) → AreDecimal front back m → ⊥) (GivesTime (AreDecimal front back)) → Read text r
with_point text front back r cut told =
    by_point (has_octet is_point text) (AreDecimal (before_first is_point text) (after_first is_point text)) (AreWhole text) r cut.there
    (subst (λ (f : List ℕ). MatchOption r ((m : ℕ) → AreDecimal f (after_first is_point text) m → ⊥) (GivesTime (AreDecimal f (after_first is_point text)))) cut.front_is
    (subst (λ (b : List ℕ). MatchOption r ((m : ℕ) → AreDecimal front b m → ⊥) (GivesTime (AreDecimal front b))) cut.back_is told))

pub without_point : (text : List ℕ) (r : Option ℕ) → has_octet is_point text ≡ false
    → MatchOption r ((m : ℕ) → AreWhole text m → ⊥) (GivesTime (AreWhole text)) → Read text r
without_point text r none told =
    by_none (has_octet is_point text) (AreDecimal (before_first is_point text) (after_first is_point text)) (AreWhole text) r none told

one_by : (b : Bool) (D W : ℕ → Type 0) → ((x y : ℕ) → D x → D y → x ≡ y) → ((x y : ℕ) → W x → W y → x ≡ y)
    → (x y : ℕ) → MatchBool b (D x) (W x) → MatchBool b (D y) (W y) → x ≡ y
one_by true D W d w x y one other = d x y one other
one_by false D W d w x y one other = w x y one other

-- a text is one time
pub one_time : (text : List ℕ) (a b : ℕ) → AreMilliseconds text a → AreMilliseconds text b → a ≡ b
one_time text a b one other =
    one_by (has_octet is_point text) (AreDecimal (before_first is_point text) (after_first is_point text)) (AreWhole text)
    (one_decimal (before_first is_point text) (after_first is_point text)) (one_whole text) a b one other

pub no_seconds : (text : List ℕ) → ((m : ℕ) → AreMilliseconds text m → ⊥) → AreNoSeconds text
no_seconds text none = λ m are. none m are.are

pub seconds_told : (text : List ℕ) (given : ℕ) → GivesTime (AreMilliseconds text) given → 0 < given → given ≤ 1000000000000 → AreSeconds text given
seconds_told text given told some within =
    let same : told.milliseconds ≡ given = grind (arith, told.is, within) in
    record { are = subst (AreMilliseconds text) same told.are; some = some; within = within }

pub seconds_refused : (text : List ℕ) (given : ℕ) → GivesTime (AreMilliseconds text) given → (0 < given → given ≤ 1000000000000 → ⊥) → AreNoSeconds text
seconds_refused text given told refused = λ m are.
    let same : told.milliseconds ≡ m = one_time text told.milliseconds m told.are are.are in
    let given_is : given ≡ m = grind (arith, told.is, same, are.within) in
    refused (subst (λ (n : ℕ). 0 < n) (sym given_is) are.some) (subst (λ (n : ℕ). n ≤ 1000000000000) (sym given_is) are.within)
