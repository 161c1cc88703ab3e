-- Seconds as decimal numbers: `2`, or `0.5`.
use Rattle.std.specs.Prelude.{◌≡◌, ℕ, ◌^◌, ◌*◌, ◌+◌, ◌-◌, ◌<◌, ◌≤◌, Bool, List, length, min}
use Rattle.std.specs.Bool.{MatchBool}
use Rattle.std.specs.List.{after_first, before_first}
use Rattle.std.specs.Str.Parse.{IsNumeral, digits_value}
use Rattle.bac_environment.specs.Addresses.{IsNumber, has_octet, is_mark}

abbrev pub is_point : (octet : ℕ) → Bool
is_point = is_mark 46

-- a text is the digits of this number, of 64 bits, and nothing else
pub record AreDigits (text : List ℕ) (number : ℕ) : Type 0 where
  pub digits : IsNumeral 10 text
  pub is : digits_value 10 text ≡ number
  pub fits : number < 2 ^ 64

-- whole seconds are so many milliseconds
pub record AreWhole (text : List ℕ) (milliseconds : ℕ) : Type 0 where
  pub seconds : ℕ
  pub number : IsNumber 64 text seconds
  pub are : milliseconds ≡ seconds * 1000

-- digits before a point, and one to three behind it, are so many milliseconds
pub record AreDecimal (front back : List ℕ) (milliseconds : ℕ) : Type 0 where
  pub seconds : ℕ
  pub rest : ℕ
  pub digits_before : AreDigits front seconds
  pub digits_behind : AreDigits back rest
  pub few : length back ≤ 3
  pub are : milliseconds ≡ seconds * 1000 + rest * 10 ^ (3 - length back)

-- a text with a point, or without one
abbrev pub AreMilliseconds : (text : List ℕ) → (milliseconds : ℕ) → Type 0
AreMilliseconds text milliseconds =
    MatchBool (has_octet is_point text) (AreDecimal (before_first is_point text) (after_first is_point text) milliseconds) (AreWhole text milliseconds)

-- a text as `2` or `0.5` is that time, from 1 to 10^12 milliseconds
pub record AreSeconds (text : List ℕ) (milliseconds : ℕ) : Type 0 where
  pub are : AreMilliseconds text milliseconds
  pub some : 0 < milliseconds
  pub within : milliseconds ≤ 1000000000000

abbrev pub AreNoSeconds : (text : List ℕ) → Type 0
AreNoSeconds text = (milliseconds : ℕ) → AreSeconds text milliseconds → ⊥

-- a text of a time gives it, if that is fewer than 2^64 milliseconds, and otherwise the most that there are
pub record GivesTime (Are : (milliseconds : ℕ) → Type 0) (given : ℕ) : Type 0 where
  pub milliseconds : ℕ
  pub are : Are milliseconds
  pub is : given ≡ min milliseconds 18446744073709551615
