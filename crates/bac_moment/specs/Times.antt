-- A moment as RFC 3339 says it, in UTC, with milliseconds.
use Rattle.std.specs.Prelude.{◌≡◌, ℕ, ℤ, pos, false, List, ◌++◌, Option, Some, None, ◌*ℤ◌}
use Rattle.jiff_core.specs.DateTime.{civil_nanos}
use Rattle.jiff_core.specs.Timestamp.{IsTimestampNanos}
use Rattle.jiff_core.specs.declared.civil.datetime.DateTime.{DateTime}
use Rattle.jiff_fmt.specs.Text.{datetime_text, zulu_text}

abbrev pub nanoseconds : (milliseconds : ℕ) → ℤ
nanoseconds milliseconds = pos milliseconds *ℤ pos 1_000_000

-- the date and the time of day so many milliseconds after 1970 began, as `2026-11-27T07:10:00.000Z`
pub record IsTimeText (milliseconds : ℕ) (text : List ℕ) : Type 0 where
  pub at : DateTime
  pub at_is : civil_nanos at ≡ nanoseconds milliseconds
  pub is : text ≡ datetime_text false 84 (Some 3) at ++ zulu_text false

-- none beyond the year 9999
abbrev pub IsTextAt : (milliseconds : ℕ) → Option (List ℕ) → Type 0
IsTextAt milliseconds None = ¬ (IsTimestampNanos (nanoseconds milliseconds))
IsTextAt milliseconds (Some text) = IsTimeText milliseconds text

-- none where the time of day is not known
abbrev pub IsTextOf : (time : Option ℕ) → Option (List ℕ) → Type 0
IsTextOf None text = text ≡ None
IsTextOf (Some milliseconds) text = IsTextAt milliseconds text
