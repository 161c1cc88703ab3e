-- The value that an element encodes.
use Rattle.std.specs.Prelude.{◌≡◌, ℕ, ◌/◌, ◌%◌, ◌^◌, true, ◌==◌, if◌then◌else◌, List, [], length, drop, slice_index}
use Rattle.bac_value.specs.Number.{number_in, signed_in}
use Rattle.bac_value.specs.Value.{Datum, null, boolean, unsigned, signed, real, double, octets, characters, bits, enumerated, date, time}
use Rattle.bac_value.specs.Value.{object, mark_for, IsContents}
use Rattle.bac_value.specs.Element.{Part}

-- the element encodes the value: its tag is that of the value's kind, and its contents are the value's
pub record IsValueOf (d : Datum) (p : Part) : Type 0 where
  pub tag : p.mark ≡ mark_for d (length p.contents)
  pub contents : IsContents d p.contents

-- the octets that a value owns
abbrev pub copied : Datum → List ℕ
copied (octets a) = a
copied (characters set text) = text
copied (bits unused text) = text
copied _ = []

-- the value with these contents, which are correct for the kind
abbrev pub datum_in : ℕ → List ℕ → Datum
datum_in n xs =
    if n == 0 then null else
    (if n == 1 then boolean true else
    (if n == 2 then unsigned (number_in xs) else
    (if n == 3 then signed (signed_in xs) else
    (if n == 4 then real xs else
    (if n == 5 then double xs else
    (if n == 6 then octets xs else
    (if n == 7 then characters (slice_index xs 0) (drop 1 xs) else
    (if n == 8 then bits (slice_index xs 0) (drop 1 xs) else
    (if n == 9 then enumerated (number_in xs) else
    (if n == 10 then date xs else
    (if n == 11 then time xs else object (record { kind = number_in xs / 2 ^ 22; instance = number_in xs % 2 ^ 22 }))))))))))))
