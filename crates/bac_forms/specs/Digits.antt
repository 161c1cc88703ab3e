-- Hexadecimal digits of either case.
use Rattle.std.specs.Prelude.{ℕ, ◌+◌, ◌*◌, ◌-◌, nat_le, Bool, true, false, ◌&&◌, Option, Some, None, if◌then◌else◌}

abbrev pub is_between : (least most octet : ℕ) → Bool
is_between least most octet = nat_le least octet && nat_le octet most

abbrev pub digit_of : ℕ → Option ℕ
digit_of octet =
    if is_between 48 57 octet then Some (octet - 48) else
    (if is_between 97 102 octet then Some (octet - 97 + 10) else
    (if is_between 65 70 octet then Some (octet - 65 + 10) else None))

abbrev pub is_some : Option ℕ → Bool
is_some None = false
is_some (Some digit) = true

abbrev pub is_digit : ℕ → Bool
is_digit octet = is_some (digit_of octet)

abbrev pub octet_of : (high low : Option ℕ) → Option ℕ
octet_of None low = None
octet_of (Some high) None = None
octet_of (Some high) (Some low) = Some (16 * high + low)

-- the octet of two digits
abbrev pub pair_of : (high low : ℕ) → Option ℕ
pair_of high low = octet_of (digit_of high) (digit_of low)
