-- Numbers in the fewest octets, most significant first.
use Rattle.std.specs.Prelude.{◌≡◌, ℕ, ◌+◌, ◌-◌, ◌*◌, ◌^◌, ◌<◌, ◌≤◌, ℤ, pos, negsuc, ◌-ℤ◌, nat_lt, if◌then◌else◌, List, [], ◌∷◌, length, slice_index}
use Rattle.byteorder.specs.Endian.{big_bytes}
use Rattle.bac_value.specs.Octets.{IsBytes}

-- the unsigned number that octets encode
abbrev pub number_in : List ℕ → ℕ
number_in [] = 0
number_in (x ∷ xs) = x * 256 ^ length xs + number_in xs

-- the same octets as two's complement: from half of the range on, the number minus the whole range
abbrev pub signed_in : List ℕ → ℤ
signed_in xs = if nat_lt (number_in xs) (2 ^ (8 * length xs - 1)) then pos (number_in xs) else pos (number_in xs) -ℤ pos (2 ^ (8 * length xs))

-- clause 20.2.4: the fewest octets, at least one, that encode the number
pub record IsUnsigned (n : ℕ) (xs : List ℕ) : Type 0 where
  pub octets : IsBytes xs
  pub sum : number_in xs ≡ n
  pub some : 0 < length xs
  pub shortest : 1 < length xs → 0 < slice_index xs 0

-- clause 20.2.5: the fewest octets, at least one, that encode the number as two's complement: a first octet 00 is needed
-- before one from 80 on, and a first octet FF before one below 80
pub record IsSigned (z : ℤ) (xs : List ℕ) : Type 0 where
  pub octets : IsBytes xs
  pub sum : signed_in xs ≡ z
  pub some : 0 < length xs
  pub zeros : 1 < length xs → slice_index xs 0 ≡ 0 → 128 ≤ slice_index xs 1
  pub ones : 1 < length xs → slice_index xs 0 ≡ 255 → slice_index xs 1 < 128

-- ---- the same as functions of the number, for numbers of at most 64 bits

-- how many octets an unsigned number takes
abbrev pub width_of : ℕ → ℕ
width_of n =
    if nat_lt n 0x100 then 1 else
    (if nat_lt n 0x1_0000 then 2 else
    (if nat_lt n 0x100_0000 then 3 else
    (if nat_lt n 0x1_0000_0000 then 4 else
    (if nat_lt n 0x100_0000_0000 then 5 else
    (if nat_lt n 0x1_0000_0000_0000 then 6 else
    (if nat_lt n 0x100_0000_0000_0000 then 7 else 8))))))

-- the contents of an unsigned number
unfoldable pub unsigned_octets : ℕ → List ℕ
unsigned_octets n = big_bytes (width_of n) n

-- the distance of a number from 0, or from -1 if it is negative
abbrev pub distance : ℤ → ℕ
distance (pos n) = n
distance (negsuc n) = n

-- how many octets a signed number takes, by that distance
abbrev pub half_width_of : ℕ → ℕ
half_width_of n =
    if nat_lt n 0x80 then 1 else
    (if nat_lt n 0x8000 then 2 else
    (if nat_lt n 0x80_0000 then 3 else
    (if nat_lt n 0x8000_0000 then 4 else
    (if nat_lt n 0x80_0000_0000 then 5 else
    (if nat_lt n 0x8000_0000_0000 then 6 else
    (if nat_lt n 0x80_0000_0000_0000 then 7 else 8))))))

-- the unsigned number with the same octets: for a negative number, the greatest of that width minus the distance
abbrev pub complement : ℤ → ℕ
complement (pos n) = n
complement (negsuc n) = 256 ^ half_width_of n - 1 - n

-- the contents of a signed number
unfoldable pub signed_octets : ℤ → List ℕ
signed_octets z = big_bytes (half_width_of (distance z)) (complement z)
