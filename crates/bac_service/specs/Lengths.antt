-- The lengths of spellings of members, as functions of numbers: what code computes without writing.
use Rattle.std.specs.Prelude.{ℕ, ◌+◌, ℤ, length, Option, Some, None}
use Rattle.bac_value.specs.Spelling.{length_octets}
use Rattle.bac_value.specs.Number.{width_of, half_width_of, distance}

-- the length of contents and a tag whose number is in its first octet
abbrev pub member_length : ℕ → ℕ
member_length k = 1 + length (length_octets k) + k

abbrev pub unsigned_length : ℕ → ℕ
unsigned_length n = member_length (width_of n)

abbrev pub signed_length : ℤ → ℕ
signed_length z = member_length (half_width_of (distance z))

-- an ObjectIdentifier takes a tag and four octets
abbrev pub OBJECT_LENGTH : ℕ
OBJECT_LENGTH = 5

-- an optional number, such as an array index
abbrev pub index_length : Option ℕ → ℕ
index_length None = 0
index_length (Some i) = unsigned_length i

-- contents with an opening and a closing tag
abbrev pub enclosed_length : ℕ → ℕ
enclosed_length k = k + 2
