-- The checksum of an IPv4 header (RFC 791, RFC 1071).
use Rattle.std.specs.Prelude.{ℕ, ◌+◌, ◌-◌, ◌*◌, ◌/◌, ◌%◌, List, [], ◌∷◌}

-- a sum of two words in one's complement: the carry is added at the end
abbrev pub ones_sum : ℕ → ℕ → ℕ
ones_sum a b = (a + b) % 65536 + (a + b) / 65536

-- the sum of the words of these octets, added to a sum; a single octet at the end is ignored
abbrev pub sum_from : ℕ → List ℕ → ℕ
sum_from sum [] = sum
sum_from sum (high ∷ []) = sum
sum_from sum (high ∷ low ∷ octets) = sum_from (ones_sum sum (high * 256 + low)) octets

-- the complement of the sum
abbrev pub checksum : List ℕ → ℕ
checksum octets = 65535 - sum_from 0 octets
