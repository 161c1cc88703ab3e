-- Numbers that a key tells, and an order of places that it tells.
use Rattle.std.specs.Prelude.{ℕ, ◌+◌, ◌*◌, ◌/◌, ◌%◌, List, ◌∷◌, ◌++◌, take}
use Rattle.std.specs.Int.{w16, w64, from_be_bytes, to_be_bytes}
use Rattle.sha2.specs.Sha256.{sha256}

-- the number of a value for a purpose: the first two octets of the digest of the key, the purpose and the value's eight octets
abbrev pub keyed : (key : List ℕ) (purpose value : ℕ) → ℕ
keyed key purpose value = from_be_bytes w16 (take 2 (sha256 (key ++ purpose ∷ to_be_bytes w64 value)))

-- one round of a Feistel network over a square of 161 rows and columns, whose place n is in row n / 161 and column n % 161: the columns become the rows, and
-- each of these is turned by a number of its own
abbrev pub shuffled : (turn : ℕ → ℕ) (place : ℕ) → ℕ
shuffled turn place = place % 161 * 161 + (place / 161 + turn (place % 161)) % 161

-- the place of a share of time: four rounds, of its number modulo 25,921
abbrev pub place_of : (key : List ℕ) (share : ℕ) → ℕ
place_of key share = shuffled (keyed key 3) (shuffled (keyed key 2) (shuffled (keyed key 1) (shuffled (keyed key 0) (share % 25921))))
