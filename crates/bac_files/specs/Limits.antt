-- How long a file may be.
use Rattle.std.specs.Prelude.{ℕ}

-- the most octets of a file that is read as a whole (own limit): 64 MiB
abbrev pub MOST_OCTETS : ℕ
MOST_OCTETS = 67108864
