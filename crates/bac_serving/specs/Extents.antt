-- How long a document may be that a server follows.
use Rattle.std.specs.Prelude.{ℕ, ◌==◌, Bool, List, count_by, nat_lt}

-- the most keys
abbrev pub KEYS : ℕ
KEYS = 50000

-- an `=`
abbrev pub is_mark : ℕ → Bool
is_mark octet = octet == 61

-- more of the octets are `=` than a document may have keys
abbrev pub has_too_many_keys : (text : List ℕ) → Bool
has_too_many_keys text = nat_lt KEYS (count_by is_mark text)
