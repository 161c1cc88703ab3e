-- The two parts of an address of a link (clause J.1.2): an IPv4 address and a UDP port, as numbers.
use Rattle.std.specs.Prelude.{ℕ, List, take, drop}
use Rattle.std.specs.Int.{w16, w32, from_be_bytes}

-- an IPv4 address
abbrev pub number_of : (host : List ℕ) → ℕ
number_of host = from_be_bytes w32 host

-- that of a link
abbrev pub host_of : (link : List ℕ) → ℕ
host_of link = number_of (take 4 link)

abbrev pub port_of : (link : List ℕ) → ℕ
port_of link = from_be_bytes w16 (drop 4 link)
